-- One more event of a journal.
use Rattle.std.proofs.Common.{◌≡◌, ◌≢◌, ℕ, zero, suc, ◌+◌, ◌<◌, ◌≤◌, Bool, true, false, cond, List, [], ◌∷◌, ◌++◌, length, get_or, set, replicate, Option, None, Some, refl, sym, ◌∙◌, ap, subst, inl, inr, arith, get_or-set_other, get_or-set_same, length-set}
use Rattle.std.specs.Prelude.{◌==◌, IsSome, IfSome}
use Rattle.std.specs.List.{AllByRecursion}
use Rattle.std.specs.Option.{option_to_list}
use Rattle.std.proofs.lemmas.List.{length-append, length-replicate, get_or-replicate}
use Rattle.std.proofs.lemmas.Bool.{cases_Bool, true≢false}
use Rattle.std.proofs.lemmas.Bool.Decides.{nat_tests}
use Rattle.mls_model.specs.declared.lanes.LaneKind.{LaneKind}
use Rattle.mls_model.specs.Numbers.{element, times}
use Rattle.mls_model.specs.Places.{gathered}
use Rattle.mls_model.specs.Frames.{Frame}
use Rattle.mls_model.specs.Histories.{LaneEvent}
use Rattle.mls_laws.proofs.Places.{gathered_more}
use Rattle.mls_tape.specs.Events.{IsToldEvent}
use Rattle.mls_book.specs.Journals.{ToldLane, told_event, told_history, AllTell}
use Rattle.mls_book.specs.Books.{IsJournal}

-- how often a number stands in a longer list
pub times_append : (n : ℕ) (xs ys : List ℕ) → times n (xs ++ ys) ≡ times n xs + times n ys
times_append n [] ys = omega arith
times_append n (x ∷ xs) ys = elim (x == n) as (λ b. cond b (suc (times n (xs ++ ys))) (times n (xs ++ ys)) ≡ cond b (suc (times n xs)) (times n xs) + times n ys) [ true ↦ omega (arith, times_append n xs ys) | false ↦ times_append n xs ys ]

times_one : (j k : ℕ) → (k == j) ≡ true → times j (k ∷ []) ≡ 1
times_one j k same = ap (λ b. cond b 1 0) same

times_none : (j k : ℕ) → (k == j) ≡ false → times j (k ∷ []) ≡ 0
times_none j k other = ap (λ b. cond b 1 0) other

same_number : (n : ℕ) → (n == n) ≡ true
same_number n = grind (arith, nat_tests)

-- no number stands oftener than the list is long
pub times_few : (n : ℕ) (xs : List ℕ) → times n xs ≤ length xs
times_few n [] = omega arith
times_few n (x ∷ xs) = elim (x == n) as (λ b. cond b (suc (times n xs)) (times n xs) ≤ suc (length xs)) [ true ↦ omega (arith, times_few n xs) | false ↦ omega (arith, times_few n xs) ]

-- what holds of each element, and of one more
pub all_more : {X : Type 0} (P : X → Type 0) (xs : List X) (x : X) → AllByRecursion P xs → P x → AllByRecursion P (xs ++ x ∷ [])
all_more P [] x all here = (here, tt)
all_more P (y ∷ xs) x all here = (all.0, all_more P xs x all.1 here)

all_before : {X : Type 0} (P : X → Type 0) (xs : List X) (x : X) → AllByRecursion P (xs ++ x ∷ []) → AllByRecursion P xs × P x
all_before P [] x all = (tt, all.0)
all_before P (y ∷ xs) x all = let rest = all_before P xs x all.1 in ((all.0, rest.0), rest.1)

pub tell_before : (told : ℕ → ToldLane) (journal : List ℕ) (k : ℕ) → AllTell told (journal ++ k ∷ []) → AllTell told journal × IsSome (told k)
tell_before told journal k all = all_before (λ j. IsSome (told j)) journal k all

-- the event that a lane tells
pub told_is : (lane : ToldLane) (n : ℕ) (kind : LaneKind) (frame : Frame) → IsToldEvent lane n kind frame → IsSome lane → told_event lane n ≡ Some (record { kind = kind; frame = frame })
told_is None n kind frame told some = absurd (true≢false (sym some))
told_is (Some (k, frames)) n kind frame told some =
    let at : told_event (Some (k, frames)) n ≡ Some (record { kind = k; frame = frame }) = ap (λ (o : Option Frame). Rattle.std.specs.Option.option_map (λ (f : Frame). let e : LaneEvent = record { kind = k; frame = f } in e) o) told.1 in
    at ∙ ap (λ (q : LaneKind). let e : LaneEvent = record { kind = q; frame = frame } in Some e) told.0

-- it has more events than its number
element_few : {A : Type 0} (xs : List A) (n : ℕ) (x : A) → element xs n ≡ Some x → n < length xs
element_few [] n x at = let clash : None ≡ Some x = at in absurd cc
element_few (y ∷ xs) zero x at = omega arith
element_few (y ∷ xs) (suc n) x at = let few = element_few xs n x at in omega (arith, few)

pub told_few : (lane : ToldLane) (n : ℕ) (kind : LaneKind) (frame : Frame) → IsToldEvent lane n kind frame → IfSome lane (λ (l : LaneKind × List Frame). n < length l.1)
told_few None n kind frame told = tt
told_few (Some (k, frames)) n kind frame told = element_few frames n frame told.1

-- the history with one more event
pub history_more : (told : ℕ → ToldLane) (journal : List ℕ) (k n : ℕ) (e : LaneEvent) → n ≡ times k journal → told_event (told k) n ≡ Some e → told_history told (journal ++ k ∷ []) ≡ told_history told journal ++ e ∷ []
unfolding told_history
history_more told journal k n e count there =
    let found : told_event (told k) (times k journal) ≡ Some e = ap (λ (m : ℕ). told_event (told k) m) (sym count) ∙ there in
    gathered_more (λ before j. option_to_list (told_event (told j) (times j before))) [] journal k
    ∙ ap (λ (o : Option LaneEvent). told_history told journal ++ option_to_list o) found

pub history_none : (told : ℕ → ToldLane) → told_history told [] ≡ []
unfolding told_history gathered
history_none told = refl

-- it has at most one event for each place
one_each : {A : Type 0} (o : Option A) → length (option_to_list o) ≤ 1
one_each None = omega arith
one_each (Some x) = omega arith

gathered_few : {A : Type 0} (give : List ℕ → ℕ → Option A) (before xs : List ℕ) → length (gathered (λ b k. option_to_list (give b k)) before xs) ≤ length xs
unfolding gathered
gathered_few give before [] = omega arith
gathered_few give before (x ∷ rest) =
    let more = gathered_few give (before ++ x ∷ []) rest in
    let one = one_each (give before x) in
    let sum = length-append (option_to_list (give before x)) (gathered (λ b k. option_to_list (give b k)) (before ++ x ∷ []) rest) in
    omega (arith, more, one, sum)

pub history_few : (told : ℕ → ToldLane) (journal : List ℕ) → length (told_history told journal) ≤ length journal
unfolding told_history
history_few told journal = gathered_few (λ before k. told_event (told k) (times k before)) [] journal

-- how often each lane was taken, with one more event of a lane
each_more : (taken journal : List ℕ) (k n j : ℕ) → n ≡ get_or taken k 0 → j < length taken → get_or taken j 0 ≡ times j journal → get_or (set taken k (n + 1)) j 0 ≡ times j (journal ++ k ∷ [])
each_more taken journal k n j next lt was =
    let more = times_append j journal (k ∷ []) in
    elim (cases_Bool (k == j)) [
      | inl same ↦
          let e : k ≡ j = grind (arith, nat_tests, same) in
          let one = times_one j k same in
          let now : get_or (set taken j (n + 1)) j 0 ≡ n + 1 = get_or-set_same taken j (n + 1) 0 lt in
          let at : get_or (set taken k (n + 1)) j 0 ≡ n + 1 = subst (λ m. get_or (set taken m (n + 1)) j 0 ≡ n + 1) (sym e) now in
          let is : n ≡ get_or taken j 0 = subst (λ m. n ≡ get_or taken m 0) e next in
          omega (arith, at, is, was, more, one)
      | inr other ↦
          let ne : j ≢ k = grind (arith, nat_tests, other) in
          let none = times_none j k other in
          let now = get_or-set_other taken k j (n + 1) 0 ne in
          omega (arith, now, was, more, none)
    ]

within_at : (lane : ToldLane) (journal : List ℕ) (k n j : ℕ) → n ≡ times k journal → k ≡ j → IfSome lane (λ (l : LaneKind × List Frame). n < length l.1) → IfSome lane (λ (l : LaneKind × List Frame). times j (journal ++ k ∷ []) ≤ length l.1)
within_at None journal k n j count same few = tt
within_at (Some l) journal k n j count same few =
    let more = times_append j journal (k ∷ []) in
    let t : (k == j) ≡ true = subst (λ m. (k == m) ≡ true) same (same_number k) in
    let one = times_one j k t in
    let is : n ≡ times j journal = subst (λ m. n ≡ times m journal) same count in
    let fewer : n < length l.1 = few in
    omega (arith, more, one, is, fewer)

within_other : (lane : ToldLane) (journal : List ℕ) (k j : ℕ) → (k == j) ≡ false → IfSome lane (λ (l : LaneKind × List Frame). times j journal ≤ length l.1) → IfSome lane (λ (l : LaneKind × List Frame). times j (journal ++ k ∷ []) ≤ length l.1)
within_other None journal k j other few = tt
within_other (Some l) journal k j other few =
    let more = times_append j journal (k ∷ []) in
    let none = times_none j k other in
    let fewer : times j journal ≤ length l.1 = few in
    omega (arith, more, none, fewer)

-- the journal with one more event of a lane
pub journal_more : (told : ℕ → ToldLane) (belongs : ℕ → Bool) (lanes : ℕ) (journal taken : List ℕ) (k n : ℕ)
    → k < lanes → belongs k ≡ true → n ≡ get_or taken k 0 → IfSome (told k) (λ (l : LaneKind × List Frame). n < length l.1)
    → IsJournal told belongs lanes journal taken → IsJournal told belongs lanes (journal ++ k ∷ []) (set taken k (n + 1))
journal_more told belongs lanes journal taken k n there own next few is =
    let count : n ≡ times k journal = next ∙ is.each k there in
    record {
      size = length-set taken k (n + 1) ∙ is.size;
      each = λ j lt. each_more taken journal k n j next (subst (λ m. j < m) (sym is.size) lt) (is.each j lt);
      own = all_more (λ j. belongs j ≡ true) journal k is.own own;
      within = λ j. elim (cases_Bool (k == j)) [
        | inl same ↦
            let e : k ≡ j = grind (arith, nat_tests, same) in
            within_at (told j) journal k n j count e (subst (λ (m : ℕ). IfSome (told m) (λ (l : LaneKind × List Frame). n < length l.1)) e few)
        | inr other ↦ within_other (told j) journal k j other (is.within j)
      ];
    }

none_within : (lane : ToldLane) → IfSome lane (λ (l : LaneKind × List Frame). 0 ≤ length l.1)
none_within None = tt
none_within (Some l) = omega arith

-- none is taken at the beginning
pub journal_none : (told : ℕ → ToldLane) (belongs : ℕ → Bool) (lanes : ℕ) (taken : List ℕ) → taken ≡ replicate lanes 0 → IsJournal told belongs lanes [] taken
journal_none told belongs lanes taken zeros = record {
  size = ap length zeros ∙ length-replicate lanes 0;
  each = λ k lt. ap (λ (xs : List ℕ). get_or xs k 0) zeros ∙ get_or-replicate lanes k 0 0 lt;
  own = tt;
  within = λ k. none_within (told k);
}

-- an element that is there is there whatever stands for those that aren't
pub get_or_any : (xs : List ℕ) (k d d' : ℕ) → k < length xs → get_or xs k d ≡ get_or xs k d'
get_or_any [] k d d' there = absurd (omega (arith, there))
get_or_any (x ∷ xs) zero d d' there = refl
get_or_any (x ∷ xs) (suc k) d d' there = get_or_any xs k d d' (omega (arith, there))
