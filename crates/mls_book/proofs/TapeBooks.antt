-- A book over the lanes of a tape.
use Rattle.std.proofs.Common.{◌≡◌, ℕ, zero, suc, ◌<◌, ◌≤◌, Bool, true, ◌&&◌, List, [], ◌∷◌, ◌++◌, length, Option, None, Some, refl, sym, ap, ◌∙◌, arith}
use Rattle.std.specs.Prelude.{IsSome, IfSome, nat_le}
use Rattle.std.specs.List.{AllByRecursion, list_all}
use Rattle.std.specs.Option.{option_to_list}
use Rattle.std.proofs.lemmas.Bool.{true≢false}
use Rattle.std.proofs.lemmas.Bool.Decides.{nat_tests}
use Rattle.mls_model.specs.declared.lanes.LaneKind.{LaneKind}
use Rattle.mls_model.specs.Numbers.{element, times}
use Rattle.mls_model.specs.Places.{gathered}
use Rattle.mls_model.specs.Frames.{Frame}
use Rattle.mls_model.specs.Lanes.{Lane}
use Rattle.mls_model.specs.Schedules.{event_count, is_lane_of, is_legal_order}
use Rattle.mls_model.specs.Histories.{LaneEvent, event_of, history}
use Rattle.mls_tape.specs.Tapes.{told_lane}
use Rattle.mls_book.specs.Journals.{told_event, told_history, AllTell}
use Rattle.mls_book.specs.Books.{IsJournal}

-- a lane of a rank is there
lane_tells : (lanes : List Lane) (rank k : ℕ) → is_lane_of lanes rank k ≡ true → IsSome (told_lane lanes k)
lane_tells [] rank k own = absurd (true≢false (sym own))
lane_tells (lane ∷ lanes) rank zero own = refl
lane_tells (lane ∷ lanes) rank (suc k) own = lane_tells lanes rank k own

-- what was taken of it is no more than its events
pub count_within : (lanes : List Lane) (rank k n : ℕ) → is_lane_of lanes rank k ≡ true → IfSome (told_lane lanes k) (λ (l : LaneKind × List Frame). n ≤ length l.1) → n ≤ event_count lanes k
count_within [] rank k n own few = absurd (true≢false (sym own))
count_within (lane ∷ lanes) rank zero n own few = few
count_within (lane ∷ lanes) rank (suc k) n own few = count_within lanes rank k n own few

pub told_within : (lanes : List Lane) (k n : ℕ) → k < length lanes → IfSome (told_lane lanes k) (λ (l : LaneKind × List Frame). n ≤ length l.1) → n ≤ event_count lanes k
told_within [] k n there few = absurd (omega (arith, there))
told_within (lane ∷ lanes) zero n there few = few
told_within (lane ∷ lanes) (suc k) n there few = told_within lanes k n (omega (arith, there)) few

all_pass : (p : ℕ → Bool) (P : ℕ → Type 0) (xs : List ℕ) → ((k : ℕ) → P k → p k ≡ true) → AllByRecursion P xs → list_all p xs ≡ true
all_pass p P [] pass all = refl
all_pass p P (x ∷ xs) pass all = ap (λ b. b && list_all p xs) (pass x all.0) ∙ all_pass p P xs pass all.1

all_other : (P Q : ℕ → Type 0) (xs : List ℕ) → ((k : ℕ) → P k → Q k) → AllByRecursion P xs → AllByRecursion Q xs
all_other P Q [] other all = tt
all_other P Q (x ∷ xs) other all = (other x all.0, all_other P Q xs other all.1)

-- the journal is legal
pub legal_journal : (lanes : List Lane) (rank count : ℕ) (journal taken : List ℕ) → IsJournal (told_lane lanes) (is_lane_of lanes rank) count journal taken → is_legal_order lanes rank journal ≡ true
unfolding is_legal_order
legal_journal lanes rank count journal taken is = all_pass (λ k. is_lane_of lanes rank k && nat_le (times k journal) (event_count lanes k)) (λ k. is_lane_of lanes rank k ≡ true) journal
    (λ k own.
    let few = count_within lanes rank k (times k journal) own (is.within k) in
    let le : nat_le (times k journal) (event_count lanes k) ≡ true = grind (arith, nat_tests, few) in
    ap (λ b. b && nat_le (times k journal) (event_count lanes k)) own ∙ le)
    is.own

-- its lanes tell
pub journal_tells : (lanes : List Lane) (rank count : ℕ) (journal taken : List ℕ) → IsJournal (told_lane lanes) (is_lane_of lanes rank) count journal taken → AllTell (told_lane lanes) journal
journal_tells lanes rank count journal taken is = all_other (λ k. is_lane_of lanes rank k ≡ true) (λ k. IsSome (told_lane lanes k)) journal (λ k own. lane_tells lanes rank k own) is.own

-- and the history is the tape's
same_told : (lane : Option Lane) (n : ℕ) → told_event (Rattle.std.specs.Option.option_map (λ (l : Lane). (l.kind, l.frames)) lane) n ≡ Rattle.std.specs.Option.option_and_then (λ (l : Lane). Rattle.std.specs.Option.option_map (λ (f : Frame). let e : LaneEvent = record { kind = l.kind; frame = f } in e) (element l.frames n)) lane
same_told None n = refl
same_told (Some l) n = refl

gathered_same : (give give' : List ℕ → ℕ → List LaneEvent) (before xs : List ℕ) → ((b : List ℕ) (k : ℕ) → give b k ≡ give' b k) → gathered give before xs ≡ gathered give' before xs
unfolding gathered
gathered_same give give' before [] same = refl
gathered_same give give' before (x ∷ rest) same = ap (λ (e : List LaneEvent). e ++ gathered give (before ++ x ∷ []) rest) (same before x) ∙ ap (λ (r : List LaneEvent). give' before x ++ r) (gathered_same give give' (before ++ x ∷ []) rest same)

pub told_tape : (lanes : List Lane) (journal : List ℕ) → told_history (told_lane lanes) journal ≡ history lanes journal
unfolding told_history history
told_tape lanes journal = gathered_same (λ before k. option_to_list (told_event (told_lane lanes k) (times k before))) (λ before k. option_to_list (event_of lanes k (times k before))) [] journal
    (λ before k. ap option_to_list (same_told (element lanes k) (times k before)))
