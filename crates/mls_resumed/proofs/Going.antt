-- What becomes of a rank that goes on, and of its keeper, with the event at a place of its list.
use Rattle.std.proofs.Common.{◌≡◌, ℕ, zero, suc, ◌+◌, ◌^◌, ◌<◌, ◌≤◌, min, Bool, true, false, ◌&&◌, ◌||◌, cond, List, [], ◌∷◌, ◌++◌, length, take, get_or, set, replicate, ◌≢◌, Option, Some, None, Err, refl, sym, ◌∙◌, ap, subst, inl, inr, arith, append_assoc, length-append}
use Rattle.std.specs.Prelude.{IsSome, IfSome, ◌==◌}
use Rattle.std.specs.List.{list_any}
use Rattle.std.specs.Option.{option_to_list}
use Rattle.std.proofs.lemmas.Bool.{cases_Bool, true≢false}
use Rattle.std.proofs.lemmas.Bool.Decides.{nat_tests}
use Rattle.std.proofs.lemmas.List.{get_or-set_same, get_or-set_other, length-set, get_or-replicate, take_all}
use Rattle.std.proofs.lemmas.List.Folds.{list_any-append}
use Rattle.std.proofs.Math.ListN.{length-replicate}
use Rattle.mls_base.specs.declared.outside.Keeper as keeper
use Rattle.mls_base.specs.Told.{Rose, last_count, raised, replaced}
use Rattle.mls_model.specs.declared.lanes.LaneKind.{LaneKind}
use Rattle.mls_model.specs.Frames.{Frame}
use Rattle.mls_model.specs.declared.outcomes.Outcome.{Outcome}
use Rattle.mls_model.specs.Numbers.{times}
use Rattle.mls_model.specs.Lanes.{Lane}
use Rattle.mls_model.specs.Places.{any_place, gathered}
use Rattle.mls_model.specs.Studies.{Sizes}
use Rattle.mls_model.specs.Standing.{Table}
use Rattle.mls_model.specs.Histories.{LaneEvent, event_of, history}
use Rattle.mls_model.specs.Survival.{is_save, is_crash, before_last_save, crash_after_save}
use Rattle.mls_laws.proofs.Places.{any_place_append}
use Rattle.mls_laws.proofs.Surviving.{crash_after_save_more}
use Rattle.mls_ckpt.specs.Histories.{checkpoint}
use Rattle.mls_ckpt.specs.Reading.{Cursor, Read}
use Rattle.mls_rank.specs.declared.rank_core.RankCore.{RankCore}
use Rattle.mls_rank.specs.Standing.{StandsFor}
use Rattle.mls_result.specs.declared.fault.FoldFault.{FoldFault}
use Rattle.mls_replay.specs.Folding.{fault_at}
use Rattle.mls_field.specs.declared.fold.RowFold.{Ghosts}
use Rattle.mls_book.specs.declared.faults.BookFault.{BookFault}
use Rattle.mls_book.specs.declared.faults.BookFault.TheVariants.{KeeperFault, CheckpointBad, Memory}
use Rattle.mls_book.specs.declared.saved_rank.SavedRank.{SavedRank}
use Rattle.mls_book.specs.Histories.{Sure}
use Rattle.mls_book.specs.SavedRanks.{core_of, study_of, number_of, total_of, saved_of, keeper_of, reads_keeper, calls_keeper, CarriesHistory, CountsFew}
use Rattle.mls_book.specs.Backups.{given_state, gets_after, written_of}
use Rattle.mls_book.specs.Faults.{IsRefusal}
use Rattle.mls_book.specs.Runs.{raised_times, reads_of, gets_over}
use Rattle.mls_book.specs.Keepers.{KeeperState, keeper_seen, FaultSays}
use Rattle.mls_book.proofs.Carrying.{no_save_more, save_more, before_other}
use Rattle.mls_book.proofs.KeeperLaws.{history_front, no_call}
use Rattle.mls_book.proofs.RunLaws.{gets_more, gets_none}
use Rattle.mls_book.proofs.RankTakes.{RankTakes, RankRefuses, few_places, same_event}
use Rattle.mls_book.proofs.JournalLaws.{times_append}
use Rattle.mls_replay.proofs.Orders.{history_more, take_one_more}
use Rattle.mls_resume.specs.Opening.{saved_event, OpensWith}
use Rattle.mls_resumed.specs.GoingOn.{whole_of, held_on, HasGoneOn, RankStops, IsGoingOn, AreTaken}

-- the whole history with an event
pub whole_more : (before run : List LaneEvent) (e : LaneEvent) → whole_of before run ++ e ∷ [] ≡ whole_of before (run ++ e ∷ [])
whole_more before run e = append_assoc before (saved_event ∷ run) (e ∷ [])

pub whole_long : (before run : List LaneEvent) → length (whole_of before run) ≡ length before + suc (length run)
whole_long before run = length-append before (saved_event ∷ run)

no_events : (lanes : List Lane) → history lanes [] ≡ []
unfolding history gathered
no_events lanes = refl

-- no list makes a longer history
few_events : (o : Option LaneEvent) → length (option_to_list o) ≤ 1
few_events None = omega arith
few_events (Some e) = omega arith

pub history_long : (lanes : List Lane) (order : List ℕ) (place : ℕ) → place ≤ length order → length (history lanes (take place order)) ≤ place
history_long lanes order zero within = let none = ap length (no_events lanes) in omega (arith, none)
history_long lanes order (suc place) within =
    let here : place < length order = omega (arith, within) in
    let k = get_or order place 0 in
    let grown : take (suc place) order ≡ take place order ++ k ∷ [] = ap (λ n. take n order) (let e : suc place ≡ place + 1 = omega arith in e) ∙ take_one_more order place here in
    let longer = ap (λ o. length (history lanes o)) grown ∙ ap length (history_more lanes (take place order) k) ∙ length-append (history lanes (take place order)) (option_to_list (event_of lanes k (times k (take place order)))) in
    let one = few_events (event_of lanes k (times k (take place order))) in
    let so_far = history_long lanes order place (omega (arith, within)) in
    omega (arith, longer, one, so_far)

-- a value that is told, where the same told before
told_is : {A : Type 0} (old new start : Option A) (b : Bool) (before value value' : A) → new ≡ replaced old value → old ≡ cond b (replaced start before) start → IfSome new (λ kept. kept ≡ value') → new ≡ replaced start value'
told_is old new None true before value value' put was is = put ∙ ap (λ o. replaced o value) was
told_is old new None false before value value' put was is = put ∙ ap (λ o. replaced o value) was
told_is old new (Some x) true before value value' put was is =
    let told : new ≡ Some value = put ∙ ap (λ o. replaced o value) was in
    told ∙ ap Some (subst (λ o. IfSome o (λ kept. kept ≡ value')) told is)
told_is old new (Some x) false before value value' put was is =
    let told : new ≡ Some value = put ∙ ap (λ o. replaced o value) was in
    told ∙ ap Some (subst (λ o. IfSome o (λ kept. kept ≡ value')) told is)

some_put : {A : Type 0} (old new : Option A) (value : A) → new ≡ replaced old value → IsSome old → IsSome new
some_put None new value put some = absurd (true≢false (sym some))
some_put (Some x) new value put some = subst IsSome (sym put) refl

-- the keeper after an event more
held_more : {F K : Type 0} {R : Ghosts F} {U : keeper.Ghosts K} (s : Sizes) (rank : ℕ) (before h : List LaneEvent) (e : LaneEvent) (o : Outcome) (entry : Option (Option (List ℕ))) (old new : SavedRank F K R U)
    → RankTakes old new e o → study_of new ≡ s → number_of new ≡ rank → saved_of new ≡ list_any is_save (h ++ e ∷ []) → CarriesHistory new (whole_of before (h ++ e ∷ [])) (h ++ e ∷ [])
    → U.held (keeper_of old) ≡ held_on R.part_of s rank before h entry → U.held (keeper_of new) ≡ held_on R.part_of s rank before (h ++ e ∷ []) entry
held_more {F} {K} {R} {U} s rank before h e o entry old new t sizes number had now run = elim (cases_Bool (is_save e)) [
  | inl saves ↦
      let some : list_any is_save (h ++ e ∷ []) ≡ true = save_more h e saves in
      let mine = now.kept (had ∙ some) in
      let at : IfSome (U.held (keeper_of new)) (λ kept. kept ≡ Some (checkpoint R.part_of s rank (before_last_save (whole_of before (h ++ e ∷ []))))) =
      subst (λ (z : Sizes). IfSome (U.held (keeper_of new)) (λ kept. kept ≡ Some (checkpoint R.part_of z rank (before_last_save (whole_of before (h ++ e ∷ [])))))) sizes
      (subst (λ (r : ℕ). IfSome (U.held (keeper_of new)) (λ kept. kept ≡ Some (checkpoint R.part_of (study_of new) r (before_last_save (whole_of before (h ++ e ∷ [])))))) number mine) in
      told_is (U.held (keeper_of old)) (U.held (keeper_of new)) entry (list_any is_save h) (Some (checkpoint R.part_of s rank (before_last_save (whole_of before h)))) (Some (written_of new.core))
      (Some (checkpoint R.part_of s rank (before_last_save (whole_of before (h ++ e ∷ []))))) (t.put saves) run at
      ∙ sym (ap (λ (b : Bool). cond b (replaced entry (Some (checkpoint R.part_of s rank (before_last_save (whole_of before (h ++ e ∷ [])))))) entry) some)
  | inr other ↦
      t.held other ∙ run
      ∙ ap (λ (b : Bool). cond b (replaced entry (Some (checkpoint R.part_of s rank (before_last_save (whole_of before h))))) entry) (sym (no_save_more h e other))
      ∙ ap (λ (g : List LaneEvent). cond (list_any is_save (h ++ e ∷ [])) (replaced entry (Some (checkpoint R.part_of s rank g))) entry)
      (sym (before_other (whole_of before h) e other) ∙ ap before_last_save (whole_more before h e))
]

still_told : {F K : Type 0} {R : Ghosts F} {U : keeper.Ghosts K} (e : LaneEvent) (o : Outcome) (old new : SavedRank F K R U) → RankTakes old new e o → IsSome (U.held (keeper_of old)) → IsSome (U.held (keeper_of new))
still_told {F} {K} {R} {U} e o old new t told = elim (cases_Bool (is_save e)) [
  | inl saves ↦ some_put (U.held (keeper_of old)) (U.held (keeper_of new)) (Some (written_of new.core)) (t.put saves) told
  | inr other ↦ subst IsSome (sym (t.held other)) told
]

first_false : (a b : Bool) → (a || b) ≡ false → a ≡ false
first_false true b e = let f : true ≡ false = e in cc
first_false false b e = refl

or_none : (b : Bool) → (b || false) ≡ b
or_none true = refl
or_none false = refl

-- What is known of the event at a place of a list.
pub record IsHere (lanes : List Lane) (order : List ℕ) (place : ℕ) (e : LaneEvent) : Type 0 where
  pub here : place < length order
  pub short : length order < 2 ^ 61
  pub event : event_of lanes (get_or order place 0) (times (get_or order place 0) (take place order)) ≡ Some e

-- the history with the event
with_event : (lanes : List Lane) (order : List ℕ) (place : ℕ) (e : LaneEvent) → IsHere lanes order place e → history lanes (take (place + 1) order) ≡ history lanes (take place order) ++ e ∷ []
with_event lanes order place e is =
    let k = get_or order place 0 in
    ap (history lanes) (take_one_more order place is.here) ∙ history_more lanes (take place order) k ∙ ap (λ o. history lanes (take place order) ++ option_to_list o) is.event

whole_with : (lanes : List Lane) (order : List ℕ) (place : ℕ) (e : LaneEvent) → IsHere lanes order place e → (rest : List LaneEvent) × (history lanes order ≡ (history lanes (take place order) ++ e ∷ []) ++ rest)
whole_with lanes order place e is = let front = history_front lanes order (place + 1) in (front.0, front.1 ∙ ap (λ h. h ++ front.0) (with_event lanes order place e is))

no_call_here : (lanes : List Lane) (order : List ℕ) (place : ℕ) (e : LaneEvent) (saved : Bool) → IsHere lanes order place e → saved ≡ list_any is_save (history lanes (take place order)) → list_any is_save (history lanes order) ≡ false → calls_keeper saved e ≡ false
no_call_here lanes order place e saved is had none =
    let h = history lanes (take place order) in
    let whole = whole_with lanes order place e is in
    let in_front : list_any is_save (h ++ e ∷ []) ≡ false = first_false (list_any is_save (h ++ e ∷ [])) (list_any is_save whole.0) (sym (list_any-append is_save (h ++ e ∷ []) whole.0) ∙ (ap (list_any is_save) (sym whole.1) ∙ none)) in
    no_call h e saved had in_front

-- the event is taken
pub one_taken : {F K : Type 0} {R : Ghosts F} {U : keeper.Ghosts K} (s : Sizes) (rank : ℕ) (opening : List ℕ) (lanes : List Lane) (order : List ℕ) (place : ℕ) (entry : K) (e : LaneEvent) (o : Outcome) (old new : SavedRank F K R U)
    → IsHere lanes order place e → RankTakes old new e o → IsGoingOn R U s rank opening lanes order place entry old → IsGoingOn R U s rank opening lanes order (place + 1) entry new
one_taken {F} {K} {R} {U} s rank opening lanes order place entry e o old new is t g =
    let h = history lanes (take place order) in
    let more = with_event lanes order place e is in
    let sizes : study_of new ≡ s = t.sizes ∙ g.sizes in
    let number : number_of new ≡ rank = t.rank ∙ g.number in
    let had : saved_of new ≡ list_any is_save (h ++ e ∷ []) = t.saved ∙ ap (λ b. b || is_save e) g.saved ∙ ap (λ b. list_any is_save h || b) (sym (or_none (is_save e))) ∙ sym (list_any-append is_save h (e ∷ [])) in
    let carries : (before : List LaneEvent) → OpensWith R s rank opening before → CarriesHistory new (whole_of before (h ++ e ∷ [])) (h ++ e ∷ []) = λ before opens.
    let long = whole_long before h in
    let events = history_long lanes order place (let here = is.here in omega (arith, here)) in
    let few : length (whole_of before h) ≤ 2 ^ 62 = let here = is.here in let short = is.short in let most = opens.few in omega (arith, long, events, here, short, most) in
    subst (λ (w : List LaneEvent). CarriesHistory new w (h ++ e ∷ [])) (whole_more before h e) (t.carries (whole_of before h) h few (g.carries before opens)) in
    let runs : HasGoneOn R.part_of s rank (OpensWith R s rank opening) (h ++ e ∷ []) (keeper_seen U entry) (keeper_seen U (keeper_of new)) = record {
      held = λ before opens. held_more s rank before h e o (U.held entry) old new t sizes number had (carries before opens) (g.runs.held before opens);
      told = λ some. still_told e o old new t (g.runs.told some);
      gets = t.gets ∙ (ap (λ (n : ℕ). gets_after (reads_keeper (saved_of old) e) n) g.runs.gets
          ∙ (ap (λ (b : Bool). gets_after (reads_keeper b e) (gets_over h (U.gets entry))) g.saved ∙ sym (gets_more h e (U.gets entry))));
      faults = t.faults ∙ g.runs.faults;
      sound = λ sure. t.sound (g.runs.sound sure);
    } in
    record {
      sizes = sizes;
      number = number;
      saved = had ∙ ap (list_any is_save) (sym more);
      total = few_places (total_of old) (total_of new) place g.total t.sum;
      few = subst (CountsFew new) (let e : 2 ^ 61 + place + 1 ≡ 2 ^ 61 + (place + 1) = omega arith in e)
          (t.counts (2 ^ 61 + place) (let here = is.here in let short = is.short in omega (arith, here, short)) g.few);
      carries = λ before opens. subst (λ (run : List LaneEvent). CarriesHistory new (whole_of before run) run) (sym more) (carries before opens);
      runs = subst (λ (run : List LaneEvent). HasGoneOn R.part_of s rank (OpensWith R s rank opening) run (keeper_seen U entry) (keeper_seen U (keeper_of new))) (sym more) runs;
      quiet = λ none. t.untouched (no_call_here lanes order place e (saved_of old) is g.saved none) ∙ g.quiet none;
    }

le_raised : (n count : ℕ) → count ≤ raised_times n count
le_raised zero count = omega arith
le_raised (suc n) count = let h = le_raised n count in omega (arith, h)

rose_read : (n count : ℕ) → min (count + 1) last_count ≤ raised (raised_times n count)
rose_read n count = let h = le_raised n count in omega (arith, h)

save_in_front : (front rest : List LaneEvent) → list_any is_save front ≡ true → list_any is_save (front ++ rest) ≡ true
save_in_front front rest saves = list_any-append is_save front rest ∙ ap (λ b. b || list_any is_save rest) saves

crash_in_front : (front rest : List LaneEvent) → crash_after_save front ≡ true → crash_after_save (front ++ rest) ≡ true
unfolding crash_after_save
crash_in_front front rest crashes =
    let test : List LaneEvent → LaneEvent → Bool = λ before e. is_crash e && list_any is_save before in
    any_place_append test [] front rest ∙ ap (λ b. b || any_place test front rest) crashes

calls_saved : (h : List LaneEvent) (e : LaneEvent) (saved : Bool) → saved ≡ list_any is_save h → calls_keeper saved e ≡ true → list_any is_save (h ++ e ∷ []) ≡ true
calls_saved h e saved had calls = elim (cases_Bool (list_any is_save (h ++ e ∷ []))) [ inl some ↦ some | inr none ↦ absurd (true≢false (sym calls ∙ no_call h e saved had none)) ]

or_true : (b : Bool) → (b || true) ≡ true
or_true true = refl
or_true false = refl

both_true : (a b : Bool) → (a && b) ≡ true → (a ≡ true) × (b ≡ true)
both_true true b e = (refl, e)
both_true false b e = let f : false ≡ true = e in cc

reads_crash : (h : List LaneEvent) (e : LaneEvent) (saved : Bool) → saved ≡ list_any is_save h → reads_keeper saved e ≡ true → crash_after_save (h ++ e ∷ []) ≡ true
reads_crash h e saved had reads =
    let b = both_true (is_crash e) saved reads in
    crash_after_save_more h e ∙ (ap (λ a. crash_after_save h || (a && list_any is_save h)) b.0 ∙ (ap (λ a. crash_after_save h || (true && a)) (sym had ∙ b.1) ∙ or_true (crash_after_save h)))

rose_from : (start old new : ℕ) → old ≡ start → Rose old new → Rose start new
rose_from start old new same rose = subst (λ n. Rose n new) same rose

read_from : (n start old new : ℕ) → old ≡ raised_times n start → new ≡ raised old → Rose start new
read_from n start old new was got =
    let h = rose_read n start in
    let l = le_raised n start in
    let is : new ≡ raised (raised_times n start) = got ∙ ap raised was in
    record { later = omega (arith, is, l); higher = omega (arith, is, h) }

not_sound : (before now : Bool) → (before ≡ true → now ≡ true) → now ≡ false → before ≡ false
not_sound true now stays none = sym (stays refl) ∙ none
not_sound false now stays none = refl

-- what doesn't tell after a run didn't tell before
untold_before : {A : Type 0} (entry held : Option A) → (IsSome entry → IsSome held) → held ≡ None → entry ≡ None
untold_before None held told none = refl
untold_before (Some x) held told none = absurd (true≢false (sym (subst IsSome none (told refl))))

-- the event is refused
pub one_refused : {F K : Type 0} {R : Ghosts F} {U : keeper.Ghosts K} (s : Sizes) (rank : ℕ) (opening : List ℕ) (lanes : List Lane) (order : List ℕ) (place : ℕ) (entry : K) (e : LaneEvent) (fault : BookFault) (old new : SavedRank F K R U)
    → IsHere lanes order place e → RankRefuses old new e fault → IsGoingOn R U s rank opening lanes order place entry old
    → FaultSays R.part_at s rank (history lanes order) (keeper_seen U entry) (keeper_seen U (keeper_of new)) fault
one_refused {F} {K} {R} {U} s rank opening lanes order place entry e KeeperFault old new is r g =
    let h = history lanes (take place order) in
    let whole = whole_with lanes order place e is in
    record {
      saves = ap (list_any is_save) whole.1 ∙ save_in_front (h ++ e ∷ []) whole.0 (calls_saved h e (saved_of old) g.saved r.cause);
      rose = rose_from (U.faults entry) (U.faults (keeper_of old)) (U.faults (keeper_of new)) g.runs.faults r.faults;
      unsound = not_sound (U.sound entry) (U.sound (keeper_of old)) g.runs.sound r.surely;
    }
one_refused {F} {K} {R} {U} s rank opening lanes order place entry e (CheckpointBad at why) old new is r g =
    let h = history lanes (take place order) in
    let whole = whole_with lanes order place e is in
    record {
      crashes = ap crash_after_save whole.1 ∙ crash_in_front (h ++ e ∷ []) whole.0 (reads_crash h e (saved_of old) g.saved r.cause);
      untold = untold_before (U.held entry) (U.held (keeper_of old)) g.runs.told (r.untold (2 ^ 61 + place) g.few);
      read = read_from (length (reads_of h)) (U.gets entry) (U.gets (keeper_of old)) (U.gets (keeper_of new)) g.runs.gets r.got;
      given = subst (λ (z : Sizes). IfSome (U.last_get (keeper_of new)) (λ given. IsRefusal (CheckpointBad at why) (given_state R.part_at z rank given))) g.sizes
          (subst (λ (n : ℕ). IfSome (U.last_get (keeper_of new)) (λ given. IsRefusal (CheckpointBad at why) (given_state R.part_at (study_of old) n given))) g.number r.read);
      faults = r.faults ∙ g.runs.faults;
    }
one_refused s rank opening lanes order place entry e Memory old new is r g = tt

-- a refused event of a list without a save leaves the keeper
pub one_quiet : {F K : Type 0} {R : Ghosts F} {U : keeper.Ghosts K} (s : Sizes) (rank : ℕ) (opening : List ℕ) (lanes : List Lane) (order : List ℕ) (place : ℕ) (entry : K) (e : LaneEvent) (fault : BookFault) (old new : SavedRank F K R U)
    → IsHere lanes order place e → RankRefuses old new e fault → IsGoingOn R U s rank opening lanes order place entry old → list_any is_save (history lanes order) ≡ false → keeper_of new ≡ entry
one_quiet s rank opening lanes order place entry e fault old new is r g none = r.untouched (no_call_here lanes order place e (saved_of old) is g.saved none) ∙ g.quiet none

-- a rank that was opened and took nothing yet
pub begun : {F K : Type 0} {R : Ghosts F} {U : keeper.Ghosts K} (s : Sizes) (rank : ℕ) (opening : List ℕ) (lanes : List Lane) (order : List ℕ) (entry : K) (x : SavedRank F K R U)
    → study_of x ≡ s → number_of x ≡ rank → saved_of x ≡ false → total_of x ≤ 2 ^ 62 → CountsFew x (2 ^ 61) → ((before : List LaneEvent) → OpensWith R s rank opening before → CarriesHistory x (before ++ saved_event ∷ []) [])
    → keeper_of x ≡ entry → IsGoingOn R U s rank opening lanes order 0 entry x
begun {F} {K} {R} {U} s rank opening lanes order entry x sizes number none total few carries kept = record {
  sizes = sizes;
  number = number;
  saved = none ∙ ap (list_any is_save) (sym (no_events lanes));
  total = omega (arith, total);
  few = subst (CountsFew x) (let e : 2 ^ 61 ≡ 2 ^ 61 + 0 = omega arith in e) few;
  carries = λ before opens. subst (λ (run : List LaneEvent). CarriesHistory x (whole_of before run) run) (sym (no_events lanes)) (carries before opens);
  runs = subst (λ (run : List LaneEvent). HasGoneOn R.part_of s rank (OpensWith R s rank opening) run (keeper_seen U entry) (keeper_seen U (keeper_of x))) (sym (no_events lanes))
      (subst (λ (k : K). HasGoneOn R.part_of s rank (OpensWith R s rank opening) [] (keeper_seen U entry) (keeper_seen U k)) (sym kept)
      (record { held = λ before opens. refl; told = λ some. some; gets = sym (gets_none (U.gets entry)); faults = refl; sound = λ sure. sure }));
  quiet = λ _. kept;
}

-- one event more of a lane was taken
pub taken_more : (lanes : List Lane) (order : List ℕ) (place n : ℕ) (taken now : List ℕ) → AreTaken lanes order place taken → place < length order → get_or order place 0 < length lanes → n ≡ get_or taken (get_or order place 0) 0
    → now ≡ set taken (get_or order place 0) (n + 1) → AreTaken lanes order (place + 1) now
taken_more lanes order place n taken now are here lane_in number put =
    let k = get_or order place 0 in
    let grown : take (place + 1) order ≡ take place order ++ k ∷ [] = take_one_more order place here in
    record {
      one_each = ap length put ∙ length-set taken k (n + 1) ∙ are.one_each;
      each = λ j there.
          let so_far = are.each j there in
          let more = ap (times j) grown ∙ times_append j (take place order) (k ∷ []) in
          let was = ap (λ l. get_or l j 0) put in
          elim (cases_Bool (k == j)) [
            | inl same ↦
                let e : k ≡ j = grind (arith, nat_tests, same) in
                let one : times j (k ∷ []) ≡ 1 = ap (λ b. cond b 1 0) same in
                let lt : k < length taken = omega (arith, lane_in, are.one_each) in
                let own : get_or (set taken k (n + 1)) k 0 ≡ n + 1 = get_or-set_same taken k (n + 1) 0 lt in
                let at : get_or (set taken k (n + 1)) j 0 ≡ n + 1 = subst (λ m. get_or (set taken k (n + 1)) m 0 ≡ n + 1) e own in
                let is : n ≡ get_or taken j 0 = subst (λ m. n ≡ get_or taken m 0) e number in
                omega (arith, was, at, is, so_far, more, one)
            | inr other ↦
                let ne : j ≢ k = grind (arith, nat_tests, other) in
                let none : times j (k ∷ []) ≡ 0 = ap (λ b. cond b 1 0) other in
                let left = get_or-set_other taken k j (n + 1) 0 ne in
                omega (arith, was, left, so_far, more, none)
          ];
    }

-- none was taken yet
pub taken_none : (lanes : List Lane) (order : List ℕ) (n : ℕ) (taken : List ℕ) → taken ≡ replicate n 0 → n ≡ length lanes → AreTaken lanes order 0 taken
taken_none lanes order n taken none all = record {
  one_each = ap length none ∙ length-replicate {A = ℕ} n 0 ∙ all;
  each = λ k there. ap (λ l. get_or l k 0) none ∙ get_or-replicate {A = ℕ} n k 0 0 (omega (arith, there, all));
}

-- the event of the tape at a place of the list
pub is_here : (lanes : List Lane) (order : List ℕ) (place number : ℕ) (kind own_kind : LaneKind) (frame own_frame : Frame) → place < length order → length order < 2 ^ 61 → number ≡ times (get_or order place 0) (take place order)
    → event_of lanes (get_or order place 0) number ≡ Some (record { kind = kind; frame = frame }) → own_kind ≡ kind → own_frame ≡ frame → IsHere lanes order place (record { kind = own_kind; frame = own_frame })
is_here lanes order place number kind own_kind frame own_frame here short count event same_kind same_frame = record {
  here = here;
  short = short;
  event = ap (event_of lanes (get_or order place 0)) (sym count) ∙ event ∙ ap Some (sym (same_event own_kind kind own_frame frame same_kind same_frame));
}

-- A rank that took its whole list.
pub record HasEnded {F K : Type 0} (R : Ghosts F) (U : keeper.Ghosts K) (s : Sizes) (rank : ℕ) (opening : List ℕ) (run : List LaneEvent) (entry : K) (x : SavedRank F K R U) : Type 0 where
  pub sizes : study_of x ≡ s
  pub number : number_of x ≡ rank
  pub carries : (before : List LaneEvent) → OpensWith R s rank opening before → CarriesHistory x (whole_of before run) run
  pub runs : HasGoneOn R.part_of s rank (OpensWith R s rank opening) run (keeper_seen U entry) (keeper_seen U (keeper_of x))

pub at_end : {F K : Type 0} {R : Ghosts F} {U : keeper.Ghosts K} (s : Sizes) (rank : ℕ) (opening : List ℕ) (lanes : List Lane) (order : List ℕ) (entry : K) (x : SavedRank F K R U)
    → IsGoingOn R U s rank opening lanes order (length order) entry x → HasEnded R U s rank opening (history lanes order) entry x
at_end {F} {K} {R} {U} s rank opening lanes order entry x g =
    let all : history lanes (take (length order) order) ≡ history lanes order = ap (history lanes) (take_all (length order) order (omega arith)) in
    subst (λ (run : List LaneEvent). HasEnded R U s rank opening run entry x) all (record { sizes = g.sizes; number = g.number; carries = g.carries; runs = g.runs })

-- its core and its keeper
pub end_stands : {F K : Type 0} {R : Ghosts F} {U : keeper.Ghosts K} (s : Sizes) (rank : ℕ) (opening : List ℕ) (run : List LaneEvent) (entry keeper' : K) (core : RankCore F R) (x : SavedRank F K R U)
    → HasEnded R U s rank opening run entry x → core ≡ core_of x → keeper' ≡ keeper_of x → Sure (U.held keeper') run → (before : List LaneEvent) → OpensWith R s rank opening before → StandsFor core (whole_of before run)
end_stands {F} {K} {R} {U} s rank opening run entry keeper' core x g core_is keeper_is sure before opens =
    subst (λ (k : RankCore F R). StandsFor k (whole_of before run)) (sym core_is) ((g.carries before opens).stands (subst (λ (k : K). Sure (U.held k) run) keeper_is sure))

pub end_runs : {F K : Type 0} {R : Ghosts F} {U : keeper.Ghosts K} (s : Sizes) (rank : ℕ) (opening : List ℕ) (run : List LaneEvent) (entry keeper' : K) (x : SavedRank F K R U)
    → HasEnded R U s rank opening run entry x → keeper' ≡ keeper_of x → HasGoneOn R.part_of s rank (OpensWith R s rank opening) run (keeper_seen U entry) (keeper_seen U keeper')
end_runs {F} {K} {R} {U} s rank opening run entry keeper' x g keeper_is = subst (λ (k : K). HasGoneOn R.part_of s rank (OpensWith R s rank opening) run (keeper_seen U entry) (keeper_seen U k)) (sym keeper_is) g.runs

-- what a fault says of a keeper, as the answer of its rank
pub rank_stops : (A : Type 0) (part_of : Sizes → ℕ → Table → List ℕ) (part_at : Sizes → ℕ → List ℕ → Cursor → Read Cursor) (s : Sizes) (rank : ℕ) (opens : List LaneEvent → Type 0) (run : List LaneEvent) (old new : KeeperState) (fault : BookFault) (answer : FoldFault)
    → answer ≡ fault_at rank fault → FaultSays part_at s rank run old new fault → RankStops {A = A} (Err answer) part_of part_at s rank opens run old new
rank_stops A part_of part_at s rank opens run old new KeeperFault answer is says = subst (λ (f : FoldFault). RankStops {A = A} (Err f) part_of part_at s rank opens run old new) (sym is) (refl, says)
rank_stops A part_of part_at s rank opens run old new (CheckpointBad at why) answer is says = subst (λ (f : FoldFault). RankStops {A = A} (Err f) part_of part_at s rank opens run old new) (sym is) (refl, says)
rank_stops A part_of part_at s rank opens run old new Memory answer is says = subst (λ (f : FoldFault). RankStops {A = A} (Err f) part_of part_at s rank opens run old new) (sym is) tt

-- the same of an equal keeper
pub told_at : {K : Type 0} (U : keeper.Ghosts K) (part_at : Sizes → ℕ → List ℕ → Cursor → Read Cursor) (s : Sizes) (rank : ℕ) (run : List LaneEvent) (entry now keeper' : K) (fault : BookFault) → keeper' ≡ now
    → FaultSays part_at s rank run (keeper_seen U entry) (keeper_seen U now) fault → FaultSays part_at s rank run (keeper_seen U entry) (keeper_seen U keeper') fault
told_at {K} U part_at s rank run entry now keeper' fault is says = subst (λ (k : K). FaultSays part_at s rank run (keeper_seen U entry) (keeper_seen U k) fault) (sym is) says
