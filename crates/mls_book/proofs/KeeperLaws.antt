-- What is said of a keeper since a history began, with one event more.
use Rattle.std.proofs.Common.{◌≡◌, ℕ, zero, suc, ◌+◌, ◌≤◌, Bool, true, false, ◌&&◌, ◌||◌, cond, min, max, length, List, [], ◌∷◌, ◌++◌, take, drop, Option, Some, None, refl, sym, ◌∙◌, ap, subst, inl, inr, ⊎_elim, arith}
use Rattle.std.specs.Prelude.{IfSome}
use Rattle.std.specs.List.{list_any}
use Rattle.std.specs.Option.{option_to_list}
use Rattle.std.proofs.lemmas.Bool.{cases_Bool, or_parts, true≢false}
use Rattle.std.proofs.lemmas.List.{take-append-drop}
use Rattle.std.proofs.lemmas.List.Folds.{list_any-append}
use Rattle.mls_base.specs.declared.outside.Keeper as keeper
use Rattle.mls_base.specs.Told.{Rose, last_count, raised, replaced}
use Rattle.mls_ckpt.specs.Histories.{checkpoint}
use Rattle.mls_model.specs.Studies.{Sizes}
use Rattle.mls_model.specs.Standing.{Table}
use Rattle.mls_model.specs.declared.outcomes.Outcome.{Outcome}
use Rattle.mls_model.specs.Numbers.{times}
use Rattle.mls_model.specs.Places.{any_place, gathered}
use Rattle.mls_model.specs.Lanes.{Lane}
use Rattle.mls_model.specs.Histories.{LaneEvent, event_of, history}
use Rattle.mls_model.specs.Survival.{is_save, is_crash, before_last_save, crash_after_save}
use Rattle.mls_laws.proofs.Places.{any_place_append, gathered_append}
use Rattle.mls_laws.proofs.Surviving.{crash_after_save_more}
use Rattle.mls_tape.specs.Events.{DecodedEvent}
use Rattle.mls_field.specs.declared.fold.RowFold.{Ghosts}
use Rattle.mls_book.specs.declared.faults.BookFault.{BookFault}
use Rattle.mls_book.specs.declared.faults.BookFault.TheVariants.{KeeperFault, CheckpointBad, Memory}
use Rattle.mls_book.specs.SavedRanks.{reads_keeper, calls_keeper}
use Rattle.mls_book.specs.Books.{BookView, IsCarried}
use Rattle.mls_book.specs.Offers.{IsTaken, IsRefused, lane_event}
use Rattle.mls_book.specs.Runs.{raised_times, reads_of, gets_over, held_over}
use Rattle.mls_book.specs.Keepers.{keeper_seen, HasRun, FaultSays}
use Rattle.mls_book.proofs.RunLaws.{runs_over, gets_none}

le_raised : (n count : ℕ) → count ≤ raised_times n count
le_raised zero count = omega arith
le_raised (suc n) count = let h = le_raised n count in omega (arith, h)

rose_read : (n count : ℕ) → min (count + 1) last_count ≤ raised (raised_times n count)
rose_read n count = let h = le_raised n count in omega (arith, h)

-- a save in a front is one in the whole
save_in_front : (front rest : List LaneEvent) → list_any is_save front ≡ true → list_any is_save (front ++ rest) ≡ true
save_in_front front rest saves = list_any-append is_save front rest ∙ ap (λ b. b || list_any is_save rest) saves

-- a crash behind a save in a front is one in the whole
crash_in_front : (front rest : List LaneEvent) → crash_after_save front ≡ true → crash_after_save (front ++ rest) ≡ true
unfolding crash_after_save
crash_in_front front rest crashes =
    let test : List LaneEvent → LaneEvent → Bool = λ before e. is_crash e && list_any is_save before in
    any_place_append test [] front rest ∙ ap (λ b. b || any_place test front rest) crashes

-- the history of a list begins with that of its front
pub history_front : (lanes : List Lane) (order : List ℕ) (n : ℕ) → (rest : List LaneEvent) × (history lanes order ≡ history lanes (take n order) ++ rest)
unfolding history
history_front lanes order n =
    let give : List ℕ → ℕ → List LaneEvent = λ before k. option_to_list (event_of lanes k (times k before)) in
    (gathered give (take n order) (drop n order), ap (gathered give []) (sym (take-append-drop n order)) ∙ gathered_append give [] (take n order) (drop n order))

-- where an event calls the keeper behind a history, a save stands in both together
or_false : (a b : Bool) → (a || b) ≡ false → (a ≡ false) × (b ≡ false)
or_false true b e = let f : true ≡ false = e in cc
or_false false b e = (refl, e)

any_more : (h : List LaneEvent) (e : LaneEvent) → list_any is_save (h ++ e ∷ []) ≡ (list_any is_save h || (is_save e || false))
any_more h e = list_any-append is_save h (e ∷ [])

and_none : (b : Bool) → (false || (b && false)) ≡ false
and_none true = refl
and_none false = refl

pub no_call : (h : List LaneEvent) (e : LaneEvent) (saved : Bool) → saved ≡ list_any is_save h → list_any is_save (h ++ e ∷ []) ≡ false → calls_keeper saved e ≡ false
no_call h e saved had none =
    let parts = or_false (list_any is_save h) (is_save e || false) (sym (any_more h e) ∙ none) in
    let own = (or_false (is_save e) false parts.1).0 in
    let not_saved : saved ≡ false = had ∙ parts.0 in
    ap (λ b. b || (is_crash e && saved)) own ∙ (ap (λ b. false || (is_crash e && b)) not_saved ∙ and_none (is_crash e))

calls_saved : (h : List LaneEvent) (e : LaneEvent) (saved : Bool) → saved ≡ list_any is_save h → calls_keeper saved e ≡ true → list_any is_save (h ++ e ∷ []) ≡ true
calls_saved h e saved had calls = elim (cases_Bool (list_any is_save (h ++ e ∷ []))) [ inl some ↦ some | inr none ↦ absurd (true≢false (sym calls ∙ no_call h e saved had none)) ]

or_true : (b : Bool) → (b || true) ≡ true
or_true true = refl
or_true false = refl

both_true : (a b : Bool) → (a && b) ≡ true → (a ≡ true) × (b ≡ true)
both_true true b e = (refl, e)
both_true false b e = let f : false ≡ true = e in cc

reads_crash : (h : List LaneEvent) (e : LaneEvent) (saved : Bool) → saved ≡ list_any is_save h → reads_keeper saved e ≡ true → crash_after_save (h ++ e ∷ []) ≡ true
reads_crash h e saved had reads =
    let b = both_true (is_crash e) saved reads in
    crash_after_save_more h e ∙ (ap (λ a. crash_after_save h || (a && list_any is_save h)) b.0 ∙ (ap (λ a. crash_after_save h || (true && a)) (sym had ∙ b.1) ∙ or_true (crash_after_save h)))

told_over : (part_of : Sizes → ℕ → Table → List ℕ) (s : Sizes) (rank : ℕ) (h : List LaneEvent) (kept : Option (List ℕ)) (saved : Bool) → list_any is_save h ≡ saved → held_over part_of s rank h (Some kept) ≡ None → ⊥
told_over part_of s rank h kept true is none =
    let e : ◌≡◌ {A = Option (Option (List ℕ))} (Some (Some (checkpoint part_of s rank (before_last_save h)))) None = sym (ap (λ b. cond b (replaced (Some kept) (Some (checkpoint part_of s rank (before_last_save h)))) (Some kept)) is) ∙ none in
    cc
told_over part_of s rank h kept false is none =
    let e : ◌≡◌ {A = Option (Option (List ℕ))} (Some kept) None = sym (ap (λ b. cond b (replaced (Some kept) (Some (checkpoint part_of s rank (before_last_save h)))) (Some kept)) is) ∙ none in
    cc

rose_from : (start old new : ℕ) → old ≡ start → Rose old new → Rose start new
rose_from start old new same rose = subst (λ n. Rose n new) same rose

read_from : (n start old new : ℕ) → old ≡ raised_times n start → new ≡ raised old → Rose start new
read_from n start old new was got =
    let h = rose_read n start in
    let l = le_raised n start in
    let is : new ≡ raised (raised_times n start) = got ∙ ap raised was in
    record { later = omega (arith, is, l); higher = omega (arith, is, h) }

-- what doesn't tell after a history didn't tell before
untold_before : (part_of : Sizes → ℕ → Table → List ℕ) (s : Sizes) (rank : ℕ) (h : List LaneEvent) (held : Option (Option (List ℕ))) → held_over part_of s rank h held ≡ None → held ≡ None
untold_before part_of s rank h None none = refl
untold_before part_of s rank h (Some kept) none = absurd (told_over part_of s rank h kept (list_any is_save h) refl none)

-- a keeper that is handed in has run over no events
pub run_none : {F K : Type 0} (R : Ghosts F) (U : keeper.Ghosts K) (s : Sizes) (rank : ℕ) (start : K) → HasRun R.part_of s rank [] (keeper_seen U start) (keeper_seen U start)
run_none R U s rank start = record { held = refl; gets = sym (gets_none (U.gets start)); faults = refl; sound = λ t. t }

-- with one event more that is taken
pub run_on : {T F K : Type 0} {R : Ghosts F} (U : keeper.Ghosts K) (lanes : List Lane) (old new : BookView T F K) (event : DecodedEvent T) (place : ℕ) (o : Outcome) (start : K)
    → IsTaken R U old new event place o → event.number ≡ times event.lane old.journal → event_of lanes event.lane event.number ≡ Some (lane_event event)
    → IsCarried R U old (history lanes old.journal) → IsCarried R U new (history lanes new.journal)
    → HasRun R.part_of old.core.sizes old.core.rank (history lanes old.journal) (keeper_seen U start) (keeper_seen U old.keeper)
    → HasRun R.part_of old.core.sizes old.core.rank (history lanes new.journal) (keeper_seen U start) (keeper_seen U new.keeper)
run_on {T} {F} {K} {R} U lanes old new event place o start t count there was now run =
    let on = runs_over {R = R} {U = U} lanes old new event place o start t count there was now (record { held = run.held; gets = run.gets; faults = run.faults }) in
    record {
      held = on.held ∙ (ap (λ s. held_over R.part_of s new.core.rank (history lanes new.journal) (U.held start)) t.same.sizes ∙ ap (λ r. held_over R.part_of old.core.sizes r (history lanes new.journal) (U.held start)) t.same.rank);
      gets = on.gets;
      faults = on.faults;
      sound = λ sure. t.same.sound (run.sound sure);
    }

not_sound : (before now : Bool) → (before ≡ true → now ≡ true) → now ≡ false → before ≡ false
not_sound true now stays none = sym (stays refl) ∙ none
not_sound false now stays none = refl

-- with one event more that is refused
pub run_refused : {T F K : Type 0} {R : Ghosts F} (U : keeper.Ghosts K) (old new : BookView T F K) (event : DecodedEvent T) (start : K) (h rest whole : List LaneEvent) (fault : BookFault)
    → IsRefused R U old new event fault → IsCarried R U old h → whole ≡ (h ++ lane_event event ∷ []) ++ rest
    → HasRun R.part_of old.core.sizes old.core.rank h (keeper_seen U start) (keeper_seen U old.keeper)
    → FaultSays R.part_at old.core.sizes old.core.rank whole (keeper_seen U start) (keeper_seen U new.keeper) fault
run_refused U old new event start h rest whole KeeperFault r was is run = record {
  saves = ap (list_any is_save) is ∙ save_in_front (h ++ lane_event event ∷ []) rest (calls_saved h (lane_event event) old.saved was.had r.cause);
  rose = rose_from (U.faults start) (U.faults old.keeper) (U.faults new.keeper) run.faults r.faults;
  unsound = not_sound (U.sound start) (U.sound old.keeper) run.sound r.surely;
}
run_refused {T} {F} {K} {R} U old new event start h rest whole (CheckpointBad at why) r was is run = record {
  crashes = ap crash_after_save is ∙ crash_in_front (h ++ lane_event event ∷ []) rest (reads_crash h (lane_event event) old.saved was.had r.cause);
  untold = untold_before R.part_of old.core.sizes old.core.rank h (U.held start) (sym run.held ∙ r.untold);
  read = read_from (length (reads_of h)) (U.gets start) (U.gets old.keeper) (U.gets new.keeper) run.gets r.got;
  given = r.read;
  faults = r.faults ∙ run.faults;
}
run_refused U old new event start h rest whole Memory r was is run = tt
