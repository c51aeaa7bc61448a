-- What one more event asks of a keeper.
use Rattle.std.proofs.Common.{◌≡◌, ℕ, suc, Bool, true, false, cond, List, [], ◌∷◌, ◌++◌, length, Option, None, Some, refl, sym, ap, ◌∙◌, subst, inl, inr}
use Rattle.std.specs.Prelude.{IfSome}
use Rattle.std.specs.List.{list_any}
use Rattle.std.specs.Option.{option_to_list}
use Rattle.std.proofs.lemmas.List.{append-nil}
use Rattle.std.proofs.lemmas.Bool.{cases_Bool}
use Rattle.mls_base.specs.declared.outside.Keeper as keeper
use Rattle.mls_base.specs.Told.{replaced}
use Rattle.mls_model.specs.declared.outcomes.Outcome.{Outcome}
use Rattle.mls_model.specs.Studies.{Sizes}
use Rattle.mls_model.specs.Standing.{Table}
use Rattle.mls_model.specs.Numbers.{times}
use Rattle.mls_model.specs.Lanes.{Lane}
use Rattle.mls_model.specs.Places.{gathered}
use Rattle.mls_model.specs.Histories.{LaneEvent, event_of, history}
use Rattle.mls_model.specs.Survival.{is_save, before_last_save}
use Rattle.mls_ckpt.specs.Histories.{checkpoint}
use Rattle.mls_laws.proofs.Places.{gathered_more}
use Rattle.mls_tape.specs.Events.{DecodedEvent}
use Rattle.mls_field.specs.declared.fold.RowFold.{Ghosts}
use Rattle.mls_book.specs.Backups.{gets_after}
use Rattle.mls_book.specs.SavedRanks.{reads_keeper}
use Rattle.mls_book.specs.Cores.{parts_bytes}
use Rattle.mls_book.specs.Books.{BookView, IsCarried}
use Rattle.mls_book.specs.Offers.{IsTaken, lane_event}
use Rattle.mls_book.specs.Runs.{reads_of, raised_times, gets_over, held_over, IsRun}
use Rattle.mls_book.proofs.Carrying.{no_save_more, save_more, before_other}

-- the events that read the keeper, with one more
reads_more : (h : List LaneEvent) (e : LaneEvent) → reads_of (h ++ e ∷ []) ≡ reads_of h ++ cond (reads_keeper (list_any is_save h) e) (e ∷ []) []
unfolding reads_of
reads_more h e = gathered_more (λ before e. cond (reads_keeper (list_any is_save before) e) (e ∷ []) []) [] h e

length_suc : (h : List LaneEvent) (e : LaneEvent) → length (h ++ e ∷ []) ≡ suc (length h)
length_suc [] e = refl
length_suc (x ∷ h) e = ap suc (length_suc h e)

count_more : (read : Bool) (h : List LaneEvent) (e : LaneEvent) (gets : ℕ) → raised_times (length (h ++ cond read (e ∷ []) [])) gets ≡ gets_after read (raised_times (length h) gets)
count_more true h e gets = ap (λ n. raised_times n gets) (length_suc h e)
count_more false h e gets = ap (λ (g : List LaneEvent). raised_times (length g) gets) (append-nil h)

pub gets_more : (h : List LaneEvent) (e : LaneEvent) (gets : ℕ) → gets_over (h ++ e ∷ []) gets ≡ gets_after (reads_keeper (list_any is_save h) e) (gets_over h gets)
gets_more h e gets = ap (λ (r : List LaneEvent). raised_times (length r) gets) (reads_more h e) ∙ count_more (reads_keeper (list_any is_save h) e) (reads_of h) e gets

pub gets_none : (gets : ℕ) → gets_over [] gets ≡ gets
unfolding reads_of gathered
gets_none gets = refl

-- what is held with one more event
held_other : (part_of : Sizes → ℕ → Table → List ℕ) (s : Sizes) (rank : ℕ) (h : List LaneEvent) (e : LaneEvent) (held : Option (Option (List ℕ))) → is_save e ≡ false
    → held_over part_of s rank (h ++ e ∷ []) held ≡ held_over part_of s rank h held
held_other part_of s rank h e held none =
    ap (λ (b : Bool). cond b (replaced held (Some (checkpoint part_of s rank (before_last_save (h ++ e ∷ []))))) held) (no_save_more h e none)
    ∙ ap (λ (g : List LaneEvent). cond (list_any is_save h) (replaced held (Some (checkpoint part_of s rank g))) held) (before_other h e none)

-- a value that is told, where the same told before
told_is : {A : Type 0} (old new start : Option A) (b : Bool) (before value value' : A) → new ≡ replaced old value → old ≡ cond b (replaced start before) start → IfSome new (λ kept. kept ≡ value') → new ≡ replaced start value'
told_is old new None true before value value' put was is = put ∙ ap (λ o. replaced o value) was
told_is old new None false before value value' put was is = put ∙ ap (λ o. replaced o value) was
told_is old new (Some x) true before value value' put was is =
    let told : new ≡ Some value = put ∙ ap (λ o. replaced o value) was in
    told ∙ ap Some (subst (λ o. IfSome o (λ kept. kept ≡ value')) told is)
told_is old new (Some x) false before value value' put was is =
    let told : new ≡ Some value = put ∙ ap (λ o. replaced o value) was in
    told ∙ ap Some (subst (λ o. IfSome o (λ kept. kept ≡ value')) told is)

-- a book runs on
pub runs_on : {T F K : Type 0} {R : Ghosts F} {U : keeper.Ghosts K} (old new : BookView T F K) (event : DecodedEvent T) (place : ℕ) (o : Outcome) (start : K) (h : List LaneEvent)
    → IsTaken R U old new event place o → IsCarried R U old h → IsCarried R U new (h ++ lane_event event ∷ []) → IsRun R U old h start → IsRun R U new (h ++ lane_event event ∷ []) start
runs_on {T} {F} {K} {R} {U} old new event place o start h t was now run =
    record {
      held = elim (cases_Bool (is_save (lane_event event))) [
        | inl saves ↦
            let some : list_any is_save (h ++ lane_event event ∷ []) ≡ true = save_more h (lane_event event) saves in
            let told = told_is (U.held old.keeper) (U.held new.keeper) (U.held start) (list_any is_save h) (Some (checkpoint R.part_of old.core.sizes old.core.rank (before_last_save h))) (Some (parts_bytes R new.core))
            (Some (checkpoint R.part_of new.core.sizes new.core.rank (before_last_save (h ++ lane_event event ∷ [])))) (t.store.put saves) run.held (now.kept (now.had ∙ some)) in
            told ∙ sym (ap (λ (b : Bool). cond b (replaced (U.held start) (Some (checkpoint R.part_of new.core.sizes new.core.rank (before_last_save (h ++ lane_event event ∷ []))))) (U.held start)) some)
        | inr other ↦
            t.store.held other ∙ (run.held ∙ (
            ap (λ (s : Sizes). held_over R.part_of s old.core.rank h (U.held start)) (sym t.same.sizes)
            ∙ (ap (λ (r : ℕ). held_over R.part_of new.core.sizes r h (U.held start)) (sym t.same.rank)
            ∙ sym (held_other R.part_of new.core.sizes new.core.rank h (lane_event event) (U.held start) other))))
      ];
      gets = t.store.gets
          ∙ (ap (λ (g : ℕ). gets_after (reads_keeper old.saved (lane_event event)) g) run.gets
          ∙ (ap (λ (b : Bool). gets_after (reads_keeper b (lane_event event)) (gets_over h (U.gets start))) was.had
          ∙ sym (gets_more h (lane_event event) (U.gets start))));
      faults = t.store.faults ∙ run.faults;
    }

-- the history of a tape with one more event of a lane
tape_more : (lanes : List Lane) (journal : List ℕ) (k n : ℕ) (e : LaneEvent) → n ≡ times k journal → event_of lanes k n ≡ Some e → history lanes (journal ++ k ∷ []) ≡ history lanes journal ++ e ∷ []
unfolding history
tape_more lanes journal k n e count there =
    let found : event_of lanes k (times k journal) ≡ Some e = ap (λ (m : ℕ). event_of lanes k m) (sym count) ∙ there in
    gathered_more (λ before j. option_to_list (event_of lanes j (times j before))) [] journal k
    ∙ ap (λ (o : Option LaneEvent). history lanes journal ++ option_to_list o) found

-- a book runs on over the lanes of a tape
pub runs_over : {T F K : Type 0} {R : Ghosts F} {U : keeper.Ghosts K} (lanes : List Lane) (old new : BookView T F K) (event : DecodedEvent T) (place : ℕ) (o : Outcome) (start : K)
    → IsTaken R U old new event place o → event.number ≡ times event.lane old.journal → event_of lanes event.lane event.number ≡ Some (lane_event event)
    → IsCarried R U old (history lanes old.journal) → IsCarried R U new (history lanes new.journal) → IsRun R U old (history lanes old.journal) start → IsRun R U new (history lanes new.journal) start
runs_over {T} {F} {K} {R} {U} lanes old new event place o start t count there was now run =
    let more : history lanes new.journal ≡ history lanes old.journal ++ lane_event event ∷ [] = ap (history lanes) t.journal ∙ tape_more lanes old.journal event.lane event.number (lane_event event) count there in
    subst (λ (h : List LaneEvent). IsRun R U new h start) (sym more)
    (runs_on old new event place o start (history lanes old.journal) t was (subst (λ (h : List LaneEvent). IsCarried R U new h) more now) run)
