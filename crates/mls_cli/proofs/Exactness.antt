-- An answer that agrees with what is right is exact and complete.
use Rattle.std.proofs.Common.{◌≡◌, ℕ, Bool, true, IsTrue, List, length, ◌≤◌, Option, Some, None, Result, Ok, Err, refl, sym, ap, subst, ◌∙◌, inl, inr, ⊎_elim, ◌⊎◌, arith}
use Rattle.std.specs.Prelude.{IfSome, IsSome, IsSomeAnd, ⊤}
use Rattle.mls_ckpt.specs.declared.faults.CkptWhy.TheVariants.{Absent}
use Rattle.mls_model.specs.Numbers.{element}
use Rattle.std.proofs.lemmas.Bool.{true≢false}
use Rattle.mls_base.specs.Told.{Names}
use Rattle.mls_text.specs.Writing.{SinkState, FailedAfter}
use Rattle.mls_ckpt.specs.declared.faults.CkptWhy.{CkptWhy}
use Rattle.mls_model.specs.Histories.{LaneEvent}
use Rattle.mls_model.specs.Survival.{crash_after_save}
use Rattle.mls_book.specs.Histories.{Sure}
use Rattle.mls_book.specs.Keepers.{KeeperState}
use Rattle.mls_result.specs.declared.status.Status.{Status}
use Rattle.mls_result.specs.declared.status.Status.TheVariants as status
use Rattle.mls_export.specs.Exports.{HasGiven, HaveGiven, StoppedAt}
use Rattle.mls_export.specs.Files.{AreSaved}
use Rattle.mls_book.proofs.KeeperPlaces.{element_in}
use Rattle.mls_cli.specs.Fold.{Folded, folded_histories}
use Rattle.mls_cli.specs.Export.{AllHold, AreTold, IsEmptyAt}
use Rattle.mls_cli.specs.Tasks.{Exported, Task, nothing, folding, exporting, resuming, resumed_histories, Saving, saves_none, saves_made, saves_states}
use Rattle.mls_cli.specs.Answers.{Answers, AreSound, Carries, DidNotRise, Exactly, ExportAnswer, IsAnswered, IsAsked, IsHeld, IsRefusal, IsRight, IsSure, IsTextSure, KeepersAnswer, NoneRose, NoSaveRose, ResumeAnswer, RoseAt, SaveFails, TakesText, TellsRight, WriteFails}
use Rattle.mls_cli.specs.Ideal.{RefusesAsked}
use Rattle.mls_resumed.specs.GoingOn.{resumed_text}
use Rattle.mls_export.specs.Files.{FileState}

-- what is right, where the answer is a refusal
told_right : (sound : Bool) (unsaved sure : Type 0) (right : Result (List ℕ) Status) (old new : SinkState) (s : Status) → IsRefusal s → Answers sound unsaved sure right old new s → right ≡ Err s
told_right sound unsaved sure right old new status.Done is h = absurd is
told_right sound unsaved sure right old new status.WriteFault is h = absurd is
told_right sound unsaved sure right old new status.Memory is h = absurd is
told_right sound unsaved sure right old new status.ReadFault is h = absurd is
told_right sound unsaved sure right old new (status.KeeperFault rank) is h = absurd is
told_right sound unsaved sure right old new (status.CheckpointBad rank at why) is h = absurd is
told_right sound unsaved sure right old new status.Usage is h = h.0
told_right sound unsaved sure right old new (status.Study fault) is h = h.0
told_right sound unsaved sure right old new (status.Tape at why) is h = h.0
told_right sound unsaved sure right old new (status.Schedule line why) is h = h.0
told_right sound unsaved sure right old new (status.NotBuilt part) is h = h.0
told_right sound unsaved sure right old new status.DoorFault is h = h.0
told_right sound unsaved sure right old new status.LinkFault is h = h.0
told_right sound unsaved sure right old new (status.Refused reason value) is h = h.0
told_right sound unsaved sure right old new status.Peer is h = h.0
told_right sound unsaved sure right old new (status.NoGroup group) is h = h.0
told_right sound unsaved sure right old new (status.TooLong file) is h = h.0
told_right sound unsaved sure right old new (status.Events line) is h = h.0
told_right sound unsaved sure right old new status.TooLarge is h = h.0
told_right sound unsaved sure right old new status.RunnerFault is h = h.0
told_right sound unsaved sure right old new (status.MarksDiffer other plane group first_has) is h = h.0
told_right sound unsaved sure right old new (status.OldRanks ranks) is h = h.0

same_refusal : (a b : Status) → ◌≡◌ {A = Result (List ℕ) Status} (Err a) (Err b) → a ≡ b
same_refusal a b e = cc

by_refusal : (sound : Bool) (unsaved sure : Type 0) (right : Result (List ℕ) Status) (old new : SinkState) (refusal s : Status) → IsRefusal s → Answers sound unsaved sure right old new s → right ≡ Err refusal → IsAnswered refusal s
by_refusal sound unsaved sure right old new refusal s is h e = inl (same_refusal s refusal (sym (told_right sound unsaved sure right old new s is h) ∙ e))

no_text : (sound : Bool) (unsaved sure : Type 0) (refusal : Status) (old new : SinkState) → Answers sound unsaved sure (Err refusal) old new status.Done → ⊥
no_text sound unsaved sure refusal old new h = h

no_front : (sound : Bool) (unsaved sure : Type 0) (refusal : Status) (old new : SinkState) → Answers sound unsaved sure (Err refusal) old new status.WriteFault → ⊥
no_front sound unsaved sure refusal old new h = h

not_refused : (s : Status) → IsRight (Err s) → ⊥
not_refused s h = h

there_text : (right : Result (List ℕ) Status) (refusal : Status) → IsRight right → right ≡ Err refusal → ⊥
there_text right refusal there e = not_refused refusal (subst IsRight e there)

answered : (sound : Bool) (unsaved sure : Type 0) (right : Result (List ℕ) Status) (old new : SinkState) (refusal s : Status) → Answers sound unsaved sure right old new s → right ≡ Err refusal → IsAnswered refusal s
answered sound unsaved sure right old new refusal status.Done h e =
    let P : Result (List ℕ) Status → Type 0 = λ o. Answers sound unsaved sure o old new status.Done in
    absurd (no_text sound unsaved sure refusal old new (subst P e h))
answered sound unsaved sure right old new refusal status.WriteFault h e =
    let P : Result (List ℕ) Status → Type 0 = λ o. Answers sound unsaved sure o old new status.WriteFault in
    absurd (no_front sound unsaved sure refusal old new (subst P e h))
answered sound unsaved sure right old new refusal (status.KeeperFault rank) h e = absurd (there_text right refusal h.0 e)
answered sound unsaved sure right old new refusal (status.CheckpointBad rank at why) h e =
    ⊎_elim (λ there. absurd (there_text right refusal there e)) (λ is. inl (same_refusal (status.CheckpointBad rank at why) refusal (sym is ∙ e))) h.0
answered sound unsaved sure right old new refusal status.Memory h e = inr (inl refl)
answered sound unsaved sure right old new refusal status.ReadFault h e = inr (inr refl)
answered sound unsaved sure right old new refusal status.Usage h e = by_refusal sound unsaved sure right old new refusal status.Usage tt h e
answered sound unsaved sure right old new refusal (status.Study fault) h e = by_refusal sound unsaved sure right old new refusal (status.Study fault) tt h e
answered sound unsaved sure right old new refusal (status.Tape at why) h e = by_refusal sound unsaved sure right old new refusal (status.Tape at why) tt h e
answered sound unsaved sure right old new refusal (status.Schedule line why) h e = by_refusal sound unsaved sure right old new refusal (status.Schedule line why) tt h e
answered sound unsaved sure right old new refusal (status.NotBuilt part) h e = by_refusal sound unsaved sure right old new refusal (status.NotBuilt part) tt h e
answered sound unsaved sure right old new refusal status.DoorFault h e = by_refusal sound unsaved sure right old new refusal status.DoorFault tt h e
answered sound unsaved sure right old new refusal status.LinkFault h e = by_refusal sound unsaved sure right old new refusal status.LinkFault tt h e
answered sound unsaved sure right old new refusal (status.Refused reason value) h e = by_refusal sound unsaved sure right old new refusal (status.Refused reason value) tt h e
answered sound unsaved sure right old new refusal status.Peer h e = by_refusal sound unsaved sure right old new refusal status.Peer tt h e
answered sound unsaved sure right old new refusal (status.NoGroup group) h e = by_refusal sound unsaved sure right old new refusal (status.NoGroup group) tt h e
answered sound unsaved sure right old new refusal (status.TooLong file) h e = by_refusal sound unsaved sure right old new refusal (status.TooLong file) tt h e
answered sound unsaved sure right old new refusal (status.Events line) h e = by_refusal sound unsaved sure right old new refusal (status.Events line) tt h e
answered sound unsaved sure right old new refusal status.TooLarge h e = by_refusal sound unsaved sure right old new refusal status.TooLarge tt h e
answered sound unsaved sure right old new refusal status.RunnerFault h e = by_refusal sound unsaved sure right old new refusal status.RunnerFault tt h e
answered sound unsaved sure right old new refusal (status.MarksDiffer other plane group first_has) h e = by_refusal sound unsaved sure right old new refusal (status.MarksDiffer other plane group first_has) tt h e
answered sound unsaved sure right old new refusal (status.OldRanks ranks) h e = by_refusal sound unsaved sure right old new refusal (status.OldRanks ranks) tt h e

-- a refusal comes exactly where it is right
exact : (sound : Bool) (unsaved sure : Type 0) (right : Result (List ℕ) Status) (old new : SinkState) (s refusal : Status) → IsRefusal refusal → Answers sound unsaved sure right old new s → Exactly right refusal s
exact sound unsaved sure right old new s refusal is h = record {
  only = λ e. let P : Status → Type 0 = λ x. Answers sound unsaved sure right old new x in told_right sound unsaved sure right old new refusal is (subst P e h);
  wherever = λ e. answered sound unsaved sure right old new refusal s h e;
}

text_told : (sound : Bool) (unsaved sure : Type 0) (right : Result (List ℕ) Status) (old new : SinkState) (s : Status) → IsRefusal s → IsRight right → Answers sound unsaved sure right old new s → ⊥
text_told sound unsaved sure right old new s is there h = not_refused s (subst IsRight (told_right sound unsaved sure right old new s is h) there)

-- a keeper that holds bytes gives them, and a keeper that tells holds what it gave
none_given : (held : Option (Option (List ℕ))) → IsSomeAnd held IsSome → IfSome held (λ h. h ≡ None) → ⊥
none_given None holds gave = holds
none_given (Some None) holds gave = true≢false (sym holds)
none_given (Some (Some bytes)) holds gave = absurd cc

some_given : (held : Option (Option (List ℕ))) (bytes : List ℕ) → IsSome held → IfSome held (λ h. h ≡ Some bytes) → IsSomeAnd held IsSome
some_given None bytes told gave = absurd (true≢false (sym told))
some_given (Some None) bytes told gave = absurd cc
some_given (Some (Some b)) bytes told gave = refl

given_is : (held given : Option (List ℕ)) → held ≡ given → Some held ≡ Some given
given_is held given same = ap Some same

told_given : (held : Option (Option (List ℕ))) (given : Option (List ℕ)) → IsSome held → IfSome held (λ h. h ≡ given) → held ≡ Some given
told_given None given told gave = absurd (true≢false (sym told))
told_given (Some h) given told gave = given_is h given gave

same_keeper : (place : Option KeeperState) (a b : KeeperState) → place ≡ Some a → place ≡ Some b → a ≡ b
same_keeper place a b first second = cc

-- keepers that tell and gave bytes hold some
all_hold : (end ranks : ℕ) (lists : List (List ℕ)) (keepers keepers' : List KeeperState) → length lists ≡ end → end ≤ ranks → HaveGiven lists keepers keepers' → AreTold ranks keepers → AllHold end keepers
all_hold end ranks lists keepers keepers' long few given told = λ rank keeper here there.
    let one = element_in lists rank (omega (arith, here, long)) in
    let at_rank = given rank one.0 one.1 in
    let same : at_rank.before ≡ keeper = same_keeper (element keepers rank) at_rank.before keeper at_rank.was there in
    some_given keeper.held one.0 (told rank keeper (omega (arith, here, few)) there) (subst (λ (k : KeeperState). IfSome k.held (λ h. h ≡ Some one.0)) same at_rank.related.told)

empty_at : (ranks rank : ℕ) (prefix : List ℕ) (files files' : FileState) (keepers keepers' : List KeeperState) → AreTold ranks keepers → StoppedAt rank ranks (λ lists. AreSaved prefix lists files files') (HasGiven None) keepers keepers' → (at : ℕ) (why : CkptWhy) → at ≡ 0 → why ≡ Absent → IsEmptyAt ranks rank at why keepers
empty_at ranks rank prefix files files' keepers keepers' told stopped at why first absent = record {
  here = stopped.here;
  below = all_hold rank ranks stopped.lists keepers keepers' stopped.as_far (let here = stopped.here in omega (arith, here)) stopped.given told;
  empty = λ keeper there.
      let same : stopped.asked.before ≡ keeper = same_keeper (element keepers rank) stopped.asked.before keeper stopped.asked.was there in
      told_given keeper.held None (told rank keeper stopped.here there) (subst (λ (k : KeeperState). IfSome k.held (λ h. h ≡ None)) same stopped.asked.related.told);
  at_first = first;
  absent = absent;
}

-- where it is sure what the keepers leave, no checkpoint is bad
none_untold : (held : Option (Option (List ℕ))) → IsSome held → held ≡ None → ⊥
none_untold held told none = true≢false (sym (subst IsSome none told))

not_sure : (held : Option (Option (List ℕ))) (h : List LaneEvent) → Sure held h → held ≡ None → crash_after_save h ≡ true → ⊥
not_sure held h sure none crashes = ⊎_elim (λ told. none_untold held told none) (λ quiet. true≢false (sym crashes ∙ quiet)) sure

never_bad : (unsaved : Type 0) (right : Result (List ℕ) Status) (task : Task) (rank at : ℕ) (why : CkptWhy) (files files' : FileState) (keepers keepers' : List KeeperState) → IsRight right → IsSure task keepers → IsHeld task keepers → KeepersAnswer unsaved right task keepers keepers' (status.CheckpointBad rank at why) → ExportAnswer task files files' keepers keepers' (status.CheckpointBad rank at why) → ⊥
never_bad unsaved right nothing rank at why files files' keepers keepers' there sure full leaves exported = there_text right (status.CheckpointBad rank at why) there leaves.0
never_bad unsaved right (folding f) rank at why files files' keepers keepers' there sure full leaves exported = not_sure leaves.own.before.held (folded_histories f rank) (sure rank leaves.own.before leaves.own.was) leaves.own.related.untold leaves.own.related.crashes
never_bad unsaved right (resuming r) rank at why files files' keepers keepers' there sure full leaves exported = not_sure leaves.own.before.held (resumed_histories r rank) (sure rank leaves.own.before leaves.own.was) leaves.own.related.untold leaves.own.related.crashes
never_bad unsaved right (exporting e) rank at why files files' keepers keepers' there sure full leaves exported =
    let at_rank = exported.1.1 in
    none_given at_rank.asked.before.held (full rank at_rank.asked.before at_rank.here at_rank.asked.was) at_rank.asked.related.told

-- where all keepers are sound, none failed
never_failed : (unsaved : Type 0) (right : Result (List ℕ) Status) (task : Task) (rank : ℕ) (files files' : FileState) (keepers keepers' : List KeeperState) → AreSound keepers → KeepersAnswer unsaved right task keepers keepers' (status.KeeperFault rank) → ExportAnswer task files files' keepers keepers' (status.KeeperFault rank) → ⊥
never_failed unsaved right nothing rank files files' keepers keepers' sound leaves exported = leaves
never_failed unsaved right (folding f) rank files files' keepers keepers' sound leaves exported = true≢false (sym (sound rank leaves.own.before leaves.own.was) ∙ leaves.own.related.unsound)
never_failed unsaved right (resuming r) rank files files' keepers keepers' sound leaves exported = true≢false (sym (sound rank leaves.own.before leaves.own.was) ∙ leaves.own.related.unsound)
never_failed unsaved right (exporting e) rank files files' keepers keepers' sound leaves exported = true≢false (sym (sound rank exported.asked.before exported.asked.was) ∙ exported.asked.related.unsound)

-- where there is a text that is right, the keepers tell and no fault of the outside came, it is written or memory is wanting
completed : (sound : Bool) (unsaved sure : Type 0) (right : Result (List ℕ) Status) (old new : SinkState) (task : Task) (files files' : FileState) (keepers keepers' : List KeeperState) (s : Status) → IsRight right → IsSure task keepers → IsHeld task keepers → NoneRose keepers keepers' → (s ≡ status.ReadFault → ⊥) → (s ≡ status.WriteFault → ⊥)
    → ((rank : ℕ) → s ≡ status.KeeperFault rank → RoseAt rank keepers keepers') → KeepersAnswer unsaved right task keepers keepers' s → ExportAnswer task files files' keepers keepers' s → Answers sound unsaved sure right old new s → (s ≡ status.Done) ⊎ (s ≡ status.Memory)
completed sound unsaved sure right old new task files files' keepers keepers' status.Done there tell full none read write failed leaves exported h = inl refl
completed sound unsaved sure right old new task files files' keepers keepers' status.Memory there tell full none read write failed leaves exported h = inr refl
completed sound unsaved sure right old new task files files' keepers keepers' status.WriteFault there tell full none read write failed leaves exported h = absurd (write refl)
completed sound unsaved sure right old new task files files' keepers keepers' status.ReadFault there tell full none read write failed leaves exported h = absurd (read refl)
completed sound unsaved sure right old new task files files' keepers keepers' (status.KeeperFault rank) there tell full none read write failed leaves exported h = absurd (none rank (failed rank refl))
completed sound unsaved sure right old new task files files' keepers keepers' (status.CheckpointBad rank at why) there tell full none read write failed leaves exported h = absurd (never_bad unsaved right task rank at why files files' keepers keepers' there tell full leaves exported)
completed sound unsaved sure right old new task files files' keepers keepers' status.Usage there tell full none read write failed leaves exported h = absurd (text_told sound unsaved sure right old new status.Usage tt there h)
completed sound unsaved sure right old new task files files' keepers keepers' (status.Study fault) there tell full none read write failed leaves exported h = absurd (text_told sound unsaved sure right old new (status.Study fault) tt there h)
completed sound unsaved sure right old new task files files' keepers keepers' (status.Tape at why) there tell full none read write failed leaves exported h = absurd (text_told sound unsaved sure right old new (status.Tape at why) tt there h)
completed sound unsaved sure right old new task files files' keepers keepers' (status.Schedule line why) there tell full none read write failed leaves exported h = absurd (text_told sound unsaved sure right old new (status.Schedule line why) tt there h)
completed sound unsaved sure right old new task files files' keepers keepers' (status.NotBuilt part) there tell full none read write failed leaves exported h = absurd (text_told sound unsaved sure right old new (status.NotBuilt part) tt there h)
completed sound unsaved sure right old new task files files' keepers keepers' status.DoorFault there tell full none read write failed leaves exported h = absurd (text_told sound unsaved sure right old new status.DoorFault tt there h)
completed sound unsaved sure right old new task files files' keepers keepers' status.LinkFault there tell full none read write failed leaves exported h = absurd (text_told sound unsaved sure right old new status.LinkFault tt there h)
completed sound unsaved sure right old new task files files' keepers keepers' (status.Refused reason value) there tell full none read write failed leaves exported h = absurd (text_told sound unsaved sure right old new (status.Refused reason value) tt there h)
completed sound unsaved sure right old new task files files' keepers keepers' status.Peer there tell full none read write failed leaves exported h = absurd (text_told sound unsaved sure right old new status.Peer tt there h)
completed sound unsaved sure right old new task files files' keepers keepers' (status.NoGroup group) there tell full none read write failed leaves exported h = absurd (text_told sound unsaved sure right old new (status.NoGroup group) tt there h)
completed sound unsaved sure right old new task files files' keepers keepers' (status.TooLong file) there tell full none read write failed leaves exported h = absurd (text_told sound unsaved sure right old new (status.TooLong file) tt there h)
completed sound unsaved sure right old new task files files' keepers keepers' (status.Events line) there tell full none read write failed leaves exported h = absurd (text_told sound unsaved sure right old new (status.Events line) tt there h)
completed sound unsaved sure right old new task files files' keepers keepers' status.TooLarge there tell full none read write failed leaves exported h = absurd (text_told sound unsaved sure right old new status.TooLarge tt there h)
completed sound unsaved sure right old new task files files' keepers keepers' status.RunnerFault there tell full none read write failed leaves exported h = absurd (text_told sound unsaved sure right old new status.RunnerFault tt there h)
completed sound unsaved sure right old new task files files' keepers keepers' (status.MarksDiffer other plane group first_has) there tell full none read write failed leaves exported h = absurd (text_told sound unsaved sure right old new (status.MarksDiffer other plane group first_has) tt there h)
completed sound unsaved sure right old new task files files' keepers keepers' (status.OldRanks ranks) there tell full none read write failed leaves exported h = absurd (text_told sound unsaved sure right old new (status.OldRanks ranks) tt there h)

-- the answer to what is right
same_answer : (a b : Status) → ◌≡◌ {A = Result (List ℕ) Status} (Err a) (Err b) → b ≡ a
same_answer a b e = cc

asked_is : (task : Task) (keepers : List KeeperState) (right : Result (List ℕ) Status) (s : Status) → right ≡ Err s → IsAsked task keepers right s
asked_is task keepers (Ok text) s is = absurd cc
asked_is nothing keepers (Err r) s is = inl (same_answer r s is)
asked_is (folding f) keepers (Err r) s is = inl (same_answer r s is)
asked_is (exporting e) keepers (Err r) s is = inl (same_answer r s is)
asked_is (resuming x) keepers (Err r) s is = inl (same_answer r s is)

asked_done : (task : Task) (files files' : FileState) (keepers keepers' : List KeeperState) (right : Result (List ℕ) Status) → IsRight right → IsSure task keepers → ExportAnswer task files files' keepers keepers' status.Done → IsAsked task keepers right status.Done
asked_done task files files' keepers keepers' (Err s) there tell exported = absurd there
asked_done nothing files files' keepers keepers' (Ok text) there tell exported = inl refl
asked_done (folding f) files files' keepers keepers' (Ok text) there tell exported = inl refl
asked_done (resuming r) files files' keepers keepers' (Ok text) there tell exported = inl refl
asked_done (exporting e) files files' keepers keepers' (Ok text) there tell exported = inl (all_hold e.ranks e.ranks exported.lists keepers keepers' exported.one_each (omega (arith)) exported.given tell)

-- a checkpoint is bad where it is asked for
asked_bad : (unsaved : Type 0) (task : Task) (rank at : ℕ) (why : CkptWhy) (files files' : FileState) (keepers keepers' : List KeeperState) (right : Result (List ℕ) Status) → IsRight right → IsSure task keepers → KeepersAnswer unsaved right task keepers keepers' (status.CheckpointBad rank at why) → ExportAnswer task files files' keepers keepers' (status.CheckpointBad rank at why) → IsAsked task keepers right (status.CheckpointBad rank at why)
asked_bad unsaved nothing rank at why files files' keepers keepers' right there tell leaves exported = absurd (never_bad unsaved right nothing rank at why files files' keepers keepers' there tell tt leaves exported)
asked_bad unsaved (folding f) rank at why files files' keepers keepers' right there tell leaves exported = absurd (never_bad unsaved right (folding f) rank at why files files' keepers keepers' there tell tt leaves exported)
asked_bad unsaved (resuming r) rank at why files files' keepers keepers' right there tell leaves exported = absurd (never_bad unsaved right (resuming r) rank at why files files' keepers keepers' there tell tt leaves exported)
asked_bad unsaved (exporting e) rank at why files files' keepers keepers' (Err s) there tell leaves exported = absurd there
asked_bad unsaved (exporting e) rank at why files files' keepers keepers' (Ok text) there tell leaves exported = inl (empty_at e.ranks rank e.prefix files files' keepers keepers' tell exported.1.1 at why exported.0 exported.1.0)

done_is_right : (sound : Bool) (unsaved sure : Type 0) (right : Result (List ℕ) Status) (old new : SinkState) → Answers sound unsaved sure right old new status.Done → IsRight right
done_is_right sound unsaved sure (Ok text) old new h = tt
done_is_right sound unsaved sure (Err s) old new h = absurd h

-- a sink that takes the text for sure doesn't fail
too_few : (old new : SinkState) (text : List ℕ) → FailedAfter old new text → length text ≤ old.sure → ⊥
too_few old new text failed takes = let few = failed.unsure in omega (arith, few, takes)

text_or_none : (sound : Bool) (unsaved sure : Type 0) (right : Result (List ℕ) Status) (old new : SinkState) → (unsaved → ⊥) → sure → ((text : List ℕ) → right ≡ Ok text → length text ≤ old.sure) → Answers sound unsaved sure right old new status.WriteFault → ⊥
text_or_none sound unsaved sure (Ok text) old new never is takes h = ⊎_elim never (λ failed. too_few old new text (failed is) (takes text refl)) h
text_or_none sound unsaved sure (Err s) old new never is takes h = h

takes_nothing : (right : Result (List ℕ) Status) (old : SinkState) → TakesText nothing right old → (text : List ℕ) → right ≡ Ok text → length text ≤ old.sure
takes_nothing right old takes text is = subst (λ (o : Result (List ℕ) Status). TakesText nothing o old) is takes

takes_fold : (f : Folded) (right : Result (List ℕ) Status) (old : SinkState) → TakesText (folding f) right old → (text : List ℕ) → right ≡ Ok text → length text ≤ old.sure
takes_fold f right old takes text is = subst (λ (o : Result (List ℕ) Status). TakesText (folding f) o old) is takes

takes_export : (e : Exported) (right : Result (List ℕ) Status) (old : SinkState) → TakesText (exporting e) right old → (text : List ℕ) → right ≡ Ok text → length text ≤ old.sure
takes_export e right old takes text is = subst (λ (o : Result (List ℕ) Status). TakesText (exporting e) o old) is takes

never_unwritten : (sound : Bool) (unsaved : Type 0) (right : Result (List ℕ) Status) (old new : SinkState) (task : Task) (keepers : List KeeperState) → (unsaved → ⊥) → IsSure task keepers → TakesText task right old → Answers sound unsaved (IsTextSure task keepers) right old new status.WriteFault → ResumeAnswer task old new keepers status.WriteFault → ⊥
never_unwritten sound unsaved right old new nothing keepers never tell takes h resumed = text_or_none sound unsaved ⊤ right old new never tt (takes_nothing right old takes) h
never_unwritten sound unsaved right old new (folding f) keepers never tell takes h resumed = text_or_none sound unsaved (IsTextSure (folding f) keepers) right old new never tell (takes_fold f right old takes) h
never_unwritten sound unsaved right old new (exporting e) keepers never tell takes h resumed = text_or_none sound unsaved (IsTextSure (exporting e) keepers) right old new never tell (takes_export e right old takes) h
never_unwritten sound unsaved right old new (resuming r) keepers never tell takes h resumed = too_few old new (resumed_text r.study r.lanes r.orders takes.before) (resumed takes.before takes.opens tell) takes.fits

-- over a sound outside that tells and takes the text for sure, the answer is the one that is asked for, or memory is wanting
asked : (sound : Bool) (unsaved sure : Type 0) (right : Result (List ℕ) Status) (old new : SinkState) (task : Task) (files files' : FileState) (keepers keepers' : List KeeperState) (s : Status) → IsTrue sound → (s ≡ status.WriteFault → ⊥) → IsSure task keepers → AreSound keepers
    → KeepersAnswer unsaved right task keepers keepers' s → ExportAnswer task files files' keepers keepers' s → Answers sound unsaved sure right old new s → IsAsked task keepers right s
asked sound unsaved sure right old new task files files' keepers keepers' status.Done is never tell all leaves exported h = asked_done task files files' keepers keepers' right (done_is_right sound unsaved sure right old new h) tell exported
asked sound unsaved sure right old new task files files' keepers keepers' status.Memory is never tell all leaves exported h = inr refl
asked sound unsaved sure right old new task files files' keepers keepers' status.WriteFault is never tell all leaves exported h = absurd (never refl)
asked sound unsaved sure right old new task files files' keepers keepers' (status.KeeperFault rank) is never tell all leaves exported h = absurd (never_failed unsaved right task rank files files' keepers keepers' all leaves exported)
asked sound unsaved sure right old new task files files' keepers keepers' (status.CheckpointBad rank at why) is never tell all leaves exported h = ⊎_elim (λ there. asked_bad unsaved task rank at why files files' keepers keepers' right there tell leaves exported) (asked_is task keepers right (status.CheckpointBad rank at why)) h.0
asked sound unsaved sure right old new task files files' keepers keepers' status.ReadFault is never tell all leaves exported h = asked_is task keepers right status.ReadFault (h.0 is)
asked sound unsaved sure right old new task files files' keepers keepers' status.Usage is never tell all leaves exported h = asked_is task keepers right status.Usage h.0
asked sound unsaved sure right old new task files files' keepers keepers' (status.Study fault) is never tell all leaves exported h = asked_is task keepers right (status.Study fault) h.0
asked sound unsaved sure right old new task files files' keepers keepers' (status.Tape at why) is never tell all leaves exported h = asked_is task keepers right (status.Tape at why) h.0
asked sound unsaved sure right old new task files files' keepers keepers' (status.Schedule line why) is never tell all leaves exported h = asked_is task keepers right (status.Schedule line why) h.0
asked sound unsaved sure right old new task files files' keepers keepers' (status.NotBuilt part) is never tell all leaves exported h = asked_is task keepers right (status.NotBuilt part) h.0
asked sound unsaved sure right old new task files files' keepers keepers' status.DoorFault is never tell all leaves exported h = asked_is task keepers right status.DoorFault h.0
asked sound unsaved sure right old new task files files' keepers keepers' status.LinkFault is never tell all leaves exported h = asked_is task keepers right status.LinkFault h.0
asked sound unsaved sure right old new task files files' keepers keepers' (status.Refused reason value) is never tell all leaves exported h = asked_is task keepers right (status.Refused reason value) h.0
asked sound unsaved sure right old new task files files' keepers keepers' status.Peer is never tell all leaves exported h = asked_is task keepers right status.Peer h.0
asked sound unsaved sure right old new task files files' keepers keepers' (status.NoGroup group) is never tell all leaves exported h = asked_is task keepers right (status.NoGroup group) h.0
asked sound unsaved sure right old new task files files' keepers keepers' (status.TooLong file) is never tell all leaves exported h = asked_is task keepers right (status.TooLong file) h.0
asked sound unsaved sure right old new task files files' keepers keepers' (status.Events line) is never tell all leaves exported h = asked_is task keepers right (status.Events line) h.0
asked sound unsaved sure right old new task files files' keepers keepers' status.TooLarge is never tell all leaves exported h = asked_is task keepers right status.TooLarge h.0
asked sound unsaved sure right old new task files files' keepers keepers' status.RunnerFault is never tell all leaves exported h = asked_is task keepers right status.RunnerFault h.0
asked sound unsaved sure right old new task files files' keepers keepers' (status.MarksDiffer other plane group first_has) is never tell all leaves exported h = asked_is task keepers right (status.MarksDiffer other plane group first_has) h.0
asked sound unsaved sure right old new task files files' keepers keepers' (status.OldRanks ranks) is never tell all leaves exported h = asked_is task keepers right (status.OldRanks ranks) h.0

-- no save of sound files fails
never_unsaved : (saved : Saving) (task : Task) (files files' : FileState) (out out' : SinkState) (keepers keepers' : List KeeperState) → IsTrue files.sound → SaveFails saved task files files' out out' keepers keepers' → ⊥
never_unsaved saves_none task files files' out out' keepers keepers' sound failed = failed
never_unsaved (saves_made names) nothing files files' out out' keepers keepers' sound failed = failed
never_unsaved (saves_made names) (folding f) files files' out out' keepers keepers' sound failed = failed.unsound sound
never_unsaved (saves_made names) (exporting e) files files' out out' keepers keepers' sound failed = failed
never_unsaved (saves_made names) (resuming r) files files' out out' keepers keepers' sound failed = failed
never_unsaved saves_states nothing files files' out out' keepers keepers' sound failed = failed
never_unsaved saves_states (folding f) files files' out out' keepers keepers' sound failed = failed
never_unsaved saves_states (exporting e) files files' out out' keepers keepers' sound failed = failed.at.files.unsound sound
never_unsaved saves_states (resuming r) files files' out out' keepers keepers' sound failed = failed

-- where no count rose, no write failed
none_written : (saved : Saving) (files files' : FileState) (out out' : SinkState) → DidNotRise out.faults out'.faults → NoSaveRose saved files.save_faults files'.save_faults → WriteFails saved files files' out out' → ⊥
none_written saves_none files files' out out' no_write no_save fails = no_write fails
none_written (saves_made names) files files' out out' no_write no_save fails = ⊎_elim no_write no_save fails
none_written saves_states files files' out out' no_write no_save fails = no_save fails

-- the same of a command's answer over files that tell
pub exact_carried : (saved : Saving) (asked_for : Names → Result (List ℕ) Status) (task : Names → Task) (files files' : FileState) (out out' : SinkState) (keepers keepers' : List KeeperState) (s : Status) (held : Names) → Carries saved asked_for task files files' out out' keepers keepers' s → files.held ≡ Some held → RefusesAsked (asked_for held) s
exact_carried saved asked_for task files files' out out' keepers keepers' s held h told = record {
  exact = λ refusal is. exact files.sound (SaveFails saved (task held) files files' out out' keepers keepers') (IsTextSure (task held) keepers) (asked_for held) out out' s refusal is (h.told held told).text;
  wherever = λ refusal e. answered files.sound (SaveFails saved (task held) files files' out out' keepers keepers') (IsTextSure (task held) keepers) (asked_for held) out out' refusal s (h.told held told).text e;
}

no_write_fault : (saved : Saving) (right : Result (List ℕ) Status) (task : Task) (files files' : FileState) (out out' : SinkState) (keepers keepers' : List KeeperState) (s : Status) → TellsRight saved right task files files' out out' keepers keepers' s → IsTrue files.sound → IsSure task keepers → TakesText task right out → s ≡ status.WriteFault → ⊥
no_write_fault saved right task files files' out out' keepers keepers' s h sound sure takes e =
    let says : TellsRight saved right task files files' out out' keepers keepers' status.WriteFault = subst (λ (x : Status). TellsRight saved right task files files' out out' keepers keepers' x) e h in
    never_unwritten files.sound (SaveFails saved task files files' out out' keepers keepers') right out out' task keepers (never_unsaved saved task files files' out out' keepers keepers' sound) sure takes says.text says.resumed

pub asked_carried : (saved : Saving) (asked_for : Names → Result (List ℕ) Status) (task : Names → Task) (files files' : FileState) (out out' : SinkState) (keepers keepers' : List KeeperState) (s : Status) (held : Names) → Carries saved asked_for task files files' out out' keepers keepers' s → files.held ≡ Some held → IsTrue files.sound → IsSure (task held) keepers → AreSound keepers → TakesText (task held) (asked_for held) out → IsAsked (task held) keepers (asked_for held) s
asked_carried saved asked_for task files files' out out' keepers keepers' s held h told sound sure all takes =
    let says = h.told held told in
    let never : s ≡ status.WriteFault → ⊥ = no_write_fault saved (asked_for held) (task held) files files' out out' keepers keepers' s says sound sure takes in
    asked files.sound (SaveFails saved (task held) files files' out out' keepers keepers') (IsTextSure (task held) keepers) (asked_for held) out out' (task held) files files' keepers keepers' s sound never sure all says.leaves says.exported says.text

pub completed_carried : (saved : Saving) (asked_for : Names → Result (List ℕ) Status) (task : Names → Task) (files files' : FileState) (out out' : SinkState) (keepers keepers' : List KeeperState) (s : Status) (held : Names) → Carries saved asked_for task files files' out out' keepers keepers' s → files.held ≡ Some held → IsRight (asked_for held) → IsSure (task held) keepers → IsHeld (task held) keepers
    → DidNotRise files.load_faults files'.load_faults → NoSaveRose saved files.save_faults files'.save_faults → DidNotRise out.faults out'.faults → NoneRose keepers keepers' → (s ≡ status.Done) ⊎ (s ≡ status.Memory)
completed_carried saved asked_for task files files' out out' keepers keepers' s held h told right sure full no_load no_save no_write none =
    let wrote : s ≡ status.WriteFault → ⊥ = λ e. none_written saved files files' out out' no_write no_save (h.write_fault e) in
    let read : s ≡ status.ReadFault → ⊥ = λ e. no_load (h.read_fault e) in
    completed files.sound (SaveFails saved (task held) files files' out out' keepers keepers') (IsTextSure (task held) keepers) (asked_for held) out out' (task held) files files' keepers keepers' s right sure full none read wrote h.keeper_fault (h.told held told).leaves (h.told held told).exported (h.told held told).text
