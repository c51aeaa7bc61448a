-- What the answer of a run says.
use Rattle.std.proofs.Common.{◌≡◌, ℕ, List, Option, refl, ◌∙◌, subst, inl, inr, ◌⊎◌, ⊎_elim, arith}
use Rattle.std.specs.Prelude.{IsTrue}
use Rattle.mls_base.specs.Told.{Names, MaySpoil, Rose, Saved, StaysSound}
use Rattle.mls_text.specs.Writing.{SinkState, Wrote, FailedAfter}
use Rattle.mls_model.specs.Schedules.{schedule_text}
use Rattle.mls_book.specs.Keepers.{KeeperState}
use Rattle.mls_result.specs.declared.status.Status.{Status}
use Rattle.mls_result.specs.declared.status.Status.TheVariants as status
use Rattle.mls_load.specs.Refusals.{FileState}
use Rattle.mls_live.specs.Ending.{IsSaved, IsSpoiled, IsUnsaved}
use Rattle.mls_live.specs.Running.{Ran, RunAnswers, Running, WasRun}
use Rattle.mls_live.specs.Answers.{DidNotRise, IsDoneOrMemory, IsRefusal}
use Rattle.mls_live.specs.Tasks.{AllTell, IsQuiet, IsSureRun, NoneRose}

-- a run that has its inputs is never refused
pub run_refused : (r : Running) (files files' : FileState) (out out' : SinkState) (old new : List KeeperState) (s : Status) → IsRefusal s → RunAnswers r files files' out out' old new s → ⊥
run_refused r files files' out out' old new status.Done is h = is
run_refused r files files' out out' old new status.WriteFault is h = is
run_refused r files files' out out' old new (status.KeeperFault rank) is h = is
run_refused r files files' out out' old new (status.CheckpointBad rank at why) is h = is
run_refused r files files' out out' old new status.Memory is h = is
run_refused r files files' out out' old new status.ReadFault is h = is
run_refused r files files' out out' old new status.Usage is h = h
run_refused r files files' out out' old new (status.Study fault) is h = h
run_refused r files files' out out' old new (status.Tape at why) is h = h
run_refused r files files' out out' old new (status.Schedule line why) is h = h
run_refused r files files' out out' old new (status.NotBuilt part) is h = h
run_refused r files files' out out' old new (status.TooLong file) is h = h
run_refused r files files' out out' old new (status.Events line) is h = h
run_refused r files files' out out' old new (status.NoGroup group) is h = h
run_refused r files files' out out' old new status.TooLarge is h = h
run_refused r files files' out out' old new status.RunnerFault is h = h
run_refused r files files' out out' old new (status.MarksDiffer other plane group first_has) is h = h
run_refused r files files' out out' old new (status.OldRanks ranks) is h = h
run_refused r files files' out out' old new status.DoorFault is h = h
run_refused r files files' out out' old new status.LinkFault is h = h
run_refused r files files' out out' old new (status.Refused reason value) is h = h
run_refused r files files' out out' old new status.Peer is h = h

-- nothing is written before these answers
pub run_quiet : (r : Running) (files files' : FileState) (out out' : SinkState) (old new : List KeeperState) (s : Status) → IsQuiet s → RunAnswers r files files' out out' old new s → out' ≡ out
run_quiet r files files' out out' old new status.Done is h = absurd is
run_quiet r files files' out out' old new status.WriteFault is h = absurd is
run_quiet r files files' out out' old new (status.KeeperFault rank) is h = h.1.0
run_quiet r files files' out out' old new (status.CheckpointBad rank at why) is h = h.1.0
run_quiet r files files' out out' old new status.Memory is h = absurd is
run_quiet r files files' out out' old new status.ReadFault is h = h.1.0
run_quiet r files files' out out' old new status.Usage is h = absurd h
run_quiet r files files' out out' old new (status.Study fault) is h = absurd h
run_quiet r files files' out out' old new (status.Tape at why) is h = absurd h
run_quiet r files files' out out' old new (status.Schedule line why) is h = absurd h
run_quiet r files files' out out' old new (status.NotBuilt part) is h = absurd h
run_quiet r files files' out out' old new (status.TooLong file) is h = absurd h
run_quiet r files files' out out' old new (status.Events line) is h = absurd h
run_quiet r files files' out out' old new (status.NoGroup group) is h = absurd h
run_quiet r files files' out out' old new status.TooLarge is h = absurd h
run_quiet r files files' out out' old new status.RunnerFault is h = absurd h
run_quiet r files files' out out' old new (status.MarksDiffer other plane group first_has) is h = absurd h
run_quiet r files files' out out' old new (status.OldRanks ranks) is h = absurd h
run_quiet r files files' out out' old new status.DoorFault is h = absurd h
run_quiet r files files' out out' old new status.LinkFault is h = absurd h
run_quiet r files files' out out' old new (status.Refused reason value) is h = absurd h
run_quiet r files files' out out' old new status.Peer is h = absurd h

-- no save fails but where a write fault is answered
pub run_saves : (r : Running) (files files' : FileState) (out out' : SinkState) (old new : List KeeperState) (s : Status) → (s ≡ status.WriteFault → ⊥) → RunAnswers r files files' out out' old new s → files'.save_faults ≡ files.save_faults
run_saves r files files' out out' old new status.Done is h = h.saved.saves
run_saves r files files' out out' old new status.WriteFault is h = absurd (is refl)
run_saves r files files' out out' old new (status.KeeperFault rank) is h = h.1.1.saves
run_saves r files files' out out' old new (status.CheckpointBad rank at why) is h = h.1.1.saves
run_saves r files files' out out' old new status.Memory is h = h.1
run_saves r files files' out out' old new status.ReadFault is h = h.1.1
run_saves r files files' out out' old new status.Usage is h = absurd h
run_saves r files files' out out' old new (status.Study fault) is h = absurd h
run_saves r files files' out out' old new (status.Tape at why) is h = absurd h
run_saves r files files' out out' old new (status.Schedule line why) is h = absurd h
run_saves r files files' out out' old new (status.NotBuilt part) is h = absurd h
run_saves r files files' out out' old new (status.TooLong file) is h = absurd h
run_saves r files files' out out' old new (status.Events line) is h = absurd h
run_saves r files files' out out' old new (status.NoGroup group) is h = absurd h
run_saves r files files' out out' old new status.TooLarge is h = absurd h
run_saves r files files' out out' old new status.RunnerFault is h = absurd h
run_saves r files files' out out' old new (status.MarksDiffer other plane group first_has) is h = absurd h
run_saves r files files' out out' old new (status.OldRanks ranks) is h = absurd h
run_saves r files files' out out' old new status.DoorFault is h = absurd h
run_saves r files files' out out' old new status.LinkFault is h = absurd h
run_saves r files files' out out' old new (status.Refused reason value) is h = absurd h
run_saves r files files' out out' old new status.Peer is h = absurd h

-- a write fault has its cause
write_rose : (r : Running) (files files' : FileState) (out out' : SinkState) (old new : List KeeperState) → RunAnswers r files files' out out' old new status.WriteFault → Rose out.faults out'.faults ⊎ Rose files.save_faults files'.save_faults
write_rose r files files' out out' old new h = ⊎_elim (λ failed. inl failed.text.form.rose) (λ wrote. inr wrote.saved.rose) h

pub run_write : (r : Running) (files files' : FileState) (out out' : SinkState) (old new : List KeeperState) (s : Status) → s ≡ status.WriteFault → RunAnswers r files files' out out' old new s → Rose out.faults out'.faults ⊎ Rose files.save_faults files'.save_faults
run_write r files files' out out' old new s e h = write_rose r files files' out out' old new (subst (λ (x : Status). RunAnswers r files files' out out' old new x) e h)

-- over what is sound no write fails
unwritten_not : (r : Running) (files files' : FileState) (out out' : SinkState) (old new : List KeeperState) → IsTrue files.sound → IsSureRun r out old → RunAnswers r files files' out out' old new status.WriteFault → ⊥
unwritten_not r files files' out out' old new sound sure h = ⊎_elim
    (λ failed.
    let few = (failed.text.right (λ rank keeper there. inl ((sure.keep rank keeper there).1))).unsure in
    let most = sure.takes failed.orders failed.complete in
    omega (arith, few, most))
    (λ wrote. wrote.saved.unsound sound) h

-- the answer over what is sound
pub run_asked : (r : Running) (files files' : FileState) (out out' : SinkState) (old new : List KeeperState) (s : Status) → IsTrue files.sound → IsSureRun r out old → RunAnswers r files files' out out' old new s → IsDoneOrMemory s
run_asked r files files' out out' old new status.Done sound sure h = inl refl
run_asked r files files' out out' old new status.WriteFault sound sure h = absurd (unwritten_not r files files' out out' old new sound sure h)
run_asked r files files' out out' old new (status.KeeperFault rank) sound sure h = let at = h.0 in absurd (at.related.unsound (sure.keep rank at.before at.was).0)
run_asked r files files' out out' old new (status.CheckpointBad rank at why) sound sure h = let k = h.0 in absurd (k.related.unsound (sure.keep rank k.before k.was).1 (sure.keep rank k.before k.was).0)
run_asked r files files' out out' old new status.Memory sound sure h = inr refl
run_asked r files files' out out' old new status.ReadFault sound sure h = absurd (h.0 sound)
run_asked r files files' out out' old new status.Usage sound sure h = absurd h
run_asked r files files' out out' old new (status.Study fault) sound sure h = absurd h
run_asked r files files' out out' old new (status.Tape at why) sound sure h = absurd h
run_asked r files files' out out' old new (status.Schedule line why) sound sure h = absurd h
run_asked r files files' out out' old new (status.NotBuilt part) sound sure h = absurd h
run_asked r files files' out out' old new (status.TooLong file) sound sure h = absurd h
run_asked r files files' out out' old new (status.Events line) sound sure h = absurd h
run_asked r files files' out out' old new (status.NoGroup group) sound sure h = absurd h
run_asked r files files' out out' old new status.TooLarge sound sure h = absurd h
run_asked r files files' out out' old new status.RunnerFault sound sure h = absurd h
run_asked r files files' out out' old new (status.MarksDiffer other plane group first_has) sound sure h = absurd h
run_asked r files files' out out' old new (status.OldRanks ranks) sound sure h = absurd h
run_asked r files files' out out' old new status.DoorFault sound sure h = absurd h
run_asked r files files' out out' old new status.LinkFault sound sure h = absurd h
run_asked r files files' out out' old new (status.Refused reason value) sound sure h = absurd h
run_asked r files files' out out' old new status.Peer sound sure h = absurd h

-- where no count rose and each keeper tells, the run was done or memory is wanting
pub run_completed : (r : Running) (files files' : FileState) (out out' : SinkState) (old new : List KeeperState) (s : Status) → (s ≡ status.ReadFault → ⊥) → DidNotRise files.save_faults files'.save_faults → DidNotRise out.faults out'.faults → NoneRose old new → AllTell old → RunAnswers r files files' out out' old new s → IsDoneOrMemory s
run_completed r files files' out out' old new status.Done read saves writes calm tell h = inl refl
run_completed r files files' out out' old new status.WriteFault read saves writes calm tell h = absurd (⊎_elim writes saves (write_rose r files files' out out' old new h))
run_completed r files files' out out' old new (status.KeeperFault rank) read saves writes calm tell h = let k = h.0 in absurd (calm rank (record { before = k.before; after = k.after; was = k.was; is = k.is; related = k.related.rose }))
run_completed r files files' out out' old new (status.CheckpointBad rank at why) read saves writes calm tell h = let k = h.0 in absurd (calm rank (record { before = k.before; after = k.after; was = k.was; is = k.is; related = k.related.rose (tell rank k.before k.was) }))
run_completed r files files' out out' old new status.Memory read saves writes calm tell h = inr refl
run_completed r files files' out out' old new status.ReadFault read saves writes calm tell h = absurd (read refl)
run_completed r files files' out out' old new status.Usage read saves writes calm tell h = absurd h
run_completed r files files' out out' old new (status.Study fault) read saves writes calm tell h = absurd h
run_completed r files files' out out' old new (status.Tape at why) read saves writes calm tell h = absurd h
run_completed r files files' out out' old new (status.Schedule line why) read saves writes calm tell h = absurd h
run_completed r files files' out out' old new (status.NotBuilt part) read saves writes calm tell h = absurd h
run_completed r files files' out out' old new (status.TooLong file) read saves writes calm tell h = absurd h
run_completed r files files' out out' old new (status.Events line) read saves writes calm tell h = absurd h
run_completed r files files' out out' old new (status.NoGroup group) read saves writes calm tell h = absurd h
run_completed r files files' out out' old new status.TooLarge read saves writes calm tell h = absurd h
run_completed r files files' out out' old new status.RunnerFault read saves writes calm tell h = absurd h
run_completed r files files' out out' old new (status.MarksDiffer other plane group first_has) read saves writes calm tell h = absurd h
run_completed r files files' out out' old new (status.OldRanks ranks) read saves writes calm tell h = absurd h
run_completed r files files' out out' old new status.DoorFault read saves writes calm tell h = absurd h
run_completed r files files' out out' old new status.LinkFault read saves writes calm tell h = absurd h
run_completed r files files' out out' old new (status.Refused reason value) read saves writes calm tell h = absurd h
run_completed r files files' out out' old new status.Peer read saves writes calm tell h = absurd h

-- what a run answers since its files were as they were before a load
record Between (old between : FileState) : Type 0 where
  pub held : between.held ≡ old.held
  pub loads : between.load_faults ≡ old.load_faults
  pub saves : between.save_faults ≡ old.save_faults
  pub sound : IsTrue old.sound → IsTrue between.sound

saved_since : (name bytes : List ℕ) (old between new : FileState) → Between old between → IsSaved name bytes between new → IsSaved name bytes old new
saved_since name bytes old between new b h = record { held = subst (λ (x : Option Names). Saved name bytes x new.held) b.held h.held; loads = h.loads ∙ b.loads; saves = h.saves ∙ b.saves }

spoiled_since : (name : List ℕ) (old between new : FileState) → Between old between → IsSpoiled name between new → IsSpoiled name old new
spoiled_since name old between new b h = record { spoiled = subst (λ (x : Option Names). MaySpoil name x new.held) b.held h.spoiled; loads = h.loads ∙ b.loads; rose = subst (λ (n : ℕ). Rose n new.save_faults) b.saves h.rose; unsound = λ s. h.unsound (b.sound s) }

unsaved_since : (old between new : FileState) → Between old between → IsUnsaved between new → IsUnsaved old new
unsaved_since old between new b h = record { held = h.held ∙ b.held; loads = h.loads ∙ b.loads; saves = h.saves ∙ b.saves }

was_as : (r : Running) (old new : List KeeperState) (saves saves' goes : List ℕ → Type 0) → ((bytes : List ℕ) → saves bytes → saves' bytes) → WasRun r old new saves goes → WasRun r old new saves' goes
was_as r old new saves saves' goes f h = record { orders = h.orders; complete = h.complete; text = h.text; plain = h.plain; saved = f (schedule_text h.orders) h.saved; keep = h.keep }

answers_since : (r : Running) (files between files' : FileState) (out out' : SinkState) (old new : List KeeperState) (s : Status) → Between files between → RunAnswers r between files' out out' old new s → RunAnswers r files files' out out' old new s
answers_since r files between files' out out' old new status.Done b h = was_as r old new (λ bytes. IsSaved r.name bytes between files') (λ bytes. IsSaved r.name bytes files files') (Wrote out out') (λ bytes is. saved_since r.name bytes files between files' b is) h
answers_since r files between files' out out' old new status.WriteFault b h = ⊎_elim (λ failed. inl (was_as r old new (λ bytes. IsUnsaved between files') (λ bytes. IsUnsaved files files') (FailedAfter out out') (λ bytes is. unsaved_since files between files' b is) failed)) (λ wrote. inr (was_as r old new (λ bytes. IsSpoiled r.name between files') (λ bytes. IsSpoiled r.name files files') (Wrote out out') (λ bytes is. spoiled_since r.name files between files' b is) wrote)) h
answers_since r files between files' out out' old new (status.KeeperFault rank) b h = (h.0, (h.1.0, unsaved_since files between files' b h.1.1))
answers_since r files between files' out out' old new (status.CheckpointBad rank at why) b h = (h.0, (h.1.0, unsaved_since files between files' b h.1.1))
answers_since r files between files' out out' old new status.Memory b h = (h.0, h.1 ∙ b.saves)
answers_since r files between files' out out' old new status.ReadFault b h = ((λ s. h.0 (b.sound s)), (h.1.0, h.1.1 ∙ b.saves))
answers_since r files between files' out out' old new status.Usage b h = absurd h
answers_since r files between files' out out' old new (status.Study fault) b h = absurd h
answers_since r files between files' out out' old new (status.Tape at why) b h = absurd h
answers_since r files between files' out out' old new (status.Schedule line why) b h = absurd h
answers_since r files between files' out out' old new (status.NotBuilt part) b h = absurd h
answers_since r files between files' out out' old new (status.TooLong file) b h = absurd h
answers_since r files between files' out out' old new (status.Events line) b h = absurd h
answers_since r files between files' out out' old new (status.NoGroup group) b h = absurd h
answers_since r files between files' out out' old new status.TooLarge b h = absurd h
answers_since r files between files' out out' old new status.RunnerFault b h = absurd h
answers_since r files between files' out out' old new (status.MarksDiffer other plane group first_has) b h = absurd h
answers_since r files between files' out out' old new (status.OldRanks ranks) b h = absurd h
answers_since r files between files' out out' old new status.DoorFault b h = absurd h
answers_since r files between files' out out' old new status.LinkFault b h = absurd h
answers_since r files between files' out out' old new (status.Refused reason value) b h = absurd h
answers_since r files between files' out out' old new status.Peer b h = absurd h

pub ran_since : (r : Running) (files between files' : FileState) (out out' : SinkState) (old new : List KeeperState) (s : Status) → between.held ≡ files.held → between.load_faults ≡ files.load_faults → between.save_faults ≡ files.save_faults → StaysSound files.sound between.sound → Ran r between files' out out' old new s → Ran r files files' out out' old new s
ran_since r files between files' out out' old new s held loads saves sound h = record { answers = answers_since r files between files' out out' old new s (record { held = held; loads = loads; saves = saves; sound = sound }) h.answers; left = h.left }
