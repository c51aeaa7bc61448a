-- What the answer of a server says.
use Rattle.std.proofs.Common.{◌≡◌, ℕ, Bool, IsTrue, List, Result, Ok, Err, refl, sym, subst, inl, inr, ◌⊎◌}
use Rattle.mls_base.specs.Told.{Names, Rose}
use Rattle.mls_text.specs.Writing.{SinkState}
use Rattle.mls_model.specs.Studies.{Study}
use Rattle.mls_book.specs.Keepers.{KeeperState}
use Rattle.mls_result.specs.declared.status.Status.{Status}
use Rattle.mls_result.specs.declared.status.Status.TheVariants as status
use Rattle.mls_load.specs.Inputs.{right_study}
use Rattle.mls_load.specs.Refusals.{FileState, Loads}
use Rattle.mls_server.specs.Ends.{IsSureDoor}
use Rattle.mls_served.specs.Doors.{DoorState}
use Rattle.mls_served.specs.Serving.{Serves, Serving}
use Rattle.mls_live.specs.Answers.{DidNotRise, IsDoneOrMemory, IsRefusal}
use Rattle.mls_live.specs.Tasks.{AllTell, AreSound, IsQuiet, IsServedOrUnsure, NoneRose, TellsServed}

module _ (v : Serving) (out out' : SinkState) (old new : List KeeperState) (door door' : DoorState) where
  -- a server that has its study is never refused
  pub serve_refused : (sound : Bool) (s : Status) → IsRefusal s → TellsServed v sound out out' old new door door' s → ⊥
  serve_refused sound status.Done is h = is
  serve_refused sound status.WriteFault is h = is
  serve_refused sound (status.KeeperFault rank) is h = is
  serve_refused sound (status.CheckpointBad rank at why) is h = is
  serve_refused sound status.Memory is h = is
  serve_refused sound status.ReadFault is h = is
  serve_refused sound status.Usage is h = h.answers
  serve_refused sound (status.Study fault) is h = h.answers
  serve_refused sound (status.Tape at why) is h = h.answers
  serve_refused sound (status.Schedule line why) is h = h.answers
  serve_refused sound (status.NotBuilt part) is h = h.answers
  serve_refused sound (status.TooLong file) is h = h.answers
  serve_refused sound (status.Events line) is h = h.answers
  serve_refused sound (status.NoGroup group) is h = h.answers
  serve_refused sound status.TooLarge is h = h.answers
  serve_refused sound status.RunnerFault is h = h.answers
  serve_refused sound (status.MarksDiffer other plane group first_has) is h = h.answers
  serve_refused sound (status.OldRanks ranks) is h = h.answers
  serve_refused sound status.DoorFault is h = is
  serve_refused sound status.LinkFault is h = is
  serve_refused sound (status.Refused reason value) is h = is
  serve_refused sound status.Peer is h = is

  -- it answers neither what a server says of a group
  pub serve_says : (sound : Bool) (s : Status) → TellsServed v sound out out' old new door door' s → (s ≡ status.Peer → ⊥)
  serve_says sound s h e = (subst (λ (x : Status). TellsServed v sound out out' old new door door' x) e h).answers

  -- nothing is written before these answers
  pub serve_quiet : (s : Status) → IsQuiet s → Serves v out out' old new door door' s → out' ≡ out
  serve_quiet status.Done is h = absurd is
  serve_quiet status.WriteFault is h = absurd is
  serve_quiet (status.KeeperFault rank) is h = h.answers.1
  serve_quiet (status.CheckpointBad rank at why) is h = h.answers.1
  serve_quiet status.Memory is h = absurd is
  serve_quiet status.ReadFault is h = absurd h.answers
  serve_quiet status.Usage is h = absurd h.answers
  serve_quiet (status.Study fault) is h = absurd h.answers
  serve_quiet (status.Tape at why) is h = absurd h.answers
  serve_quiet (status.Schedule line why) is h = absurd h.answers
  serve_quiet (status.NotBuilt part) is h = absurd h.answers
  serve_quiet (status.TooLong file) is h = absurd h.answers
  serve_quiet (status.Events line) is h = absurd h.answers
  serve_quiet (status.NoGroup group) is h = absurd h.answers
  serve_quiet status.TooLarge is h = absurd h.answers
  serve_quiet status.RunnerFault is h = absurd h.answers
  serve_quiet (status.MarksDiffer other plane group first_has) is h = absurd h.answers
  serve_quiet (status.OldRanks ranks) is h = absurd h.answers
  serve_quiet status.DoorFault is h = h.answers.1
  serve_quiet status.LinkFault is h = absurd h.answers
  serve_quiet (status.Refused reason value) is h = absurd h.answers
  serve_quiet status.Peer is h = absurd h.answers

  -- over files, keepers and a door that are sound all is served, but that a write may fail or memory be wanting
  pub serve_asked : (sound : Bool) (s : Status) → IsTrue sound → IsTrue door.sound × IsSureDoor door.accepts door.awaited v.connections → AreSound old → TellsServed v sound out out' old new door door' s → IsServedOrUnsure s
  serve_asked sound status.Done is links keep h = inl refl
  serve_asked sound status.WriteFault is links keep h = inr (inl refl)
  serve_asked sound (status.KeeperFault rank) is links keep h = (let at = h.answers.0 in absurd (at.related.unsound (keep rank at.before at.was).0))
  serve_asked sound (status.CheckpointBad rank at why) is links keep h = (let own = h.answers.0 in absurd (own.related.unsound (keep rank own.before own.was).1 (keep rank own.before own.was).0))
  serve_asked sound status.Memory is links keep h = inr (inr refl)
  serve_asked sound status.ReadFault is links keep h = absurd (h.0 is)
  serve_asked sound status.Usage is links keep h = absurd h.answers
  serve_asked sound (status.Study fault) is links keep h = absurd h.answers
  serve_asked sound (status.Tape at why) is links keep h = absurd h.answers
  serve_asked sound (status.Schedule line why) is links keep h = absurd h.answers
  serve_asked sound (status.NotBuilt part) is links keep h = absurd h.answers
  serve_asked sound (status.TooLong file) is links keep h = absurd h.answers
  serve_asked sound (status.Events line) is links keep h = absurd h.answers
  serve_asked sound (status.NoGroup group) is links keep h = absurd h.answers
  serve_asked sound status.TooLarge is links keep h = absurd h.answers
  serve_asked sound status.RunnerFault is links keep h = absurd h.answers
  serve_asked sound (status.MarksDiffer other plane group first_has) is links keep h = absurd h.answers
  serve_asked sound (status.OldRanks ranks) is links keep h = absurd h.answers
  serve_asked sound status.DoorFault is links keep h = absurd (h.answers.0.unsure links.0 links.1)
  serve_asked sound status.LinkFault is links keep h = absurd h.answers
  serve_asked sound (status.Refused reason value) is links keep h = absurd h.answers
  serve_asked sound status.Peer is links keep h = absurd h.answers

  -- where no count rose and each keeper tells what it holds, it was done or memory is wanting
  pub serve_completed : (sound : Bool) (s : Status) → (s ≡ status.ReadFault → ⊥) → (s ≡ status.DoorFault → ⊥) → DidNotRise out.faults out'.faults → NoneRose old new → AllTell old → TellsServed v sound out out' old new door door' s → IsDoneOrMemory s
  serve_completed sound status.Done read broken writes calm tell h = inl refl
  serve_completed sound status.WriteFault read broken writes calm tell h = absurd (writes h.answers.text.rose)
  serve_completed sound (status.KeeperFault rank) read broken writes calm tell h = (let own = h.answers.0 in absurd (calm rank (record { before = own.before; after = own.after; was = own.was; is = own.is; related = own.related.rose })))
  serve_completed sound (status.CheckpointBad rank at why) read broken writes calm tell h = (let own = h.answers.0 in absurd (calm rank (record { before = own.before; after = own.after; was = own.was; is = own.is; related = own.related.rose (tell rank own.before own.was) })))
  serve_completed sound status.Memory read broken writes calm tell h = inr refl
  serve_completed sound status.ReadFault read broken writes calm tell h = absurd (read refl)
  serve_completed sound status.Usage read broken writes calm tell h = absurd h.answers
  serve_completed sound (status.Study fault) read broken writes calm tell h = absurd h.answers
  serve_completed sound (status.Tape at why) read broken writes calm tell h = absurd h.answers
  serve_completed sound (status.Schedule line why) read broken writes calm tell h = absurd h.answers
  serve_completed sound (status.NotBuilt part) read broken writes calm tell h = absurd h.answers
  serve_completed sound (status.TooLong file) read broken writes calm tell h = absurd h.answers
  serve_completed sound (status.Events line) read broken writes calm tell h = absurd h.answers
  serve_completed sound (status.NoGroup group) read broken writes calm tell h = absurd h.answers
  serve_completed sound status.TooLarge read broken writes calm tell h = absurd h.answers
  serve_completed sound status.RunnerFault read broken writes calm tell h = absurd h.answers
  serve_completed sound (status.MarksDiffer other plane group first_has) read broken writes calm tell h = absurd h.answers
  serve_completed sound (status.OldRanks ranks) read broken writes calm tell h = absurd h.answers
  serve_completed sound status.DoorFault read broken writes calm tell h = absurd (broken refl)
  serve_completed sound status.LinkFault read broken writes calm tell h = absurd h.answers
  serve_completed sound (status.Refused reason value) read broken writes calm tell h = absurd h.answers
  serve_completed sound status.Peer read broken writes calm tell h = absurd h.answers

  -- a server whose study was loaded
  pub tells_served : (sound : Bool) (s : Status) → Serves v out out' old new door door' s → TellsServed v sound out out' old new door door' s
  tells_served sound status.Done h = h
  tells_served sound status.WriteFault h = h
  tells_served sound (status.KeeperFault rank) h = h
  tells_served sound (status.CheckpointBad rank at why) h = h
  tells_served sound status.Memory h = h
  tells_served sound status.ReadFault h = absurd h.answers
  tells_served sound status.Usage h = h
  tells_served sound (status.Study fault) h = h
  tells_served sound (status.Tape at why) h = h
  tells_served sound (status.Schedule line why) h = h
  tells_served sound (status.NotBuilt part) h = h
  tells_served sound (status.TooLong file) h = h
  tells_served sound (status.Events line) h = h
  tells_served sound (status.NoGroup group) h = h
  tells_served sound status.TooLarge h = h
  tells_served sound status.RunnerFault h = h
  tells_served sound (status.MarksDiffer other plane group first_has) h = h
  tells_served sound (status.OldRanks ranks) h = h
  tells_served sound status.DoorFault h = h
  tells_served sound status.LinkFault h = h
  tells_served sound (status.Refused reason value) h = h
  tells_served sound status.Peer h = h
