-- What is right of a run, and what it leaves of the sink, the files and the keepers.
use Rattle.std.specs.Prelude.{◌≡◌, ℕ, ◌≤◌, ◌<◌, true, List, Option, Some, None, IsSome, IsTrue, Result, Ok, Err, ◌++◌, ◌⊎◌, ⊤}
use Rattle.mls_base.specs.Told.{Names}
use Rattle.mls_text.specs.Writing.{SinkState, Wrote, FailedAfter}
use Rattle.mls_model.specs.Numbers.{element}
use Rattle.mls_model.specs.Studies.{Sizes, Study}
use Rattle.mls_model.specs.Lanes.{Lane}
use Rattle.mls_model.specs.Histories.{LaneEvent}
use Rattle.mls_model.specs.Schedules.{is_complete, schedule_text}
use Rattle.mls_model.specs.ResultText.{histories_of}
use Rattle.mls_orders.specs.OrderFree.{IsOrderFree}
use Rattle.mls_orders.specs.CellLines.{text_with_plain_lines}
use Rattle.mls_ckpt.specs.CellParts.{sums_part}
use Rattle.mls_base.specs.declared.outside.Keeper as keeper
use Rattle.mls_book.specs.Books.{IsRecord}
use Rattle.mls_book.specs.Keepers.{KeeperState, AreLeft, AreSure, AtRank}
use Rattle.mls_book.specs.Runs.{held_over}
use Rattle.mls_book.specs.declared.faults.BookFault.TheVariants as book
use Rattle.mls_result.specs.declared.status.Status.{Status}
use Rattle.mls_result.specs.declared.status.Status.TheVariants as status
use Rattle.mls_launch.specs.declared.faults.OutFault.{OutFault}
use Rattle.mls_launch.specs.declared.faults.OutFault.TheVariants as fault
use Rattle.mls_load.specs.Inputs.{◌>>=◌, right_study}
use Rattle.mls_load.specs.Refusals.{FileState}
use Rattle.mls_load.specs.Tapes.{right_lanes}
use Rattle.mls_desk.specs.Ends.{HasFaulted, HasGivenBad}
use Rattle.mls_pool.specs.declared.faults.PoolFault.{PoolFault}
use Rattle.mls_pool.specs.Pools.{TapeBook, journals}
use Rattle.mls_live.specs.Ending.{Ends, IsSaved, IsSpoiled, IsUnsaved, OfBooks, OfRun, own_keepers}

-- what is run: the lanes of a tape for a study, and the name under which the schedule is saved
pub record Running : Type 0 where
  pub study : Study
  pub lanes : List Lane
  pub name : List ℕ

abbrev pub running_of : Study → List Lane → List ℕ → Running
running_of study lanes name = record { study = study; lanes = lanes; name = name }

-- what is run of the study and the tape of these names
unfoldable pub right_running : (study tape schedule : List ℕ) → Names → Result Running Status
right_running study_name tape_name name held = do
  study ← right_study study_name held
  lanes ← right_lanes study tape_name held
  Ok (running_of study lanes name)

-- A keeper after the history of its rank: where it tells it holds the checkpoint up to the last save, or what it held. Its count of
-- faults never fell.
pub record HoldsLast (s : Sizes) (rank : ℕ) (history : List LaneEvent) (old new : KeeperState) : Type 0 where
  pub held : new.held ≡ held_over sums_part s rank history old.held
  pub counted : old.faults ≤ new.faults

-- A run was carried out: its schedule is complete. What goes out is the text of some cores, and the result text of this schedule
-- where each keeper tells what it holds, or no crash of its rank's history stands behind a save. Where the order of the tape doesn't
-- matter it has the step and cell lines of the plain schedule. The schedule's own text is what is saved. Each rank's keeper holds the
-- last save of its history.
pub record WasRun (r : Running) (old new : List KeeperState) (saves goes : List ℕ → Type 0) : Type 0 where
  pub orders : List (List ℕ)
  pub complete : is_complete r.study.sizes.ranks r.lanes orders ≡ true
  pub text : OfRun r.study r.lanes orders (AreSure (histories_of r.lanes orders) old) goes
  pub plain : IsOrderFree r.study.sizes r.lanes → goes (text_with_plain_lines r.study r.lanes orders)
  pub saved : saves (schedule_text orders)
  pub keep : (rank : ℕ) → rank < r.study.sizes.ranks → AtRank rank old new (HoldsLast r.study.sizes rank (histories_of r.lanes orders rank))

-- After Done the text went out and then the schedule was saved under its name. After a write fault a front of the text went out and
-- nothing was saved, or the whole text did and the save failed. After the fault of a keeper nothing went out. Where memory is wanting
-- nothing went out or the whole text, and no save failed. A read fails only where the files are not sound.
abbrev pub RunAnswers : Running → (files files' : FileState) (out out' : SinkState) (old new : List KeeperState) → Status → Type 0
RunAnswers r files files' out out' old new status.Done = WasRun r old new (λ bytes. IsSaved r.name bytes files files') (Wrote out out')
RunAnswers r files files' out out' old new status.WriteFault = WasRun r old new (λ bytes. IsUnsaved files files') (FailedAfter out out') ⊎ WasRun r old new (λ bytes. IsSpoiled r.name files files') (Wrote out out')
RunAnswers r files files' out out' old new (status.KeeperFault rank) = AtRank rank old new HasFaulted × ((out' ≡ out) × IsUnsaved files files')
RunAnswers r files files' out out' old new (status.CheckpointBad rank at why) = AtRank rank old new HasGivenBad × ((out' ≡ out) × IsUnsaved files files')
RunAnswers r files files' out out' old new status.Memory = ((out' ≡ out) ⊎ WasRun r old new (λ bytes. ⊤) (Wrote out out')) × (files'.save_faults ≡ files.save_faults)
RunAnswers r files files' out out' old new status.ReadFault = (IsTrue files.sound → ⊥) × ((out' ≡ out) × (files'.save_faults ≡ files.save_faults))
RunAnswers r files files' out out' old new answer = ⊥

-- How a run answers. The keepers that no rank has are as before.
pub record Ran (r : Running) (files files' : FileState) (out out' : SinkState) (old new : List KeeperState) (answer : Status) : Type 0 where
  pub answers : RunAnswers r files files' out out' old new answer
  pub left : AreLeft r.study.sizes.ranks old new

-- what is answered after a fault of the workers or of the drain
abbrev pub pool_status : PoolFault → Status
pool_status f = elim f.fault [ book.KeeperFault ↦ status.KeeperFault f.rank | book.CheckpointBad at why ↦ status.CheckpointBad f.rank at why | book.Memory ↦ status.Memory ]

-- what is answered after the end of a run
abbrev pub ended_status : {A : Type 0} → Result A OutFault → Status
ended_status (Ok done) = status.Done
ended_status (Err fault.WriteFault) = status.WriteFault
ended_status (Err fault.Memory) = status.Memory

-- A run with a fault wrote and saved nothing, and its keepers come back. The record of the fault's book has its cause.
pub record EndsFaulty {K : Type 0} (U : keeper.Ghosts K) (books : List (TapeBook K)) (spare back : List K) (f : PoolFault) (files files' : FileState) (out out' : SinkState) (answer : Status) : Type 0 where
  pub status_is : answer ≡ pool_status f
  pub cause : (book : TapeBook K) → element books f.rank ≡ Some book → IsRecord book.fault (U.faults book.keeper) (U.held book.keeper)
  pub same_files : files' ≡ files
  pub same_out : out' ≡ out
  pub keepers_are : back ≡ own_keepers books ++ spare

-- A run without a fault came to its end.
pub record EndsWhole {K : Type 0} (U : keeper.Ghosts K) (study : Study) (lanes : List Lane) (name : List ℕ) (books : List (TapeBook K)) (spare back : List K) (files files' : FileState) (out out' : SinkState) (answer : Status) : Type 0 where
  pub result : Result (Unit {0}) OutFault
  pub status_is : answer ≡ ended_status result
  pub ends : Ends (OfBooks U study lanes books) name (schedule_text (journals books)) result files files' out out'
  pub keepers_are : back ≡ own_keepers books ++ spare

-- the end of a run, with a fault or without
abbrev pub EndsPool : {K : Type 0} → keeper.Ghosts K → Study → List Lane → (name : List ℕ) → List (TapeBook K) → (spare : List K) → Option PoolFault → (back : List K) → (files files' : FileState) (out out' : SinkState) → Status → Type 0
EndsPool U study lanes name books spare (Some f) back files files' out out' answer = EndsFaulty U books spare back f files files' out out' answer
EndsPool U study lanes name books spare None back files files' out out' answer = EndsWhole U study lanes name books spare back files files' out out' answer
