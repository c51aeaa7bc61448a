-- What words ask for, and how an answer and what stands outside agree with it.
use Rattle.std.specs.Prelude.{◌≡◌, ℕ, ◌≤◌, Bool, true, List, length, Some, IsSome, IsTrue, Result, Ok, Err, ◌⊎◌, ⊤}
use Rattle.mls_base.specs.Told.{Names, Rose}
use Rattle.mls_text.specs.Writing.{SinkState}
use Rattle.mls_model.specs.Numbers.{element}
use Rattle.mls_model.specs.Schedules.{is_complete}
use Rattle.mls_model.specs.ResultText.{result_text}
use Rattle.mls_ckpt.specs.declared.faults.CkptWhy.{CkptWhy}
use Rattle.mls_book.specs.Keepers.{KeeperState, AtRank}
use Rattle.mls_result.specs.declared.status.Status.{Status}
use Rattle.mls_result.specs.declared.status.Status.TheVariants as status
use Rattle.mls_load.specs.Refusals.{FileState}
use Rattle.mls_served.specs.Doors.{DoorState}
use Rattle.mls_server.specs.Ends.{IsSureDoor}
use Rattle.mls_served.specs.Serving.{Serving, Serves}
use Rattle.mls_live.specs.Group.{Sending, Enough}
use Rattle.mls_desk.specs.Ends.{HasFaulted, HasGivenBad}
use Rattle.mls_live.specs.Running.{Running, Ran}
use Rattle.mls_live.specs.Answers.{Answers, IsAsked, IsDoneOrMemory, IsUnbroken}

-- to send a life of a group, to run a tape, or to serve connections
pub data Task : Type 0 where
  sends : Sending → Task
  runs : Running → Task
  serves : Serving → Task

abbrev pub as_sends : Result Sending Status → Result Task Status
as_sends (Ok s) = Ok (sends s)
as_sends (Err refusal) = Err refusal

abbrev pub as_runs : Result Running Status → Result Task Status
as_runs (Ok r) = Ok (runs r)
as_runs (Err refusal) = Err refusal

abbrev pub as_serves : Result Serving Status → Result Task Status
as_serves (Ok v) = Ok (serves v)
as_serves (Err refusal) = Err refusal

-- How a server answers whose study is loaded first. A read fails only where the files are not sound.
abbrev pub TellsServed : Serving → (sound : Bool) → (out out' : SinkState) (keepers keepers' : List KeeperState) (door door' : DoorState) → Status → Type 0
TellsServed v sound out out' keepers keepers' door door' status.ReadFault = (IsTrue sound → ⊥) × ((out' ≡ out) × ((keepers' ≡ keepers) × (door' ≡ door)))
TellsServed v sound out out' keepers keepers' door door' answer = Serves v out out' keepers keepers' door door' answer

-- How a command answers over files that tell what they hold: as a sending of what is to be sent, as a run of what is to be run with
-- the door as before, as a server of what is to be served, or as a refusal, after which the door is as before.
abbrev pub TellsRight : Result Task Status → (files files' : FileState) (out out' : SinkState) (keepers keepers' : List KeeperState) (door door' : DoorState) → Status → Type 0
TellsRight (Ok (sends s)) files files' out out' keepers keepers' door door' answer = Answers files.sound (Ok s) door door' answer
TellsRight (Ok (runs r)) files files' out out' keepers keepers' door door' answer = Ran r files files' out out' keepers keepers' answer × (door' ≡ door)
TellsRight (Ok (serves v)) files files' out out' keepers keepers' door door' answer = TellsServed v files.sound out out' keepers keepers' door door' answer
TellsRight (Err refusal) files files' out out' keepers keepers' door door' answer = Answers files.sound (Err refusal) door door' answer

-- what is sent is sure to find its links, and a server its connections
abbrev pub HasLinks : Result Task Status → DoorState → Type 0
HasLinks (Ok (sends s)) door = Enough s door.awaited
HasLinks (Ok (serves v)) door = IsTrue door.sound × IsSureDoor door.accepts door.awaited v.connections
HasLinks right door = ⊤

-- each of the keepers is sound and tells what it holds
abbrev pub AreSound : List KeeperState → Type 0
AreSound keepers = (rank : ℕ) (keeper : KeeperState) → element keepers rank ≡ Some keeper → IsTrue keeper.sound × IsSome keeper.held

-- each of them tells what it holds
abbrev pub AllTell : List KeeperState → Type 0
AllTell keepers = (rank : ℕ) (keeper : KeeperState) → element keepers rank ≡ Some keeper → IsSome keeper.held

-- Where something is run: each keeper is sound and tells, and the sink takes for sure the result text of each complete schedule.
pub record IsSureRun (r : Running) (out : SinkState) (keepers : List KeeperState) : Type 0 where
  pub keep : AreSound keepers
  pub takes : (orders : List (List ℕ)) → is_complete r.study.sizes.ranks r.lanes orders ≡ true → length (result_text r.study r.lanes orders) ≤ out.sure

abbrev pub HasEnoughToRun : Result Task Status → SinkState → List KeeperState → Type 0
HasEnoughToRun (Ok (runs r)) out keepers = IsSureRun r out keepers
HasEnoughToRun (Ok (serves v)) out keepers = AreSound keepers
HasEnoughToRun right out keepers = ⊤

-- All was served, or a write failed, which comes only where the sink took fewer bytes for sure than the text has, or memory is
-- wanting.
abbrev pub IsServedOrUnsure : Status → Type 0
IsServedOrUnsure answer = (answer ≡ status.Done) ⊎ ((answer ≡ status.WriteFault) ⊎ (answer ≡ status.Memory))

-- the answer that is asked for, or memory is wanting
abbrev pub IsAskedTask : Result Task Status → Status → Type 0
IsAskedTask (Ok (sends s)) answer = IsAsked (Ok s) answer
IsAskedTask (Ok (runs r)) answer = IsDoneOrMemory answer
IsAskedTask (Ok (serves v)) answer = IsServedOrUnsure answer
IsAskedTask (Err refusal) answer = (answer ≡ refusal) ⊎ (answer ≡ status.Memory)

-- there is something to send; to run; to serve
abbrev pub IsSending : Result Task Status → Type 0
IsSending (Ok (sends s)) = ⊤
IsSending right = ⊥

abbrev pub IsRunning : Result Task Status → Type 0
IsRunning (Ok (runs r)) = ⊤
IsRunning right = ⊥

abbrev pub IsServing : Result Task Status → Type 0
IsServing (Ok (serves v)) = ⊤
IsServing right = ⊥

-- after these answers alone something may have been written
abbrev pub IsQuiet : Status → Type 0
IsQuiet status.Done = ⊥
IsQuiet status.WriteFault = ⊥
IsQuiet status.Memory = ⊥
IsQuiet answer = ⊤

-- no keeper had a call that failed
abbrev pub NoneRose : List KeeperState → List KeeperState → Type 0
NoneRose old new = (rank : ℕ) → AtRank rank old new (λ before after. Rose before.faults after.faults) → ⊥

-- How a command answers that is to carry out what the held files ask for, or to be refused.
pub record CarriesOut (asked : Names → Result Task Status) (files files' : FileState) (out out' : SinkState) (keepers keepers' : List KeeperState) (door door' : DoorState) (answer : Status) : Type 0 where
  pub right : (held : Names) → files.held ≡ Some held → TellsRight (asked held) files files' out out' keepers keepers' door door' answer
  pub surely : (held : Names) (s : Sending) → files.held ≡ Some held → asked held ≡ Ok (sends s) → Enough s door.awaited → IsUnbroken answer
  pub read_fault : answer ≡ status.ReadFault → Rose files.load_faults files'.load_faults
  pub door_fault : answer ≡ status.DoorFault → Rose door.faults door'.faults
  pub link_fault : answer ≡ status.LinkFault → Rose door.link_faults door'.link_faults
  pub write_fault : answer ≡ status.WriteFault → Rose out.faults out'.faults ⊎ Rose files.save_faults files'.save_faults
  pub keeper_fault : (rank : ℕ) → answer ≡ status.KeeperFault rank → AtRank rank keepers keepers' HasFaulted
  pub checkpoint_bad : (rank at : ℕ) (why : CkptWhy) → answer ≡ status.CheckpointBad rank at why → AtRank rank keepers keepers' HasGivenBad
  pub quiet : IsQuiet answer → out' ≡ out
  pub saves : (answer ≡ status.WriteFault → ⊥) → files'.save_faults ≡ files.save_faults
