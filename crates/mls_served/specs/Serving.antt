-- What a server is to serve, what it writes, and how it answers.
use Rattle.std.specs.Prelude.{◌≡◌, ℕ, ◌+◌, List, ◌++◌, Option, Some, None, Result, Ok, Err, IsTrue, ◌⊎◌}
use Rattle.mls_base.specs.Told.{Rose}
use Rattle.mls_text.specs.Writing.{SinkState, Wrote, FailedAfter}
use Rattle.mls_model.specs.declared.lanes.LaneLine.{LaneLine}
use Rattle.mls_model.specs.declared.launcher.Event.{Event}
use Rattle.mls_model.specs.Studies.{Study}
use Rattle.mls_model.specs.WatchText.{watch_text}
use Rattle.mls_book.specs.declared.faults.BookFault.TheVariants as book
use Rattle.mls_book.specs.Keepers.{KeeperState, AtRank}
use Rattle.mls_result.specs.declared.status.Status.{Status}
use Rattle.mls_result.specs.declared.status.Status.TheVariants as status
use Rattle.mls_result.specs.Histories.{AreCores, states_text}
use Rattle.mls_launch.specs.declared.faults.OutFault.{OutFault}
use Rattle.mls_launch.specs.declared.faults.OutFault.TheVariants as written
use Rattle.mls_launch.specs.Writing.{WritesOut}
use Rattle.mls_serve.specs.declared.served.LaneFault.{LaneFault}
use Rattle.mls_desk.specs.Ends.{FieldCore, HasFaulted, HasGivenBad, HoldLast}
use Rattle.mls_server.specs.declared.faults.ServeFault.{ServeFault}
use Rattle.mls_server.specs.declared.faults.ServeFault.TheVariants as serve
use Rattle.mls_server.specs.Ends.{AreSince, IsSureDoor}
use Rattle.mls_server.specs.Lines.{AreLines}
use Rattle.mls_served.specs.Doors.{DoorState}

-- what is served: a study, and so many connections
pub record Serving : Type 0 where
  pub study : Study
  pub connections : ℕ

-- the result text of cores and lane lines, and then the watch text of events
abbrev pub served_text : Study → List FieldCore → List LaneLine → List Event → List ℕ
served_text study cores lines events = states_text study cores lines ++ watch_text study.sizes events

-- All connections were served. What goes out is the result text of the ranks' cores and of the lines of client lanes, and then the
-- watch text of some events. Each rank's keeper that tells holds the checkpoint of its core.
pub record WasServed (v : Serving) (old new : List KeeperState) (goes : List ℕ → Type 0) : Type 0 where
  pub cores : List FieldCore
  pub lines : List LaneLine
  pub events : List Event
  pub are : AreCores v.study.sizes cores
  pub lanes : AreLines v.study.sizes.ranks (v.study.sizes.ranks + v.connections) lines
  pub text : goes (served_text v.study cores lines events)
  pub last : HoldLast v.study.sizes cores old new

-- The door couldn't wait or accept: its count of faults rose. It was not sound, or not sure of so many links.
pub record DoorFailed (v : Serving) (old new : DoorState) : Type 0 where
  pub rose : Rose old.faults new.faults
  pub unsure : IsTrue old.sound → IsSureDoor old.accepts old.awaited v.connections → ⊥

-- After Done all was served and its text went out. After a write fault a front of such a text did. After each other answer nothing
-- went out, and a fault of the door or of a keeper has its cause.
abbrev pub ServedAnswers : Serving → (out out' : SinkState) (old new : List KeeperState) (door door' : DoorState) → Status → Type 0
ServedAnswers v out out' old new door door' status.Done = WasServed v old new (Wrote out out') × (door'.accepts ≡ door.accepts + v.connections)
ServedAnswers v out out' old new door door' status.WriteFault = WasServed v old new (FailedAfter out out')
ServedAnswers v out out' old new door door' (status.KeeperFault rank) = AtRank rank old new HasFaulted × (out' ≡ out)
ServedAnswers v out out' old new door door' (status.CheckpointBad rank at why) = AtRank rank old new HasGivenBad × (out' ≡ out)
ServedAnswers v out out' old new door door' status.DoorFault = DoorFailed v door door' × (out' ≡ out)
ServedAnswers v out out' old new door door' status.Memory = out' ≡ out
ServedAnswers v out out' old new door door' answer = ⊥

-- How a server answers. The keepers are as before, or in their places, and then those that no rank has are as before.
pub record Serves (v : Serving) (out out' : SinkState) (old new : List KeeperState) (door door' : DoorState) (answer : Status) : Type 0 where
  pub answers : ServedAnswers v out out' old new door door' answer
  pub since : (new ≡ old) ⊎ AreSince v.study.sizes.ranks old new

-- what is answered after a fault of the server
abbrev pub lane_status : LaneFault → Status
lane_status f = elim f.fault [ book.KeeperFault ↦ status.KeeperFault f.rank | book.CheckpointBad at why ↦ status.CheckpointBad f.rank at why | book.Memory ↦ status.Memory ]

abbrev pub serve_status : ServeFault → Status
serve_status serve.DoorFault = status.DoorFault
serve_status (serve.Rank fault) = lane_status fault
serve_status serve.Memory = status.Memory

-- what is answered after the text
abbrev pub written_status : {A : Type 0} → Result A OutFault → Status
written_status (Ok done) = status.Done
written_status (Err written.WriteFault) = status.WriteFault
written_status (Err written.Memory) = status.Memory

-- A server without a fault wrote its text.
pub record EndsWhole (text : List ℕ) (out out' : SinkState) (answer : Status) : Type 0 where
  pub result : Result (Unit {0}) OutFault
  pub status_is : answer ≡ written_status result
  pub writes : WritesOut result text out out'

-- the end of a server, with a fault or without
abbrev pub EndsServe : Option ServeFault → (text : List ℕ) → (out out' : SinkState) → Status → Type 0
EndsServe (Some fault) text out out' answer = (answer ≡ serve_status fault) × (out' ≡ out)
EndsServe None text out out' answer = EndsWhole text out out' answer
