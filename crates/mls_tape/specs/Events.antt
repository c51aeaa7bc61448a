-- What contracts see of an event of a lane.
use Rattle.std.specs.Prelude.{◌≡◌, ℕ, List, Option, Some, None}
use Rattle.mls_model.specs.declared.lanes.LaneKind.{LaneKind}
use Rattle.mls_model.specs.Numbers.{element}
use Rattle.mls_model.specs.Frames.{Frame}

-- an event with the lanes that it is of, the number of its lane and its number there
pub record DecodedEvent (T : Type 0) : Type 0 where
  pub lanes : T
  pub lane : ℕ
  pub number : ℕ
  pub kind : LaneKind
  pub frame : Frame

abbrev pub decoded_event : {T : Type 0} → T → (lane number : ℕ) → LaneKind → Frame → DecodedEvent T
decoded_event lanes lane number kind frame = record { lanes = lanes; lane = lane; number = number; kind = kind; frame = frame }

-- where a lane's kind and frames are told, the event is of that kind, and the frame of that number
abbrev pub IsToldEvent : Option (LaneKind × List Frame) → ℕ → LaneKind → Frame → Type 0
IsToldEvent None number kind frame = Unit {0}
IsToldEvent (Some lane) number kind frame = (lane.0 ≡ kind) × (element lane.1 number ≡ Some frame)
