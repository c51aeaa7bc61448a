-- What happens at a rank: the events of its lanes in the order of its list.
use Rattle.std.specs.Prelude.{ℕ, List, [], Option}
use Rattle.std.specs.Option.{option_to_list, option_map, option_and_then}
use Rattle.mls_model.specs.declared.lanes.LaneKind.{LaneKind}
use Rattle.mls_model.specs.Numbers.{element, times}
use Rattle.mls_model.specs.Places.{gathered}
use Rattle.mls_model.specs.Frames.{Frame}
use Rattle.mls_model.specs.Lanes.{Lane}

-- a frame with the kind of the lane that it came on
pub record LaneEvent : Type 0 where
  pub kind : LaneKind
  pub frame : Frame

-- event number i of lane k, where there is one
abbrev pub event_of : List Lane → ℕ → ℕ → Option LaneEvent
event_of lanes k i = option_and_then (λ (lane : Lane). option_map (λ frame. record { kind = lane.kind; frame = frame }) (element lane.frames i)) (element lanes k)

-- For the i-th time (from 0) that lane k stands in the order, event i of lane k.
unfoldable pub history : List Lane → List ℕ → List LaneEvent
history lanes order = gathered (λ before k. option_to_list (event_of lanes k (times k before))) [] order
