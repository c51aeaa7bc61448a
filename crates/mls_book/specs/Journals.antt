-- The history of a journal: the events of its lanes in the order in which they were taken.
use Rattle.std.specs.Prelude.{ℕ, List, [], Option, IsSome}
use Rattle.std.specs.List.{AllByRecursion}
use Rattle.std.specs.Option.{option_to_list, option_map, option_and_then}
use Rattle.mls_model.specs.declared.lanes.LaneKind.{LaneKind}
use Rattle.mls_model.specs.Numbers.{element, times}
use Rattle.mls_model.specs.Places.{gathered}
use Rattle.mls_model.specs.Frames.{Frame}
use Rattle.mls_model.specs.Histories.{LaneEvent}

-- the kind of a lane with its frames, where that is told
abbrev pub ToldLane : Type 0
ToldLane = Option (LaneKind × List Frame)

-- event number i of a lane, where the lane tells and has one
abbrev pub told_event : ToldLane → ℕ → Option LaneEvent
told_event lane i = option_and_then (λ (l : LaneKind × List Frame). option_map (λ frame. record { kind = l.0; frame = frame }) (element l.1 i)) lane

-- For the i-th time (from 0) that lane k stands in the journal, event i of lane k.
unfoldable pub told_history : (ℕ → ToldLane) → List ℕ → List LaneEvent
told_history told journal = gathered (λ before k. option_to_list (told_event (told k) (times k before))) [] journal

-- each lane of the journal tells
abbrev pub AllTell : (ℕ → ToldLane) → List ℕ → Type 0
AllTell told journal = AllByRecursion (λ k. IsSome (told k)) journal
