-- What contracts see of a tape.
use Rattle.std.specs.Prelude.{ℕ, Bool, List, Option}
use Rattle.std.specs.Option.{option_map}
use Rattle.mls_model.specs.declared.lanes.LaneKind.{LaneKind}
use Rattle.mls_model.specs.Numbers.{element}
use Rattle.mls_model.specs.Frames.{Frame}
use Rattle.mls_model.specs.Lanes.{Lane}

-- the most bytes of a tape
abbrev pub longest_tape : ℕ
longest_tape = 1073741824

-- a tape: its bytes, the ranks and the sample kind that it was read for, and its lanes
pub record TapeView : Type 0 where
  pub bytes : List ℕ
  pub ranks : ℕ
  pub signed : Bool
  pub lanes : List Lane

-- the kind and the frames of a lane of a list, where there is one
abbrev pub told_lane : List Lane → ℕ → Option (LaneKind × List Frame)
told_lane lanes k = option_map (λ (lane : Lane). (lane.kind, lane.frames)) (element lanes k)
