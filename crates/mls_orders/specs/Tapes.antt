-- What a tape gives a rank, whatever the order in which the rank takes it.
use Rattle.std.specs.Prelude.{ℕ, ◌<◌, cond, List, [], map, ◌==◌}
use Rattle.std.specs.List.Sorted.{IsPermutation}
use Rattle.std.specs.List.{flat_map}
use Rattle.mls_model.specs.Studies.{Sizes}
use Rattle.mls_model.specs.Frames.{Piece}
use Rattle.mls_model.specs.Lanes.{Lane}
use Rattle.mls_model.specs.Histories.{LaneEvent}
use Rattle.mls_model.specs.Fitting.{fitting}

-- the events of a lane
abbrev pub lane_events : Lane → List LaneEvent
lane_events lane = map (λ frame. record { kind = lane.kind; frame = frame }) lane.frames

-- the events of a rank's lanes, lane by lane
unfoldable pub rank_events : List Lane → ℕ → List LaneEvent
rank_events lanes rank = flat_map (λ (lane : Lane). cond (lane.rank == rank) (lane_events lane) []) lanes

-- Each rank's history has the events of the rank's lanes, each as often as the tape has it, in some order.
abbrev pub TakesTheTape : ℕ → List Lane → (ℕ → List LaneEvent) → Type 0
TakesTheTape ranks lanes histories = (rank : ℕ) → rank < ranks → IsPermutation (histories rank) (rank_events lanes rank)

-- the fitting pieces among the events of a rank's lanes
abbrev pub tape_pieces : Sizes → List Lane → ℕ → List Piece
tape_pieces s lanes rank = fitting s rank (rank_events lanes rank)
