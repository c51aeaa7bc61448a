-- A schedule has, for each rank, a list of lanes of that rank: the order in which the rank takes their events.
use Rattle.std.specs.Prelude.{ℕ, zero, suc, Bool, false, ◌&&◌, cond, List, [], ◌∷◌, length, replicate, map, nat_le, ◌==◌, codes, decimal}
use Rattle.std.specs.List.{flat_map, list_all, enumerate_from}
use Rattle.mls_model.specs.Numbers.{below, times, joined}
use Rattle.mls_model.specs.Lanes.{Lane}

-- the events of lane k of a tape, as a number
abbrev pub event_count : List Lane → ℕ → ℕ
event_count [] k = 0
event_count (lane ∷ lanes) zero = length lane.frames
event_count (lane ∷ lanes) (suc k) = event_count lanes k

-- whether the tape has a lane k, and it is of the rank
abbrev pub is_lane_of : List Lane → ℕ → ℕ → Bool
is_lane_of [] rank k = false
is_lane_of (lane ∷ lanes) rank zero = lane.rank == rank
is_lane_of (lane ∷ lanes) rank (suc k) = is_lane_of lanes rank k

-- a rank's list is legal where its lanes are of the rank and none stands oftener than it has events
unfoldable pub is_legal_order : List Lane → ℕ → List ℕ → Bool
is_legal_order lanes rank order = list_all (λ k. is_lane_of lanes rank k && nat_le (times k order) (event_count lanes k)) order

-- a schedule is legal where it has a legal list for each rank
unfoldable pub is_legal : ℕ → List Lane → List (List ℕ) → Bool
is_legal ranks lanes orders = (length orders == ranks) && list_all (λ (p : ℕ × List ℕ). is_legal_order lanes p.0 p.1) (enumerate_from 0 orders)

-- a legal schedule is complete where each lane of the tape stands exactly as often as it has events
unfoldable pub is_complete : ℕ → List Lane → List (List ℕ) → Bool
is_complete ranks lanes orders = is_legal ranks lanes orders && list_all (λ (p : ℕ × Lane). times p.0 (joined orders) == length p.1.frames) (enumerate_from 0 lanes)

-- the plain schedule: each rank's lanes in rising number, each whole
unfoldable pub plain_order : List Lane → ℕ → List ℕ
plain_order lanes rank = flat_map (λ (p : ℕ × Lane). cond (p.1.rank == rank) (replicate (length p.1.frames) p.0) []) (enumerate_from 0 lanes)

unfoldable pub plain : ℕ → List Lane → List (List ℕ)
plain ranks lanes = map (plain_order lanes) (below ranks)

-- a schedule's text: a line RANK LANE for each event, rank 0's lines first
abbrev pub schedule_line : ℕ → ℕ → List ℕ
schedule_line rank k = joined (decimal rank ∷ codes " " ∷ decimal k ∷ codes "\n" ∷ [])

unfoldable pub schedule_text : List (List ℕ) → List ℕ
schedule_text orders = flat_map (λ (p : ℕ × List ℕ). flat_map (schedule_line p.0) p.1) (enumerate_from 0 orders)
