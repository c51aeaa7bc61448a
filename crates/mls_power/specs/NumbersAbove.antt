-- The numbers of samples of a list above thresholds.
use Rattle.std.specs.Prelude.{◌≡◌, ℕ, ◌<◌, List, length, map, pos, slice_index}
use Rattle.mls_model.specs.Statistics.{above}

-- for each threshold the number of samples that are greater
pub record HoldsAbove (thresholds numbers ws : List ℕ) : Type 0 where
  pub each : (i : ℕ) → i < length thresholds → slice_index numbers i ≡ above (pos (slice_index thresholds i)) (map pos ws)
