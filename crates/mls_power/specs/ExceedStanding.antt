-- When the numbers of samples above thresholds stand for a list of samples.
use Rattle.std.specs.Prelude.{◌≡◌, ℕ, ◌<◌, ◌≤◌, List, length, map, pos, slice_index}
use Rattle.mls_model.specs.Statistics.{above}
use Rattle.mls_power.specs.declared.exceed.Exceed.{Exceed}

-- how many samples there are
abbrev pub exceed_count_of : Exceed → ℕ
exceed_count_of e = e.count

-- the eight numbers that the reader gives
abbrev pub numbers_of : Exceed → List ℕ
numbers_of e = e.numbers

-- the number of the samples, for each threshold how many of them are greater, and 0 behind the thresholds
pub record ExceedStandsFor (thresholds : List ℕ) (e : Exceed) (ws : List ℕ) : Type 0 where
  pub count : exceed_count_of e ≡ length ws
  pub each : (i : ℕ) → i < length thresholds → slice_index (numbers_of e) i ≡ above (pos (slice_index thresholds i)) (map pos ws)
  pub behind : (i : ℕ) → length thresholds ≤ i → slice_index (numbers_of e) i ≡ 0
