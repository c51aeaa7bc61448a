-- Which numbers are statistics of so many samples of 16 bits, as a checkpoint states it.
use Rattle.std.specs.Prelude.{◌≡◌, ℕ, ◌+◌, ◌*◌, ◌≤◌, List, slice_index}

-- the sums of the first to fourth powers
pub record AreSums (count p1 p2 p3 p4 : ℕ) : Type 0 where
  pub first : p1 ≤ 65535 * count
  pub second : p2 ≤ 65535 * p1
  pub spread : p1 * p1 ≤ count * p2
  pub third : p3 ≤ 65535 * p2
  pub fourth : p4 ≤ 65535 * p3

-- the least and the greatest sample
pub record AreExtrema (count least greatest : ℕ) : Type 0 where
  pub none_least : count ≡ 0 → least ≡ 65535
  pub none_greatest : count ≡ 0 → greatest ≡ 0
  pub some : 1 ≤ count → least ≤ greatest

-- the numbers of samples above rising thresholds: each at most as many as there are samples, and at most the one before it
pub record AreNumbersAbove (count : ℕ) (numbers : List ℕ) : Type 0 where
  pub few : (i : ℕ) → slice_index numbers i ≤ count
  pub falling : (i : ℕ) → slice_index numbers (i + 1) ≤ slice_index numbers i

-- the same, of so many thresholds, with 0 behind them
pub record AreNumbersOf (thresholds count : ℕ) (numbers : List ℕ) : Type 0 where
  pub range : AreNumbersAbove count numbers
  pub behind : (i : ℕ) → thresholds ≤ i → slice_index numbers i ≡ 0
