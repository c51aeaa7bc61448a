-- Sums of the values of so many cells or planes, and how large they are at most.
use Rattle.std.specs.Prelude.{◌≡◌, ◌*◌, ◌^◌, ◌≤◌, ℕ, ℤ, pos, ◌-ℤ◌, ◌≤ℤ◌}
use Rattle.mls_model.specs.Numbers.{below, sum_ints}
use Rattle.mls_trial.specs.declared.value_sums.ValueSums.{ValueSums}

-- f and g of the numbers below n, added up
pub record AreSums (f g : ℕ → ℤ) (n : ℕ) (sums : ValueSums) : Type 0 where
  pub first : sums.first ≡ sum_ints f (below n)
  pub second : pos sums.second ≡ sum_ints g (below n)

-- they are no larger than those of so many cells, each of which has sums of 64 bits
pub record AreCellSums (n : ℕ) (sums : ValueSums) : Type 0 where
  pub low : (pos 0 -ℤ pos (n * 2 ^ 63)) ≤ℤ sums.first
  pub high : sums.first ≤ℤ pos (n * 2 ^ 63)
  pub second : sums.second ≤ n * 2 ^ 64

-- nor than those of so many planes of at most 2 ^ 32 cells
pub record ArePlaneSums (n : ℕ) (sums : ValueSums) : Type 0 where
  pub low : (pos 0 -ℤ pos (n * 2 ^ 95)) ≤ℤ sums.first
  pub high : sums.first ≤ℤ pos (n * 2 ^ 95)
  pub second : sums.second ≤ n * 2 ^ 96
