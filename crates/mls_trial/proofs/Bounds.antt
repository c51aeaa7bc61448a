-- How large the sums of so many cells and planes are at most, and that they fit.
use Rattle.std.proofs.Common.{◌≡◌, ℕ, ◌+◌, ◌^◌, ◌<◌, ℤ, ◌+ℤ◌, FitsSigned, arith}
use Rattle.std.specs.Int.{w64, w128}
use Rattle.std.proofs.lemmas.Int.{ints}
use Rattle.mls_trial.specs.declared.value_sums.ValueSums.{ValueSums}
use Rattle.mls_trial.specs.Added.{AreCellSums, ArePlaneSums}

pub wide : (z : ℤ) → FitsSigned w64 z → FitsSigned w128 z
wide z narrow = omega (arith, ints, narrow)

-- ---- cells
pub cells_fit : (n : ℕ) (sums : ValueSums) → n < 2 ^ 32 → AreCellSums n sums → FitsSigned w128 sums.first
cells_fit n sums few within = omega (arith, ints, few, within.low, within.high)

pub cells_fit_more : (n : ℕ) (sums : ValueSums) (a : ℤ) → n < 2 ^ 32 → AreCellSums n sums → FitsSigned w64 a → FitsSigned w128 (sums.first +ℤ a)
cells_fit_more n sums a few within narrow = omega (arith, ints, few, within.low, within.high, narrow)

pub cell_within : (n : ℕ) (old new : ValueSums) (a : ℤ) (b : ℕ) → AreCellSums n old → FitsSigned w64 a → b < 2 ^ 64 → new.first ≡ old.first +ℤ a → new.second ≡ old.second + b → AreCellSums (n + 1) new
cell_within n old new a b within narrow few first second = record {
  low = omega (arith, ints, within.low, narrow, first);
  high = omega (arith, ints, within.high, narrow, first);
  second = omega (arith, within.second, few, second);
}

-- ---- planes
pub planes_fit : (n : ℕ) (sums : ValueSums) → n < 2 ^ 15 → ArePlaneSums n sums → FitsSigned w128 sums.first
planes_fit n sums few within = omega (arith, ints, few, within.low, within.high)

pub planes_fit_more : (n cells : ℕ) (old own : ValueSums) → n < 2 ^ 15 → cells < 2 ^ 32 → ArePlaneSums n old → AreCellSums cells own → FitsSigned w128 (old.first +ℤ own.first)
planes_fit_more n cells old own few few_cells within added = omega (arith, ints, few, few_cells, within.low, within.high, added.low, added.high)

pub plane_within : (n cells : ℕ) (old own new : ValueSums) → cells < 2 ^ 32 → ArePlaneSums n old → AreCellSums cells own → new.first ≡ old.first +ℤ own.first → new.second ≡ old.second + own.second → ArePlaneSums (n + 1) new
plane_within n cells old own new few within added first second = record {
  low = omega (arith, ints, few, within.low, added.low, first);
  high = omega (arith, ints, few, within.high, added.high, first);
  second = omega (arith, few, within.second, added.second, second);
}
