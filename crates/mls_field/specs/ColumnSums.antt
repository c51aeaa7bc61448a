-- The sums that are kept of a cell: for each the column that it stands in, and what a row adds to it.
use Rattle.std.specs.Prelude.{ℕ, zero, suc, ◌+◌, ◌-◌, ◌*◌, ◌/◌, ◌%◌, List, cond, nat_lt}
use Rattle.mls_model.specs.CellSums.{sample}
use Rattle.mls_power.specs.ColumnSteps.{cube_of, fourth_of, low_half, high_half}

-- what the sums of a column are of: a kind of samples, the products of two kinds, the third powers of a kind, and the low and the high halves of the fourth powers of A and B
pub data Column : Type 0 where
  Samples : (x : ℕ) → Column
  Products : (x y : ℕ) → Column
  Cubes : (x : ℕ) → Column
  LowFourths : Column
  HighFourths : Column

-- how many sums a cell of so many parameters has: those of samples and products, and four of powers
abbrev pub sums_size : ℕ → ℕ
sums_size p = 8 + 4 * p

-- what a row adds to a sum
abbrev pub of_column : Column → List ℕ → ℕ
of_column (Samples x) row = sample x row
of_column (Products x y) row = sample x row * sample y row
of_column (Cubes x) row = cube_of (sample x row)
of_column LowFourths row = low_half (fourth_of (sample 0 row)) + low_half (fourth_of (sample 1 row))
of_column HighFourths row = high_half (fourth_of (sample 0 row)) + high_half (fourth_of (sample 1 row))

-- the columns of A, B, AA and BB, and of C, CC, AC and BC of a parameter
abbrev pub products_column : ℕ → ℕ → Column
products_column zero zero = Samples 0
products_column zero (suc zero) = Samples 1
products_column zero (suc (suc zero)) = Products 0 0
products_column zero (suc (suc (suc r))) = Products 1 1
products_column (suc k) zero = Samples (2 + k)
products_column (suc k) (suc zero) = Products (2 + k) (2 + k)
products_column (suc k) (suc (suc zero)) = Products 0 (2 + k)
products_column (suc k) (suc (suc (suc r))) = Products 1 (2 + k)

-- the columns behind them: of the cubes of A and of B, and of the halves of the fourth powers of both
abbrev pub powers_column : ℕ → Column
powers_column zero = Cubes 0
powers_column (suc zero) = Cubes 1
powers_column (suc (suc zero)) = LowFourths
powers_column (suc (suc (suc r))) = HighFourths

abbrev pub column_at : ℕ → ℕ → Column
column_at p c = cond (nat_lt c (4 + 4 * p)) (products_column (c / 4) (c % 4)) (powers_column (c - (4 + 4 * p)))

abbrev pub sums_step : ℕ → ℕ → List ℕ → ℕ → ℕ
sums_step p c row n = n + of_column (column_at p c) row

-- how large a sum may be for eight rows to be added
abbrev pub most_before : Column → ℕ
most_before (Samples x) = 9223372036854775807
most_before (Products x y) = 9223372036854775807
most_before (Cubes x) = 281462092005375 * 65527
most_before LowFourths = 9223372036854775807
most_before HighFourths = 9223372036854775807

-- how much a row adds to a sum at most
abbrev pub most_added : Column → ℕ
most_added (Samples x) = 8589934590
most_added (Products x y) = 8589934590
most_added (Cubes x) = 281462092005375
most_added LowFourths = 8589934590
most_added HighFourths = 8589934590
