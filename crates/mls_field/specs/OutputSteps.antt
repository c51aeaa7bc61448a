-- What a row makes of the least and greatest samples of a cell, and of its numbers above thresholds.
use Rattle.std.specs.Prelude.{ℕ, zero, suc, ◌+◌, List, slice_index, min, max}
use Rattle.mls_model.specs.CellSums.{sample}
use Rattle.mls_power.specs.ColumnSteps.{one_above}

abbrev pub ends_step : ℕ → List ℕ → ℕ → ℕ
ends_step zero row n = min (min n (sample 0 row)) (sample 1 row)
ends_step (suc c) row n = max (max n (sample 0 row)) (sample 1 row)

abbrev pub numbers_step : List ℕ → ℕ → List ℕ → ℕ → ℕ
numbers_step thresholds c row n = n + one_above (slice_index thresholds c) (sample 0 row) + one_above (slice_index thresholds c) (sample 1 row)
