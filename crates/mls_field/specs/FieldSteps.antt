-- What one more row at each place of a plane makes of the sums of a rank's block, and the values that the sums of a cell are of.
use Rattle.std.specs.Prelude.{◌≡◌, ℕ, List, map, ℤ}
use Rattle.mls_model.specs.Samples.{unshifted}
use Rattle.mls_model.specs.Standing.{Table}
use Rattle.mls_model.specs.Statistics.{outputs}
use Rattle.mls_field.specs.ShiftedRows.{with_rows, shifted_outputs}
use Rattle.mls_field.specs.PlaneCounts.{IsOneMore}
use Rattle.mls_field.specs.Stands.{shape_of, rank_of, row_count, StandsFor}
use Rattle.mls_field.specs.declared.field.Field.{Field}

-- one row more was added to a plane, and none to another
abbrev pub CountsOneMore : Field → Field → ℕ → Type 0
CountsOneMore old new step = IsOneMore (row_count old) (row_count new) step

-- where it stood for lists of rows, it stands for these with a row more at each place of a plane
abbrev pub StandsForMore : Field → Field → ℕ → ℕ → (ℕ → ℕ → ℕ) → Type 0
StandsForMore old new step rows sample =
    (t : Table) → StandsFor old t → StandsFor new (with_rows (shape_of old) (rank_of old) t step rows sample)

-- the values of the samples A and B of rows
abbrev pub values_of : Field → List (List ℕ) → List ℤ
values_of f rows = outputs (map (map (unshifted (shape_of f).signed)) rows)

-- they are those of the shifted samples A and B
abbrev pub AreOutputs : Field → List (List ℕ) → Type 0
AreOutputs f rows = values_of f rows ≡ map (unshifted (shape_of f).signed) (shifted_outputs rows)
