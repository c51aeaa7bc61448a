-- Cells of a plane that are copied and put.
use Rattle.std.specs.Prelude.{◌≡◌, ℕ, ◌+◌, ◌<◌, List, length, map}
use Rattle.mls_model.specs.Numbers.{below}
use Rattle.mls_ckpt.specs.Reading.{texts}
use Rattle.mls_ckpt.specs.CellParts.{cell_text}
use Rattle.mls_field.specs.ColumnSums.{sums_size}
use Rattle.mls_field.specs.Copied.{copied}
use Rattle.mls_field.specs.Kept.{sums_in_cell, ends_in_cell, numbers_in_cell, sums_at}
use Rattle.mls_field.specs.PutBytes.{Grown}
use Rattle.mls_field.specs.declared.field.Field.{Field}

-- columns hold the numbers of so many cells of a plane, from a place on, with the rows that wait
abbrev pub HoldSumsOf : Field → ℕ → ℕ → ℕ → List ℕ → Type 0
HoldSumsOf f plane from count columns = (k : ℕ) → k < count → copied (sums_size f.shape.parameters) columns k ≡ sums_in_cell f plane (from + k)

abbrev pub HoldEndsOf : Field → ℕ → ℕ → ℕ → List ℕ → Type 0
HoldEndsOf f plane from count columns = (k : ℕ) → k < count → copied 2 columns k ≡ ends_in_cell f plane (from + k)

abbrev pub HoldNumbersOf : Field → ℕ → ℕ → ℕ → List ℕ → Type 0
HoldNumbersOf f plane from count columns = (k : ℕ) → k < count → copied (length f.shape.thresholds) columns k ≡ numbers_in_cell f plane (from + k)

-- the bytes of the cells before a place grew to those of so many cells more
abbrev pub PutsCells : Field → ℕ → ℕ → ℕ → List ℕ → List ℕ → Type 0
PutsCells f plane from count old new =
    (start : List ℕ) → Grown start old (texts cell_text (map (sums_at f plane) (below from))) →
    Grown start new (texts cell_text (map (sums_at f plane) (below (from + count))))
