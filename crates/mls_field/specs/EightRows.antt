-- What adding eight rows makes of the numbers of a plane, and what adding the rows that wait makes of those of a cell.
use Rattle.std.specs.Prelude.{◌≡◌, ℕ, ◌+◌, ◌*◌, ◌<◌, ◌≤◌, List, length, slice_index}
use Rattle.mls_field.specs.Cells.{with_rows}
use Rattle.mls_field.specs.ColumnSums.{sums_size, column_at, sums_step, most_before}
use Rattle.mls_field.specs.Gathered.{row_behind}
use Rattle.mls_field.specs.OneCell.{SameFront}
use Rattle.mls_field.specs.OutputSteps.{ends_step, numbers_step}

-- what row g, of those that begin at a start, makes of number c at a place
abbrev pub StepOf : Type 0
StepOf = ℕ → ℕ → ℕ → ℕ → ℕ

abbrev pub sums_steps : ℕ → ℕ → List ℕ → ℕ → StepOf
sums_steps p places samples start c i g n = sums_step p c (row_behind (p + 2) places samples start i g) n

abbrev pub ends_steps : ℕ → ℕ → List ℕ → ℕ → StepOf
ends_steps p places samples start c i g n = ends_step c (row_behind (p + 2) places samples start i g) n

abbrev pub numbers_steps : ℕ → List ℕ → ℕ → List ℕ → ℕ → StepOf
numbers_steps p thresholds places samples start c i g n =
    numbers_step thresholds c (row_behind (p + 2) places samples start i g) n

-- eight rows can be added to the sums at the places from `from` to before `end`
abbrev pub HasRoomForEight : ℕ → ℕ → ℕ → ℕ → ℕ → List ℕ → Type 0
HasRoomForEight p row places from end words =
    (c i : ℕ) → c < sums_size p → from ≤ i → i < end →
    slice_index words ((row + c) * places + i) ≤ most_before (column_at p c)

-- the rows that wait were added to the numbers of a cell in the front of a list
abbrev pub AddsRows : (ℕ → List ℕ → ℕ → ℕ) → ℕ → (ℕ → List ℕ) → ℕ → List ℕ → List ℕ → Type 0
AddsRows step size row waiting old new =
    (cell : List ℕ) → length cell ≡ size → SameFront size old cell →
    SameFront size new (with_rows step row waiting cell)
