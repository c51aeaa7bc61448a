use Rattle.std.proofs.Common.{◌≡◌, ℕ, ◌+◌, List, length}
use Rattle.mls_field.specs.Cells.{with_rows}
use Rattle.mls_field.specs.ColumnSums.{sums_size, sums_step}
use Rattle.mls_field.specs.Gathered.{row_behind}
use Rattle.mls_field.specs.Kinds.{SumsWithin}
use Rattle.mls_field.specs.OneCell.{SameFront}
use Rattle.mls_field.proofs.cells.add_rows_to_sums.Given as goal

abbrev pub invariant-loop-g : goal.invariant-loop-g
invariant-loop-g l = record {
  range : (count : ℕ) → SumsWithin l.parameters count l.fn.sums → SumsWithin l.parameters (count + l.g) l.sums;
  whole : (cell : List ℕ) → length cell ≡ sums_size l.parameters → SameFront (sums_size l.parameters) l.fn.sums cell → SameFront (sums_size l.parameters) l.sums (with_rows (sums_step l.parameters) (row_behind (l.parameters + 2) l.places l.samples l.start l.place) l.g cell);
}
