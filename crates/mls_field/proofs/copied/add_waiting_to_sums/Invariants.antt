use Rattle.std.proofs.Common.{◌≡◌, ℕ, ◌+◌, ◌<◌, List, length}
use Rattle.mls_field.specs.Cells.{with_rows}
use Rattle.mls_field.specs.ColumnSums.{sums_size, sums_step}
use Rattle.mls_field.specs.Copied.{copied}
use Rattle.mls_field.specs.Gathered.{row_behind}
use Rattle.mls_field.specs.Kinds.{SumsWithin}
use Rattle.mls_field.specs.OneCell.{SameFront}
use Rattle.mls_field.proofs.copied.add_waiting_to_sums.Given as goal

abbrev pub invariant-loop-g : goal.invariant-loop-g
invariant-loop-g l = record {
  range : (k count : ℕ) → k < l.count → SumsWithin l.parameters count (copied (sums_size l.parameters) l.fn.sums k) → SumsWithin l.parameters (count + l.g) (copied (sums_size l.parameters) l.sums k);
  whole : (k : ℕ) (cell : List ℕ) → k < l.count → length cell ≡ sums_size l.parameters → SameFront (sums_size l.parameters) (copied (sums_size l.parameters) l.fn.sums k) cell → SameFront (sums_size l.parameters) (copied (sums_size l.parameters) l.sums k) (with_rows (sums_step l.parameters) (row_behind (l.parameters + 2) l.places l.samples l.start (l.from + k)) l.g cell);
}
