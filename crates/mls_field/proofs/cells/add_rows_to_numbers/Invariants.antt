use Rattle.std.proofs.Common.{◌≡◌, ℕ, ◌+◌, ◌*◌, ◌<◌, ◌≤◌, List, length, slice_index}
use Rattle.mls_field.specs.Cells.{with_rows}
use Rattle.mls_field.specs.OutputSteps.{numbers_step}
use Rattle.mls_field.specs.Gathered.{row_behind}
use Rattle.mls_field.specs.OneCell.{SameFront}
use Rattle.mls_field.proofs.cells.add_rows_to_numbers.Given as goal

abbrev pub invariant-loop-g : goal.invariant-loop-g
invariant-loop-g l = record {
  small : (c : ℕ) → c < length l.shape.thresholds → slice_index l.numbers c ≤ slice_index l.fn.numbers c + 2 * l.g;
  whole : (cell : List ℕ) → length cell ≡ length l.shape.thresholds → SameFront (length l.shape.thresholds) l.fn.numbers cell → SameFront (length l.shape.thresholds) l.numbers (with_rows (numbers_step l.shape.thresholds) (row_behind (l.shape.parameters + 2) l.places l.samples l.start l.place) l.g cell);
}
