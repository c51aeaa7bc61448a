use Rattle.std.proofs.Common.{◌≡◌, ℕ, ◌+◌, ◌*◌, ◌<◌, ◌≤◌, List, length, slice_index}
use Rattle.mls_field.specs.Cells.{with_rows}
use Rattle.mls_field.specs.Copied.{copied}
use Rattle.mls_field.specs.Gathered.{row_behind}
use Rattle.mls_field.specs.OneCell.{SameFront}
use Rattle.mls_field.specs.OutputSteps.{numbers_step}
use Rattle.mls_field.proofs.copied.add_waiting_to_numbers.Given as goal

abbrev pub invariant-loop-g : goal.invariant-loop-g
invariant-loop-g l = record {
  small : (c k : ℕ) → c < length l.shape.thresholds → k < l.count → slice_index l.numbers (c * 64 + k) ≤ slice_index l.fn.numbers (c * 64 + k) + 2 * l.g;
  whole : (k : ℕ) (cell : List ℕ) → k < l.count → length cell ≡ length l.shape.thresholds → SameFront (length l.shape.thresholds) (copied (length l.shape.thresholds) l.fn.numbers k) cell → SameFront (length l.shape.thresholds) (copied (length l.shape.thresholds) l.numbers k) (with_rows (numbers_step l.shape.thresholds) (row_behind (l.shape.parameters + 2) l.places l.samples l.start (l.from + k)) l.g cell);
}
