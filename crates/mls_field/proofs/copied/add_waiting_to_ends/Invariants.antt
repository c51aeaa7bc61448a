use Rattle.std.proofs.Common.{◌≡◌, ℕ, ◌+◌, ◌<◌, List, length}
use Rattle.mls_field.specs.Cells.{with_rows}
use Rattle.mls_field.specs.Copied.{copied}
use Rattle.mls_field.specs.Gathered.{row_behind}
use Rattle.mls_field.specs.OneCell.{SameFront}
use Rattle.mls_field.specs.OutputSteps.{ends_step}
use Rattle.mls_field.proofs.copied.add_waiting_to_ends.Given as goal

abbrev pub invariant-loop-g : goal.invariant-loop-g
invariant-loop-g l = (k : ℕ) (cell : List ℕ) → k < l.count → length cell ≡ 2 → SameFront 2 (copied 2 l.fn.ends k) cell → SameFront 2 (copied 2 l.ends k) (with_rows ends_step (row_behind (l.parameters + 2) l.places l.samples l.start (l.from + k)) l.g cell)
