use Rattle.std.proofs.Common.{◌≡◌, ℕ, ◌+◌, List, length}
use Rattle.mls_field.specs.Cells.{with_rows}
use Rattle.mls_field.specs.OutputSteps.{ends_step}
use Rattle.mls_field.specs.Gathered.{row_behind}
use Rattle.mls_field.specs.OneCell.{SameFront}
use Rattle.mls_field.proofs.cells.add_rows_to_ends.Given as goal

abbrev pub invariant-loop-g : goal.invariant-loop-g
invariant-loop-g l = (cell : List ℕ) → length cell ≡ 2 → SameFront 2 l.fn.ends cell → SameFront 2 l.ends (with_rows ends_step (row_behind (l.parameters + 2) l.places l.samples l.start l.place) l.g cell)
