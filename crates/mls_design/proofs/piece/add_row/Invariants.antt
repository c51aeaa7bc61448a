use Rattle.std.proofs.Common.{◌≡◌, ◌+◌, ◌++◌, map}
use Rattle.mls_model.specs.Numbers.{below}
use Rattle.mls_model.specs.Designs.{response}
use Rattle.mls_design.proofs.piece.add_row.Given as goal

abbrev pub invariant-loop-place : goal.invariant-loop-place
invariant-loop-place l = l.samples ≡ l.fn.samples ++ map (λ x. response (l.fn.cells.first + x + l.step + l.field) l.inputs) (below l.place)
