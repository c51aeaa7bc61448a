use Rattle.std.proofs.Common.{◌≡◌}
use Rattle.std.specs.List.{flat_map}
use Rattle.mls_model.specs.Numbers.{below}
use Rattle.mls_model.specs.Blocks.{width}
use Rattle.mls_model.specs.Designs.{solved_row}
use Rattle.mls_design.proofs.piece.group_rows.Given as goal

abbrev pub invariant-loop-sim : goal.invariant-loop-sim
invariant-loop-sim l = l.samples ≡ flat_map (λ sim. solved_row l.study l.group sim l.step l.field l.fn.cells.first (width l.fn.cells)) (below l.sim)
