use Rattle.std.proofs.Common.{◌≡◌, ◌≤◌}
use Rattle.std.specs.Prelude.{count_by}
use Rattle.mls_model.specs.Numbers.{below}
use Rattle.mls_model.specs.Blocks.{overlaps}
use Rattle.mls_resume.proofs.cutting.overlapping.Given as goal

abbrev pub invariant-loop-client : goal.invariant-loop-client
invariant-loop-client l = (l.clients ≡ count_by (overlaps l.shape l.rank) (below l.client)) × (l.clients ≤ l.client)
