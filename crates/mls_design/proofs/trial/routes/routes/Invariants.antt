use Rattle.std.proofs.Common.{◌≡◌}
use Rattle.std.specs.List.{flat_map}
use Rattle.mls_model.specs.Numbers.{below}
use Rattle.mls_design.specs.Trial.{rank_routes}
use Rattle.mls_design.proofs.trial.routes.routes.Given as goal

abbrev pub invariant-loop-rank : goal.invariant-loop-rank
invariant-loop-rank l = l.all.items ≡ flat_map (rank_routes l.shape) (below l.rank)
