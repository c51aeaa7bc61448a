use Rattle.std.proofs.Common.{◌≡◌, ◌++◌}
use Rattle.std.specs.List.{flat_map}
use Rattle.mls_model.specs.Numbers.{below}
use Rattle.mls_design.specs.Trial.{route_of}
use Rattle.mls_design.proofs.trial.routes.add_routes.Given as goal

abbrev pub invariant-loop-client : goal.invariant-loop-client
invariant-loop-client l = l.routes.items ≡ l.fn.routes.items ++ flat_map (route_of l.shape l.rank) (below l.client)
