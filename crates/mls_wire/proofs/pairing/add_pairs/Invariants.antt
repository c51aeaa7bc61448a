use Rattle.std.proofs.Common.{◌≡◌, ◌++◌}
use Rattle.std.specs.List.{flat_map}
use Rattle.mls_model.specs.Numbers.{below}
use Rattle.mls_wire.specs.Sessions.{pair_of}
use Rattle.mls_wire.proofs.pairing.add_pairs.Given as goal

abbrev pub invariant-loop-client : goal.invariant-loop-client
invariant-loop-client l = l.pairs.items ≡ l.fn.pairs.items ++ flat_map (pair_of l.shape l.rank) (below l.client)
