use Rattle.std.proofs.Common.{◌≡◌}
use Rattle.std.specs.List.{flat_map}
use Rattle.mls_model.specs.Numbers.{below}
use Rattle.mls_wire.specs.Sessions.{rank_pairs}
use Rattle.mls_wire.proofs.pairing.pairs.Given as goal

abbrev pub invariant-loop-rank : goal.invariant-loop-rank
invariant-loop-rank l = l.all.items ≡ flat_map (rank_pairs l.shape) (below l.rank)
