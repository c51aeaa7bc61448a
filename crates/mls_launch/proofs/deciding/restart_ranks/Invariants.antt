use Rattle.std.proofs.Common.{◌≡◌, ◌++◌}
use Rattle.mls_launch.specs.Rows.{ranks_due}
use Rattle.mls_launch.proofs.deciding.restart_ranks.Given as goal

abbrev pub invariant-loop-rank : goal.invariant-loop-rank
invariant-loop-rank l = l.actions.items ≡ l.initial.actions.items ++ ranks_due l.silence l.time l.lasts l.rank
