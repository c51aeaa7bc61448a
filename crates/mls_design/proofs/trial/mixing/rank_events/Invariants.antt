use Rattle.std.proofs.Common.{◌*◌, ◌≤◌}
use Rattle.mls_design.proofs.trial.mixing.rank_events.Given as goal

abbrev pub invariant-loop-lane : goal.invariant-loop-lane
invariant-loop-lane l = l.sum ≤ 4294967295 * l.lane
