use Rattle.std.proofs.Common.{◌≡◌, ◌++◌, map}
use Rattle.mls_model.specs.Numbers.{below}
use Rattle.mls_design.specs.Trial.{control_lane}
use Rattle.mls_design.specs.TrialWriting.{lanes_bytes}
use Rattle.mls_design.proofs.trial.writing.put_control_lanes.Given as goal

abbrev pub invariant-loop-rank : goal.invariant-loop-rank
invariant-loop-rank l = l.out.items ≡ l.fn.out.items ++ lanes_bytes (map control_lane (below l.rank))
