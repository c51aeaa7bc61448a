use Rattle.std.proofs.Common.{◌≡◌, ◌++◌, map, take}
use Rattle.mls_design.specs.Trial.{resent_lane}
use Rattle.mls_design.specs.TrialWriting.{lanes_bytes}
use Rattle.mls_design.proofs.trial.writing.put_resent_lanes.Given as goal

abbrev pub invariant-loop-k : goal.invariant-loop-k
invariant-loop-k l = l.out.items ≡ l.fn.out.items ++ lanes_bytes (map (resent_lane l.study) (take l.k l.all))
