use Rattle.std.proofs.Common.{◌≡◌, map, take}
use Rattle.mls_design.specs.Ranges.{nameless}
use Rattle.mls_design.proofs.design.ranges_of.Given as goal

abbrev pub invariant-loop-k : goal.invariant-loop-k
invariant-loop-k l = l.ranges.items ≡ map nameless (take l.k l.study.parameters)
