use Rattle.mls_power.specs.ExceedStanding.{numbers_of}
use Rattle.mls_result.proofs.Numbers.{IsListed}
use Rattle.mls_result.proofs.exceed.exceed_line.Given as goal

abbrev pub invariant-loop-i : goal.invariant-loop-i
invariant-loop-i l = IsListed (numbers_of l.exceed) l.thresholds l.line l.i
