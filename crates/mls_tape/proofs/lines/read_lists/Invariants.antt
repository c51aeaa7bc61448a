use Rattle.std.proofs.Common.{length}
use Rattle.mls_tape.proofs.ScheduleRun.{IsGoing}
use Rattle.mls_tape.proofs.lines.read_lists.Given as goal

abbrev pub invariant-loop-rest : goal.invariant-loop-rest
invariant-loop-rest l = IsGoing l.tape.ranks l.tape.lanes l.bytes l.passed l.line l.rest

abbrev pub decreases-loop-rest : goal.decreases-loop-rest
decreases-loop-rest l = length l.rest
