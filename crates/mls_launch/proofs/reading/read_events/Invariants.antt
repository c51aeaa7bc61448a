use Rattle.std.proofs.Common.{length}
use Rattle.mls_launch.proofs.EventReading.{IsRead}
use Rattle.mls_launch.proofs.reading.read_events.Given as goal

abbrev pub invariant-loop-rest : goal.invariant-loop-rest
invariant-loop-rest l = IsRead l.bytes l.events.items l.rest

abbrev pub decreases-loop-rest : goal.decreases-loop-rest
decreases-loop-rest l = length l.rest
