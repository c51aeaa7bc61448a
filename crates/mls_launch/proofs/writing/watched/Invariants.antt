use Rattle.std.proofs.Common.{take}
use Rattle.mls_launch.proofs.TimedMore.{Watched}
use Rattle.mls_launch.proofs.writing.watched.Given as goal

abbrev pub invariant-loop-event : goal.invariant-loop-event
invariant-loop-event l = Watched l.shape l.watch l.lines.items (take l.event-index l.events)
