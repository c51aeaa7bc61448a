use Rattle.std.proofs.Common.{◌≡◌, ◌++◌, map, take}
use Rattle.mls_launch.proofs.TimedMore.{timed_by}
use Rattle.mls_launch.proofs.writing.add_timed.Given as goal

abbrev pub invariant-loop-action : goal.invariant-loop-action
invariant-loop-action l = l.lines.items ≡ l.initial.lines.items ++ map (timed_by l.time) (take l.action-index l.actions)
