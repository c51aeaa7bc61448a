use Rattle.std.proofs.Common.{◌≡◌, ◌+◌, slice_index}
use Rattle.mls_power.specs.Columns.{after, Walked}
use Rattle.mls_power.specs.ColumnSteps.{more_least}
use Rattle.mls_power.proofs.columns.take_least.Given as goal

abbrev pub invariant-loop-j : goal.invariant-loop-j
invariant-loop-j l = Walked l.at l.j 8 l.fn.ends l.ends (more_least l.samples l.stride l.x l.y)

abbrev pub invariant-loop-g : goal.invariant-loop-g
invariant-loop-g l = l.least ≡ after (more_least l.samples l.stride l.x l.y l.j) l.g (slice_index l.fn.ends (l.at + l.j))
