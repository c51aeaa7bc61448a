use Rattle.std.proofs.Common.{take}
use Rattle.mls_slot.specs.Traces.{TornBy}
use Rattle.mls_slot.proofs.memory.Area.image.Given as goal

-- the writes so far were torn
abbrev pub invariant-loop-range : goal.invariant-loop-range
invariant-loop-range l = TornBy (take l.range-index l.self.ranges.items) l.self.synced.items l.image.items
