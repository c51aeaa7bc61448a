use Rattle.std.proofs.Common.{◌*◌, ◌-◌, ◌^◌, ◌<◌, ◌≤◌}
use Rattle.mls_num.proofs.fractions.root_below.Given as goal

-- the root lies from `low` to below `high`
abbrev pub invariant-loop-high : goal.invariant-loop-high
invariant-loop-high l = (l.low * l.low ≤ l.q) × (l.q < l.high * l.high) × (l.low < l.high) × (l.high ≤ 2 ^ 32)

abbrev pub decreases-loop-high : goal.decreases-loop-high
decreases-loop-high l = l.high - l.low
