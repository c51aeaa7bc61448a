use Rattle.std.proofs.Common.{◌≡◌, ◌-◌, ◌≤◌, length}
use Rattle.mls_power.specs.Columns.{Walked}
use Rattle.mls_power.specs.ColumnSteps.{more_above}
use Rattle.mls_power.proofs.columns.count_above.Given as goal

abbrev pub invariant-loop-from : goal.invariant-loop-from
invariant-loop-from l = record {
  long : length l.numbers ≡ length l.fn.numbers;
  wide : length l.counts ≡ 256;
  inside : l.from ≤ l.count;
  walked : Walked l.at l.from 8 l.fn.numbers l.numbers (more_above l.samples l.stride l.threshold l.x l.y);
}

abbrev pub decreases-loop-from : goal.decreases-loop-from
decreases-loop-from l = l.count - l.from
