use Rattle.std.proofs.Common.{◌≡◌, ◌+◌, ◌-◌, ◌≤◌, length}
use Rattle.mls_field.specs.ColumnSums.{sums_size, sums_step}
use Rattle.mls_field.specs.Gathered.{row_behind}
use Rattle.mls_field.specs.Walk.{Walk}
use Rattle.mls_field.proofs.columns.add_to_sums.Given as goal

abbrev pub invariant-loop-from : goal.invariant-loop-from
invariant-loop-from l = record {
  long : length l.words ≡ length l.fn.words;
  inside : l.from ≤ l.places;
  walk : Walk l.row (sums_size l.parameters) l.places 0 l.from l.fn.words l.words (λ c i g n. sums_step l.parameters c (row_behind (l.parameters + 2) l.places l.samples l.start i g) n);
}

abbrev pub decreases-loop-from : goal.decreases-loop-from
decreases-loop-from l = l.places - l.from
