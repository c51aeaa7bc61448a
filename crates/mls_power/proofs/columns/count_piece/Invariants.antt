use Rattle.std.proofs.Common.{◌≡◌, ℕ, ◌+◌, ◌*◌, ◌<◌, ◌≤◌, length, slice_index}
use Rattle.mls_power.specs.Columns.{after}
use Rattle.mls_power.specs.ColumnSteps.{more_above}
use Rattle.mls_power.proofs.columns.count_piece.Given as goal

abbrev pub invariant-loop-j : goal.invariant-loop-j
invariant-loop-j l = record {
  long : length l.counts ≡ length l.fn.counts;
  done : (k : ℕ) → k < l.j → slice_index l.counts k ≡ after (more_above l.samples l.stride l.threshold l.x l.y (l.from + k)) 8 0;
}

abbrev pub invariant-loop-g : goal.invariant-loop-g
invariant-loop-g l = record {
  value : l.number ≡ after (more_above l.samples l.stride l.threshold l.x l.y (l.from + l.j)) l.g 0;
  small : l.number ≤ 2 * l.g;
}
