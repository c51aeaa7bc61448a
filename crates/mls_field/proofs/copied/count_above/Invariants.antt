use Rattle.std.proofs.Common.{◌≡◌, ℕ, ◌+◌, ◌<◌, ◌≤◌, slice_index}
use Rattle.mls_power.specs.ColumnSteps.{one_above}
use Rattle.mls_field.proofs.copied.count_above.Given as goal

abbrev pub invariant-loop-k : goal.invariant-loop-k
invariant-loop-k l = record {
  there : (i : ℕ) → i < l.k → slice_index l.numbers (l.at + i) ≡ slice_index l.fn.numbers (l.at + i) + one_above l.threshold (slice_index l.samples (l.x + i)) + one_above l.threshold (slice_index l.samples (l.y + i));
  rest : (i : ℕ) → l.at + l.k ≤ i → slice_index l.numbers i ≡ slice_index l.fn.numbers i;
  before : (i : ℕ) → i < l.at → slice_index l.numbers i ≡ slice_index l.fn.numbers i;
}
