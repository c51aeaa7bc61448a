use Rattle.std.proofs.Common.{◌≡◌, ℕ, ◌+◌, ◌<◌, ◌≤◌, slice_index}
use Rattle.mls_power.specs.ColumnSteps.{fourth_of, high_half}
use Rattle.mls_field.proofs.copied.add_high_fourths.Given as goal

abbrev pub invariant-loop-k : goal.invariant-loop-k
invariant-loop-k l = record {
  there : (i : ℕ) → i < l.k → slice_index l.sums (l.at + i) ≡ slice_index l.fn.sums (l.at + i) + (high_half (fourth_of (slice_index l.samples (l.x + i))) + high_half (fourth_of (slice_index l.samples (l.y + i))));
  rest : (i : ℕ) → l.at + l.k ≤ i → slice_index l.sums i ≡ slice_index l.fn.sums i;
  before : (i : ℕ) → i < l.at → slice_index l.sums i ≡ slice_index l.fn.sums i;
}
