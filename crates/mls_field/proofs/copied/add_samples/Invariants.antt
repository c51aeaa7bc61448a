use Rattle.std.proofs.Common.{◌≡◌, ℕ, ◌+◌, ◌<◌, ◌≤◌, slice_index}
use Rattle.mls_field.proofs.copied.add_samples.Given as goal

abbrev pub invariant-loop-k : goal.invariant-loop-k
invariant-loop-k l = record {
  there : (i : ℕ) → i < l.k → slice_index l.sums (l.at + i) ≡ slice_index l.fn.sums (l.at + i) + (slice_index l.samples (l.x + i));
  rest : (i : ℕ) → l.at + l.k ≤ i → slice_index l.sums i ≡ slice_index l.fn.sums i;
  before : (i : ℕ) → i < l.at → slice_index l.sums i ≡ slice_index l.fn.sums i;
}
