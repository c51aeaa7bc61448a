use Rattle.std.proofs.Common.{◌≡◌, ℕ, ◌+◌, ◌<◌, ◌≤◌, max, slice_index}
use Rattle.mls_field.proofs.copied.take_greatest.Given as goal

abbrev pub invariant-loop-k : goal.invariant-loop-k
invariant-loop-k l = record {
  there : (i : ℕ) → i < l.k → slice_index l.ends (64 + i) ≡ max (max (slice_index l.fn.ends (64 + i)) (slice_index l.samples (l.x + i))) (slice_index l.samples (l.y + i));
  rest : (i : ℕ) → 64 + l.k ≤ i → slice_index l.ends i ≡ slice_index l.fn.ends i;
  before : (i : ℕ) → i < 64 → slice_index l.ends i ≡ slice_index l.fn.ends i;
}
