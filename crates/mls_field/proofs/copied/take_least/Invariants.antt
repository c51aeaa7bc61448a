use Rattle.std.proofs.Common.{◌≡◌, ℕ, ◌+◌, ◌<◌, ◌≤◌, min, slice_index}
use Rattle.mls_field.proofs.copied.take_least.Given as goal

abbrev pub invariant-loop-k : goal.invariant-loop-k
invariant-loop-k l = record {
  there : (i : ℕ) → i < l.k → slice_index l.ends i ≡ min (min (slice_index l.fn.ends i) (slice_index l.samples (l.x + i))) (slice_index l.samples (l.y + i));
  rest : (i : ℕ) → l.k ≤ i → slice_index l.ends i ≡ slice_index l.fn.ends i;
}
