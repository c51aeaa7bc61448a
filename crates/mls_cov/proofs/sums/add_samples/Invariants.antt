use Rattle.std.proofs.Common.{◌≡◌, ℕ, ◌+◌, ◌*◌, ◌<◌, ◌≤◌, length, slice_index}
use Rattle.mls_cov.specs.Steps.{Grew}
use Rattle.mls_cov.proofs.sums.add_samples.Given as goal

-- the columns before k are done, the others as they were
abbrev pub invariant-loop-k : goal.invariant-loop-k
invariant-loop-k l = record {
  long : length l.sums ≡ length l.fn.sums;
  outputs : Grew 0 l.fn.sums l.sums l.a l.b (l.a * l.a) (l.b * l.b);
  done : (k : ℕ) → k < l.k → let c = slice_index l.samples (l.at + l.stride * (2 + k)) in Grew (4 + 4 * k) l.fn.sums l.sums c (c * c) (l.a * c) (l.b * c);
  rest : (i : ℕ) → 4 + 4 * l.k ≤ i → slice_index l.sums i ≡ slice_index l.fn.sums i;
}
