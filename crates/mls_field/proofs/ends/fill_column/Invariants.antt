use Rattle.std.proofs.Common.{◌≡◌, ℕ, ◌+◌, ◌<◌, slice_index}
use Rattle.mls_field.proofs.ends.fill_column.Given as goal

abbrev pub invariant-loop-k : goal.invariant-loop-k
invariant-loop-k l = record {
  there : (k : ℕ) → k < l.k → slice_index l.ends (l.at + k) ≡ l.end;
  before : (i : ℕ) → i < l.at → slice_index l.ends i ≡ slice_index l.fn.ends i;
}
