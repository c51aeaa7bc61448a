use Rattle.std.proofs.Common.{◌≡◌, ℕ, ◌+◌, ◌<◌, slice_index}
use Rattle.mls_field.proofs.copied.copy_sums_of.Given as goal

abbrev pub invariant-loop-k : goal.invariant-loop-k
invariant-loop-k l = record {
  there : (i : ℕ) → i < l.k → slice_index l.columns (l.to + i) ≡ slice_index l.words (l.at + i);
  before : (j : ℕ) → j < l.to → slice_index l.columns j ≡ slice_index l.fn.columns j;
}
