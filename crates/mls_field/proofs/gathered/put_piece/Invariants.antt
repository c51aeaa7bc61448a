use Rattle.std.proofs.Common.{◌≡◌, ℕ, ◌+◌, ◌<◌, ◌≤◌, slice_index}
use Rattle.mls_field.proofs.gathered.put_piece.Given as goal

-- the numbers before the loop's were copied
abbrev pub invariant-loop-k : goal.invariant-loop-k
invariant-loop-k l = record {
  there : (i : ℕ) → i < l.k → slice_index l.samples (l.at + i) ≡ slice_index l.piece i;
  before : (j : ℕ) → j < l.at → slice_index l.samples j ≡ slice_index l.fn.samples j;
  behind : (j : ℕ) → l.at + l.k ≤ j → slice_index l.samples j ≡ slice_index l.fn.samples j;
}
