use Rattle.std.proofs.Common.{◌≡◌, ℕ, ◌+◌, ◌<◌, ◌≤◌, slice_index}
use Rattle.mls_field.proofs.cells.add_four.Given as goal

-- the sums before d have grown, the others are as they were
abbrev pub invariant-loop-d : goal.invariant-loop-d
invariant-loop-d l = record {
  grew : (e : ℕ) → e < l.d → slice_index l.sums (l.at + e) ≡ slice_index l.fn.sums (l.at + e) + slice_index l.more e;
  rest : (e : ℕ) → l.d ≤ e → slice_index l.sums (l.at + e) ≡ slice_index l.fn.sums (l.at + e);
  before : (i : ℕ) → i < l.at → slice_index l.sums i ≡ slice_index l.fn.sums i;
  behind : (i : ℕ) → l.at + 4 ≤ i → slice_index l.sums i ≡ slice_index l.fn.sums i;
}
