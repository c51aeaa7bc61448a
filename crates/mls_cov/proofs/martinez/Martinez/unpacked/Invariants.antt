use Rattle.std.proofs.Common.{◌≡◌, ℕ, ◌<◌, ◌≤◌, length, slice_index}
use Rattle.mls_cov.proofs.martinez.Martinez.unpacked.Given as goal

-- the places before i are copied, the others are 0
abbrev pub invariant-loop-i : goal.invariant-loop-i
invariant-loop-i l = record {
  long : length l.sums ≡ 68;
  done : (j : ℕ) → j < l.i → slice_index l.sums j ≡ slice_index l.words j;
  rest : (j : ℕ) → l.i ≤ j → slice_index l.sums j ≡ 0;
}
