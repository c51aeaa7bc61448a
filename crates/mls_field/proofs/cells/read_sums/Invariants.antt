use Rattle.std.proofs.Common.{◌≡◌, ℕ, ◌+◌, ◌*◌, ◌<◌, length, slice_index}
use Rattle.mls_field.proofs.cells.read_sums.Given as goal

abbrev pub invariant-loop-c : goal.invariant-loop-c
invariant-loop-c l = record {
  long : length l.sums ≡ 72;
  read : (c : ℕ) → c < l.c → slice_index l.sums c ≡ slice_index l.words ((l.row + c) * l.places + l.place);
}
