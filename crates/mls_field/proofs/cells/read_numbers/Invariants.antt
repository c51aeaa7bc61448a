use Rattle.std.proofs.Common.{◌≡◌, ℕ, ◌+◌, ◌*◌, ◌<◌, length, slice_index}
use Rattle.mls_field.proofs.cells.read_numbers.Given as goal

abbrev pub invariant-loop-c : goal.invariant-loop-c
invariant-loop-c l = record {
  long : length l.read ≡ 8;
  done : (c : ℕ) → c < l.c → slice_index l.read c ≡ slice_index l.numbers ((l.row + c) * l.places + l.place);
}
