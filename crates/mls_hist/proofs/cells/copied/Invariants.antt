use Rattle.std.proofs.Common.{◌≡◌, ℕ, ◌+◌, ◌<◌, length, slice_index}
use Rattle.mls_hist.proofs.cells.copied.Given as goal

abbrev pub invariant-loop-bin : goal.invariant-loop-bin
invariant-loop-bin l = record {
  long : length l.counts ≡ 64;
  same : (bin : ℕ) → bin < l.bin → slice_index l.counts bin ≡ slice_index l.bins (l.start + bin);
}
