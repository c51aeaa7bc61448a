use Rattle.std.proofs.Common.{◌≡◌, ℕ, ◌+◌, ◌<◌, ◌≤◌, slice_index}
use Rattle.mls_ckpt.specs.Places.{cursor_of}
use Rattle.mls_hist.proofs.Taking.{Reads}
use Rattle.mls_hist.proofs.taken.take_counts.Given as goal

-- the counts so far were read, and what they leave of all samples is left
abbrev pub invariant-loop-bin : goal.invariant-loop-bin
invariant-loop-bin l = record {
  reads : Reads l.n l.start l.bin l.room l.bins (cursor_of l.fn.from) (cursor_of l.from);
  earlier : (j : ℕ) → j < l.start → slice_index l.bins j ≡ slice_index l.fn.bins j;
  behind : (j : ℕ) → l.start + 64 ≤ j → slice_index l.bins j ≡ slice_index l.fn.bins j;
}
