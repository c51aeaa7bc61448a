use Rattle.std.proofs.Common.{◌≡◌, ◌≤◌, ◌*◌, length, take, drop}
use Rattle.std.specs.List.{flat_map, enumerate_from}
use Rattle.mls_bins.specs.Words.{words_of}
use Rattle.mls_bins.proofs.lines.bins_from.Given as goal

abbrev pub invariant-loop-k : goal.invariant-loop-k
invariant-loop-k l = record {
  text : l.line ≡ flat_map words_of (take l.k (drop l.first (enumerate_from 0 l.counts)));
  size : length l.line ≤ 22 * l.k;
}
