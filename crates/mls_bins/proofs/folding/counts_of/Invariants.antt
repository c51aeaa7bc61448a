use Rattle.std.proofs.Common.{◌≡◌, map, take}
use Rattle.mls_rank.specs.Cores.{counts_of}
use Rattle.mls_bins.proofs.folding.counts_of.Given as goal

abbrev pub invariant-loop-rank : goal.invariant-loop-rank
invariant-loop-rank l = l.counts.items ≡ map counts_of (take l.rank l.cores)
