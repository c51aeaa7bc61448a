use Rattle.std.proofs.Common.{◌+◌, refl, arith}
use Rattle.mls_bins.proofs.CellLines.{bin_taken}
use Rattle.mls_bins.proofs.lines.bins_from.Goals as goal

pub loop-k-preserved : goal.loop-k-preserved
loop-k-preserved c = record {
  text = bin_taken c.args.counts.now c.args.first c.loop-k.k (c.args.first + c.loop-k.k) _ _ refl (omega arith) c.loop-k.invariant.text c.add_bin.ensures.text;
  size = omega (arith, c.loop-k.invariant.size, c.add_bin.ensures.size);
}
