use Rattle.std.proofs.Common.{get_or, ◌+◌, ◌∙◌, length-set, arith}
use Rattle.mls_hist.proofs.QuartileBins.{copied_on}
use Rattle.mls_hist.proofs.cells.copied.Goals as goal

pub loop-bin-preserved : goal.loop-bin-preserved
loop-bin-preserved c = record {
  long = length-set c.loop-bin.counts c.loop-bin.bin (get_or c.args.bins.now (c.args.start + c.loop-bin.bin) 0) ∙ c.loop-bin.invariant.long;
  same = copied_on c.loop-bin.counts c.args.bins.now c.args.start c.loop-bin.bin (omega (arith, c.loop-bin.invariant.long)) c.loop-bin.invariant.same;
}
