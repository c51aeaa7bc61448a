use Rattle.mls_bins.proofs.Folds.{counts_more, counts_all}
use Rattle.mls_bins.proofs.folding.counts_of.Goals as goal

pub loop-rank-preserved : goal.loop-rank-preserved
loop-rank-preserved c = counts_more c.args.cores.now c.loop-rank.rank c.loop-rank.counts.items _ c.index-cores-rank.result c.counts.result c.loop-rank.invariant c.in-Ok.ensures.items c.loop-rank-test.true c.index-cores-rank.is c.counts.ensures

pub returns-clause-value : goal.returns-clause-value
returns-clause-value c = counts_all c.args.cores.now c.loop-rank.rank c.loop-rank.counts.items c.loop-rank.invariant c.loop-rank-test.false
