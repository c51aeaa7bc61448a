use Rattle.std.proofs.Common.{arith, ◌∙◌}
use Rattle.mls_design.proofs.Drawing.{ranges_more}
use Rattle.mls_design.proofs.design.ranges_of.Goals as goal

pub loop-k-preserved : goal.loop-k-preserved
loop-k-preserved c = c.in_ok-push.ensures.items ∙ ranges_more c.args.study.now.parameters c.loop-k.ranges.items c.loop-k.k c.of.result c.loop-k.invariant c.of.ensures (omega (arith, c.valid.ensures.count))
