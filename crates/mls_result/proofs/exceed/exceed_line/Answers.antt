use Rattle.mls_power.specs.ExceedStanding.{numbers_of}
use Rattle.mls_result.proofs.Numbers.{listed_none, listed_more, listed_all}
use Rattle.mls_result.proofs.exceed.exceed_line.Goals as goal

pub loop-i-init : goal.loop-i-init
loop-i-init c = listed_none _ _ _ c.exceed_start-line.ensures.text c.exceed_start-line.ensures.size

pub loop-i-preserved : goal.loop-i-preserved
loop-i-preserved c = listed_more _ _ _ _ c.loop-i.i c.above.result c.loop-i-test.true c.loop-i.invariant c.above.ensures.value c.add_number.ensures.text c.add_number.ensures.size

pub returns : goal.returns
returns c = listed_all (numbers_of c.args.exceed.now) _ _ c.args.thresholds c.loop-i.i c.loop-i-test.false c.loop-i.invariant c.text.ensures.bytes
