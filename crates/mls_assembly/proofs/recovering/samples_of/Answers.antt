use Rattle.mls_assembly.proofs.TakingKeys.{handed_on, sample_goes_on, sample_refuses}
use Rattle.mls_assembly.proofs.recovering.samples_of.Goals as goal

pub returns-in_err-sample : goal.returns-in_err-sample
returns-in_err-sample c =
    handed_on _ c.from_residual.result c.in_err-sample.field-0.0 _ _ c.from_residual.ensures.1
    (sample_refuses c.loop-place.samples.items c.args.count c.loop-place._place _ c.in_err-sample.field-0.0 _ c.loop-place-test.true c.in_err-sample.ensures.exact.0 c.loop-place.invariant)

pub loop-place-preserved : goal.loop-place-preserved
loop-place-preserved c =
    sample_goes_on c.loop-place.samples.items c.push.new.samples.items c.args.count c.loop-place._place c.in_ok-sample.sample _ _ _ c.loop-place-test.true c.in_ok-push.ensures c.in_ok-sample.ensures.exact c.loop-place.invariant
