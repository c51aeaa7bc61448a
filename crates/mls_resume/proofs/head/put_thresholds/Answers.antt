use Rattle.std.proofs.Common.{◌++◌, ap, ◌∙◌, arith}
use Rattle.std.specs.Int.{w16}
use Rattle.mls_ckpt.specs.Reading.{spelled}
use Rattle.mls_rank.proofs.HeadTexts.{thresholds_begin, thresholds_more, thresholds_end}
use Rattle.mls_resume.proofs.head.put_thresholds.Goals as goal

pub loop-i-init : goal.loop-i-init
loop-i-init c = thresholds_begin c.args.out.now c.put_u8.new.self c.args.shape.now.thresholds _ c.thresholds.ensures.value c.in_ok-put_u8.ensures.ok

pub loop-i-preserved : goal.loop-i-preserved
loop-i-preserved c =
    thresholds_more c.loop-i.out c.put_u16.new.self _ c.args.shape.now.thresholds c.loop-i.i (omega (arith, c.loop-i-test.true, c.thresholds-i-end.ensures.value)) (c.in_ok-put_u16.ensures.ok ∙ ap (λ n. c.loop-i.out ++ spelled w16 n) c.threshold.ensures.value) c.loop-i.invariant

pub returns : goal.returns
returns c = thresholds_end c.loop-i.out _ c.args.shape.now.thresholds c.loop-i.i (omega (arith, c.loop-i-test.false, c.thresholds-i-end.ensures.value)) c.loop-i.invariant
