use Rattle.std.proofs.Common.{arith, cond, ap, refl, ◌∙◌}
use Rattle.mls_model.specs.Studies.{Sizes}
use Rattle.mls_design.proofs.TrialTapes.{no_lane, within_limits, empty_small}
use Rattle.mls_design.proofs.trial.measure.empty_size.Goals as goal

pub returns-clause-value : goal.returns-clause-value
returns-clause-value c =
    let signed = c.signed.ensures.value ∙ ap (λ (s : Sizes). s.signed) c.shape.ensures in
    no_lane c.args.study.now.sizes.signed (record { bytes = c.header_bytes.result; events = 0 }) (c.header_bytes.ensures ∙ ap (λ b. cond b 11 10) signed) refl

pub returns-clause-small : goal.returns-clause-small
returns-clause-small c = within_limits (record { bytes = c.header_bytes.result; events = 0 }) (empty_small c.signed.result c.header_bytes.result c.header_bytes.ensures) (omega arith)
