use Rattle.std.proofs.Common.{arith, ◌∙◌, ap, length}
use Rattle.std.proofs.lemmas.List.{take_all}
use Rattle.mls_model.specs.Designs.{inputs}
use Rattle.mls_design.specs.Kept.{Kept}
use Rattle.mls_design.proofs.Drawing.{parameters_are}
use Rattle.mls_design.proofs.Inputs.{length-inputs}
use Rattle.mls_design.proofs.design.Design.inputs.Goals as goal

pub returns-clause-value : goal.returns-clause-value
returns-clause-value c = λ study made.
    c.loop-parameter.invariant.text study made
    ∙ take_all c.loop-parameter.parameter (inputs study c.args.group c.args.sim) (omega (arith, length-inputs study c.args.group c.args.sim, parameters_are study c.args.self.now made, ap (λ (k : Kept). length k.ranges) c.self.view_is, c.len-count.ensures, c.self.inside.ranges.ok.0))
