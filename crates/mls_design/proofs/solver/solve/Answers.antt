use Rattle.std.proofs.Common.{arith, ◌+◌, ◌∙◌, ap}
use Rattle.mls_model.specs.Designs.{response, solve}
use Rattle.mls_design.proofs.Drawing.{groups_are}
use Rattle.mls_design.proofs.Inputs.{response_of_inputs}
use Rattle.mls_design.proofs.solver.solve.Goals as goal

pub inputs-inputs-requires : goal.inputs-inputs-requires
inputs-inputs-requires c = omega (arith, groups_are c.args.study.now c.args.design.now c.requires.made)

pub overflow_cast-result : goal.overflow_cast-result
overflow_cast-result c =
    let shift = c.args.cell + c.args.step + c.args.field in
    let is = c.response.ensures ∙ ap (response shift) (c.as_slice.ensures.value ∙ c.inputs-inputs.ensures.value c.args.study.now c.requires.made) in
    omega (arith, is, response_of_inputs c.args.study.now c.args.group c.args.sim shift (omega (arith, c.valid.ensures.count, c.valid.ensures.sizes.parameters)))

pub returns : goal.returns
unfolding solve
returns c = c.response.ensures ∙ ap (response (c.args.cell + c.args.step + c.args.field)) (c.as_slice.ensures.value ∙ c.inputs-inputs.ensures.value c.args.study.now c.requires.made)
