use Rattle.std.proofs.Common.{arith, ◌≡◌, ◌++◌, ◌∙◌, ap, to_z, of_z}
use Rattle.std.specs.Int.{w64}
use Rattle.std.proofs.lemmas.Int.{ints}
use Rattle.mls_model.specs.Studies.{Sizes}
use Rattle.mls_design.specs.Lines.{value_words}
use Rattle.mls_design.proofs.Columns.{length-values}
use Rattle.mls_design.proofs.Drawing.{groups_are, parameters_are}
use Rattle.mls_design.proofs.Texts.{lined_more, whole_line}
use Rattle.mls_design.proofs.text.line_of.Goals as goal

pub value-requires-clause-group : goal.value-requires-clause-group
value-requires-clause-group c = omega (arith, groups_are c.args.study.now c.args.design.now c.requires.made)

pub value-requires-clause-parameter : goal.value-requires-clause-parameter
value-requires-clause-parameter c = omega (arith, parameters_are c.args.study.now c.args.design.now c.requires.made, c.valid.ensures.count, ap (λ (s : Sizes). s.parameters) c.shape.ensures, c.parameters-parameter-end.ensures.value)

pub loop-parameter-preserved : goal.loop-parameter-preserved
loop-parameter-preserved c =
    let fits : to_z w64 (of_z w64 c.value.result) ≡ c.value.result = omega (arith, ints) in
    lined_more _ _ _ _ c.loop-parameter.parameter c.value.result c.loop-parameter.invariant (c.value.ensures c.args.study.now c.requires.made) (c.add_value.ensures.text ∙ ap (λ v. c.loop-parameter.line ++ value_words v) fits) c.add_value.ensures.size

pub returns : goal.returns
returns c = c.text.ensures.bytes ∙ whole_line c.args.study.now c.args.group c.args.sim c.loop-parameter.parameter c.loop-parameter.line c.loop-parameter.invariant (omega (arith, length-values c.args.study.now c.args.group c.args.sim, c.valid.ensures.count, ap (λ (s : Sizes). s.parameters) c.shape.ensures, c.parameters-parameter-end.ensures.value))
