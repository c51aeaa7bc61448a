use Rattle.std.proofs.Common.{◌≡◌, ◌++◌, ◌∙◌, ap, arith}
use Rattle.std.specs.List.{flat_map}
use Rattle.mls_model.specs.Numbers.{below}
use Rattle.mls_model.specs.Studies.{Sizes}
use Rattle.mls_wire.specs.Sessions.{piece_bytes, step_bytes}
use Rattle.mls_group.proofs.texts.put_step.Goals as goal

pub returns : goal.returns
unfolding step_bytes
returns c =
    let fields = c.fields-field-end.ensures.value ∙ ap (λ (s : Sizes). s.fields) c.shape.ensures in
    let all : c.loop-field.field ≡ c.args.study.now.sizes.fields = omega (arith, fields, c.loop-field-test.false, c.loop-field.auto.field-end) in
    c.loop-field.invariant ∙ ap (λ n. c.args.out.now.items ++ flat_map (piece_bytes c.args.study.now c.args.group c.args.life c.args.pair c.args.step) (below n)) all
