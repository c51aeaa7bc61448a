use Rattle.std.proofs.Common.{◌≡◌, ◌*◌, pos, ◌-ℤ◌, ap, ◌∙◌, sym, to_z, of_z, arith}
use Rattle.std.specs.Int.{w128}
use Rattle.std.proofs.lemmas.Int.{ints}
use Rattle.mls_model.specs.Statistics.{variance_top}
use Rattle.mls_field.proofs.Rows.{outputs_are}
use Rattle.mls_field.proofs.field.Field.variance_top.Goals as goal

pub returns-clause-values : goal.returns-clause-values
returns-clause-values c = λ t stands.
    let f = c.args.self.now in
    let same : to_z w128 (of_z w128 c.variance_top.result) ≡ c.variance_top.result = omega (arith, ints) in
    same ∙ (c.variance_top.ensures.values f.shape.signed _ (c.power.ensures.sums t stands) ∙ ap variance_top (sym (outputs_are f.shape.signed f.shape.parameters (t c.args.step c.args.cell) (stands.whole c.args.step c.args.cell c.requires.step_in (omega (arith, f.kept.block_width, c.requires.cell_in))))))

pub returns-clause-kept : goal.returns-clause-kept
returns-clause-kept c =
    let kept = c.power.ensures.kept in
    let same : to_z w128 (of_z w128 c.variance_top.result) ≡ c.variance_top.result = omega (arith, ints) in
    same ∙ (c.variance_top.ensures.formula ∙ (λ i. pos (kept.count i * kept.second i) -ℤ pos (kept.first i * kept.first i)))
