use Rattle.std.proofs.Common.{◌+◌, ◌*◌, Bool, List, ℤ, pos, ◌-ℤ◌, map, ap, ◌∙◌, sym, subst, arith}
use Rattle.mls_model.specs.Samples.{unshifted}
use Rattle.mls_model.specs.SumsText.{height}
use Rattle.mls_power.specs.Standing.{ArePowers, AreLowered}
use Rattle.mls_field.specs.ShiftedRows.{shifted_outputs}
use Rattle.mls_field.proofs.Rows.{outputs_are}
use Rattle.mls_field.proofs.field.Field.powers.Goals as goal

pub returns-clause-values : goal.returns-clause-values
returns-clause-values c = λ t stands.
    let f = c.args.self.now in
    let rows = t c.args.step c.args.cell in
    subst (λ (vs : List ℤ). ArePowers c.powers.result vs)
    (ap (λ (b : Bool). map (unshifted b) (shifted_outputs rows)) c.signed.ensures.value ∙ sym (outputs_are f.shape.signed f.shape.parameters rows (stands.whole c.args.step c.args.cell c.requires.step_in (omega (arith, f.kept.block_width, c.requires.cell_in)))))
    (c.powers.ensures.values _ (c.power.ensures.sums t stands))

pub returns-clause-kept : goal.returns-clause-kept
returns-clause-kept c =
    let f = c.args.self.now in
    let kept = c.power.ensures.kept in
    let formulas : AreLowered (height f.shape.signed) c.power.result c.powers.result = subst (λ (b : Bool). AreLowered (height b) c.power.result c.powers.result) c.signed.ensures.value c.powers.ensures.formulas in
    let h = height f.shape.signed in
    record {
      first = formulas.first ∙ (λ i. pos (kept.first i) -ℤ pos (h * kept.count i));
      second = formulas.second ∙ (λ i. pos (kept.second i + h * h * kept.count i) -ℤ pos (2 * h * kept.first i));
      third = formulas.third ∙ (λ i. pos (kept.third i + 3 * (h * h) * kept.first i) -ℤ pos (3 * h * kept.second i + h * h * h * kept.count i));
      fourth = formulas.fourth ∙ (λ i. pos (kept.fourth i + 6 * (h * h) * kept.second i + h * h * (h * h) * kept.count i) -ℤ pos (4 * h * kept.third i + 4 * (h * h * h) * kept.first i));
    }
