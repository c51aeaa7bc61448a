use Rattle.std.proofs.Common.{ℕ, ◌*◌, ap, ◌∙◌, sym, subst}
use Rattle.mls_field.specs.Kinds.{SumsWithin, third_of, fourth_of}
use Rattle.mls_field.specs.Kept.{sums_in_cell, sums_at, HasPowers}
use Rattle.mls_field.proofs.Kept.{power_stands}
use Rattle.mls_field.proofs.Whole.{here, firsts_same, seconds_same, thirds_same, fourths_same}
use Rattle.mls_field.proofs.field.Field.power.Goals as goal
use Rattle.mls_field.proofs.field.Field.power.Goals.{After-power_of}

pub power_of-requires-clause-range : goal.power_of-requires-clause-range
power_of-requires-clause-range c =
    let sums = c.whole_sums-sums.result in
    subst (λ (p : ℕ). SumsWithin p c.rows.result sums) (sym c.parameters.ensures.value)
    (subst (λ (n : ℕ). SumsWithin c.args.self.now.shape.parameters n sums) (sym c.rows.ensures.value) c.whole_sums-sums.ensures.range)

kept : (c : After-power_of) → HasPowers (sums_at c.args.self.now c.args.step c.args.cell) c.power_of.result
kept c =
    let f = c.args.self.now in
    let p = f.shape.parameters in
    let sums = c.whole_sums-sums.result in
    let cell = sums_in_cell f c.args.step c.args.cell in
    let front = c.whole_sums-sums.ensures.front in
    record {
      count = c.power_of.ensures.count ∙ ap (λ (n : ℕ). 2 * n) c.rows.ensures.value;
      first = c.power_of.ensures.first ∙ firsts_same p sums cell front;
      second = c.power_of.ensures.second ∙ seconds_same p sums cell front;
      third = c.power_of.ensures.third ∙ (ap (λ (q : ℕ). third_of q sums) c.parameters.ensures.value ∙ thirds_same p sums cell front);
      fourth = c.power_of.ensures.fourth ∙ (ap (λ (q : ℕ). fourth_of q sums) c.parameters.ensures.value ∙ fourths_same p sums cell front);
    }

pub returns-clause-kept : goal.returns-clause-kept
returns-clause-kept c = kept (goal.at.returns-clause-kept c).After-power_of

pub returns-clause-sums : goal.returns-clause-sums
returns-clause-sums c = λ t stands.
    let f = c.args.self.now in
    power_stands f t c.args.step c.args.cell c.power_of.result (kept (goal.at.returns-clause-sums c).After-power_of) stands c.requires.step_in (here f c.args.cell c.requires.cell_in)
