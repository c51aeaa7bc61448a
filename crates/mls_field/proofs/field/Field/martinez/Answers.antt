use Rattle.std.proofs.Common.{ℕ, ◌+◌, ◌*◌, ◌∙◌, sym, subst, arith}
use Rattle.std.proofs.lemmas.List.{get_or-take}
use Rattle.mls_cov.specs.Rules.{KeepsRules}
use Rattle.mls_cov.specs.Sums.{HoldsSums}
use Rattle.mls_cov.proofs.Same.{holds_same}
use Rattle.mls_field.specs.Kept.{sums_in_cell}
use Rattle.mls_field.proofs.Whole.{here}
use Rattle.mls_field.proofs.field.Field.martinez.Goals as goal

pub unpacked-requires-clause-rules : goal.unpacked-requires-clause-rules
unpacked-requires-clause-rules c =
    let sums = c.whole_sums-sums.result in
    subst (λ (p : ℕ). KeepsRules c.rows.result p sums) (sym c.parameters.ensures.value)
    (subst (λ (n : ℕ). KeepsRules n c.args.self.now.shape.parameters sums) (sym c.rows.ensures.value) c.whole_sums-sums.ensures.range.products)

pub returns-clause-kept : goal.returns-clause-kept
returns-clause-kept c =
    let f = c.args.self.now in
    let p = f.shape.parameters in
    let cell = sums_in_cell f c.args.step c.args.cell in
    record {
      count = c.unpacked.ensures.count ∙ c.rows.ensures.value;
      sized = c.unpacked.ensures.parameters ∙ c.parameters.ensures.value;
      sums = λ i h. c.unpacked.ensures.sums i (omega (arith, h, c.parameters.ensures.value)) ∙ (c.whole_sums-sums.ensures.front.each i (omega (arith, h)) ∙ sym (get_or-take (4 + 4 * p) cell i 0 h));
    }

pub returns-clause-sums : goal.returns-clause-sums
returns-clause-sums c = λ t stands.
    let f = c.args.self.now in
    let p = f.shape.parameters in
    let rows = t c.args.step c.args.cell in
    let sums = c.whole_sums-sums.result in
    let below = here f c.args.cell c.requires.cell_in in
    c.unpacked.ensures.stands rows (stands.counted c.args.step c.args.cell c.requires.step_in below ∙ sym c.rows.ensures.value)
    (subst (λ (q : ℕ). HoldsSums q sums rows) (sym c.parameters.ensures.value)
    (holds_same p (sums_in_cell f c.args.step c.args.cell) sums (λ i low. c.whole_sums-sums.ensures.front.each i (omega (arith, low))) rows (stands.sums_of.each c.args.step c.args.cell c.requires.step_in below).products))
