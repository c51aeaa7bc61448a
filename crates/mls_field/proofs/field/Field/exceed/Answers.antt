use Rattle.std.proofs.Common.{◌≡◌, ℕ, ◌*◌, ◌≤◌, List, length, take, slice_index, ap, ◌∙◌, sym, subst, arith}
use Rattle.mls_power.specs.Rules.{AreNumbersAbove}
use Rattle.mls_field.specs.Kept.{numbers_in_cell, sums_at, HasNumbers}
use Rattle.mls_field.proofs.Kept.{exceed_stands, numbers_long}
use Rattle.mls_field.proofs.Rows.{outputs_are}
use Rattle.mls_field.proofs.Whole.{here, front_taken, numbers_whole}
use Rattle.mls_field.proofs.field.Field.exceed.Goals as goal
use Rattle.mls_field.proofs.field.Field.exceed.Goals.{After-thresholds-size, After-unpacked}

-- the numbers of all rows
taken : (c : After-thresholds-size) → let f = c.args.self.now in take c.thresholds-size.result c.whole_numbers-numbers.result ≡ numbers_in_cell f c.args.step c.args.cell
taken c =
    let f = c.args.self.now in
    let size = length f.shape.thresholds in
    let few : size ≤ 8 = c.thresholds-size.ensures.valid.thresholds in
    ap (λ (n : ℕ). take n c.whole_numbers-numbers.result) c.thresholds-size.ensures.value ∙
    front_taken size c.whole_numbers-numbers.result (numbers_in_cell f c.args.step c.args.cell) (omega (arith, few)) (numbers_long f c.args.step c.args.cell) c.whole_numbers-numbers.ensures

pub unpacked-requires-clause-range : goal.unpacked-requires-clause-range
unpacked-requires-clause-range c =
    let f = c.args.self.now in
    subst (λ (ws : List ℕ). AreNumbersAbove (2 * c.rows.result) ws) (sym (taken (goal.at.unpacked-requires-clause-range c).After-thresholds-size))
    (subst (λ (n : ℕ). AreNumbersAbove (2 * n) (numbers_in_cell f c.args.step c.args.cell)) (sym c.rows.ensures.value)
    (numbers_whole f c.args.step c.args.cell c.thresholds-size.ensures.valid.thresholds_rise c.requires.step_in (here f c.args.cell c.requires.cell_in)))

kept : (c : After-unpacked) → take c.thresholds-size.result c.whole_numbers-numbers.result ≡ numbers_in_cell c.args.self.now c.args.step c.args.cell → HasNumbers (length c.args.self.now.shape.thresholds) (sums_at c.args.self.now c.args.step c.args.cell) c.unpacked.result
kept c same = record {
  count = c.unpacked.ensures.count ∙ ap (λ (n : ℕ). 2 * n) c.rows.ensures.value;
  long = numbers_long c.args.self.now c.args.step c.args.cell;
  numbers = λ i. c.unpacked.ensures.numbers i ∙ ap (λ (ws : List ℕ). slice_index ws i) same;
}

pub returns-clause-kept : goal.returns-clause-kept
returns-clause-kept c = let at = goal.at.returns-clause-kept c in kept at.After-unpacked (taken at.After-thresholds-size)

pub returns-clause-numbers : goal.returns-clause-numbers
returns-clause-numbers c = λ t stands.
    let f = c.args.self.now in
    let at = goal.at.returns-clause-numbers c in
    exceed_stands f t c.args.step c.args.cell c.unpacked.result (kept at.After-unpacked (taken at.After-thresholds-size)) stands c.requires.step_in (here f c.args.cell c.requires.cell_in)

pub returns-clause-outputs : goal.returns-clause-outputs
returns-clause-outputs c = λ t stands.
    let f = c.args.self.now in
    outputs_are f.shape.signed f.shape.parameters (t c.args.step c.args.cell) (stands.whole c.args.step c.args.cell c.requires.step_in (here f c.args.cell c.requires.cell_in))
