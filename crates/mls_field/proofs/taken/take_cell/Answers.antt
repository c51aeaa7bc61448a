use Rattle.std.proofs.Common.{ℕ, ◌≤◌, take, get_or, Ok, refl, ap, ◌∙◌, sym, subst, arith}
use Rattle.mls_ckpt.specs.Places.{cursor_of}
use Rattle.mls_ckpt.specs.CellParts.{above_at, columns_at}
use Rattle.mls_field.specs.Kinds.{SumsWithin}
use Rattle.mls_field.specs.PackedCells.{kept_cell}
use Rattle.mls_field.specs.Taken.{powers_of, totals_of, columns_in}
use Rattle.mls_field.proofs.TakenCells.{IsTaken, taken_from, taken_within, taken_is, cell_read}
use Rattle.mls_field.proofs.taken.take_cell.Goals as goal
use Rattle.mls_field.proofs.taken.take_cell.Goals.{In_ok-take_columns}

made : (c : In_ok-take_columns) → IsTaken c.parameters-parameters.result c.args.n c.in_ok-powers.powers c.in_ok-outputs.outputs c.take_columns.new.sums
made c = taken_from c.parameters-parameters.result c.args.n c.in_ok-powers.powers c.in_ok-outputs.outputs c.packed-sums.result c.take_columns.new.sums c.in_ok-powers.ensures.rules c.in_ok-outputs.ensures.rules c.in_ok-take_columns.ensures.outputs c.in_ok-take_columns.ensures.rules c.packed-sums.ensures.third c.packed-sums.ensures.fourth c.packed-sums.ensures.within c.in_ok-take_columns.ensures.beyond

pub returns-clause-exact : goal.returns-clause-exact
returns-clause-exact c =
    let s = c.args.shape.now in
    let n = c.args.n in
    let q = c.parameters-parameters.result in
    let p_is = c.parameters-parameters.ensures.value in
    let t = c.thresholds.result in
    let t_is = c.thresholds.ensures.value in
    let sums = c.take_columns.new.sums in
    let ends = c.in_ok-ends.ends in
    let numbers = c.in_ok-numbers.numbers in
    let outputs = c.in_ok-outputs.outputs in
    let c2 = cursor_of c.take_ends.new.from in
    let c4 = cursor_of c.take_outputs.new.from in
    let c5 = cursor_of c.take_columns.new.from in
    let few : s.parameters ≤ 16 = c.parameters-parameters.ensures.valid.parameters in
    cell_read s n (cursor_of c.args.from.now) (cursor_of c.take_powers.new.from) c2 (cursor_of c.take_numbers.new.from) c4 c5 (powers_of c.in_ok-powers.powers) (get_or ends 0 0, get_or ends 1 0) (take t numbers) (totals_of outputs) (columns_in sums q)
    c.in_ok-powers.ensures.exact c.in_ok-ends.ensures.exact (ap (λ m. above_at n m c2) (sym t_is) ∙ c.in_ok-numbers.ensures.exact) c.in_ok-outputs.ensures.exact (ap (λ m. columns_at n (totals_of outputs) m c4) (sym p_is) ∙ c.in_ok-take_columns.ensures.exact) ∙
    (ap (λ cell. Ok (cell, c5)) (taken_is q n (get_or ends 0 0) (get_or ends 1 0) c.in_ok-powers.powers outputs sums ends (take t numbers) (made (goal.at.returns-clause-exact c).In_ok-take_columns) (omega (arith, few, p_is)) refl refl) ∙
    (ap (λ m. Ok (kept_cell m n sums ends (take t numbers), c5)) p_is ∙ ap (λ m. Ok (kept_cell s.parameters n sums ends (take m numbers), c5)) t_is))

pub returns-clause-within : goal.returns-clause-within
returns-clause-within c = record {
  sums_in = subst (λ (p : ℕ). SumsWithin p c.args.n c.take_columns.new.sums) c.parameters-parameters.ensures.value (taken_within c.parameters-parameters.result c.args.n c.in_ok-powers.powers c.in_ok-outputs.outputs c.take_columns.new.sums (made (goal.at.returns-clause-within c).In_ok-take_columns));
  ends_in = c.in_ok-ends.ensures.rules;
  numbers_in = c.in_ok-numbers.ensures.rules;
}
