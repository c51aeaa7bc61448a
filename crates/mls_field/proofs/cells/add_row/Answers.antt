use Rattle.std.proofs.Common.{◌≡◌, ℕ, ◌+◌, ◌*◌, ◌<◌, length, refl, ◌∙◌, subst, arith}
use Rattle.std.proofs.lemmas.Grind.{common_steps}
use Rattle.mls_field.specs.ColumnSums.{sums_size, sums_step}
use Rattle.mls_field.specs.OneCell.{Stepped}
use Rattle.mls_field.proofs.FourAtATime.{four_stepped, in_row_at, products_are, powers_are, products_fit, powers_fit}
use Rattle.mls_field.proofs.cells.add_row.Goals as goal

pub overflow_add-b : goal.overflow_add-b
overflow_add-b c =
    let a : c.args.at + c.args.places < length c.args.samples.now = omega (arith, c.requires.samples 1 (omega arith)) in
    grind (arith, common_steps, a)

pub offset_bounds-samples-at-2 : goal.offset_bounds-samples-at-2
offset_bounds-samples-at-2 c =
    let a : c.args.at + c.args.places < length c.args.samples.now = omega (arith, c.requires.samples 1 (omega arith)) in
    grind (arith, common_steps, a)

pub bounds-samples-at-2 : goal.bounds-samples-at-2
bounds-samples-at-2 c =
    let a : c.args.at + c.args.places < length c.args.samples.now = omega (arith, c.requires.samples 1 (omega arith)) in
    grind (arith, common_steps, a)

pub add_four-requires-clause-room : goal.add_four-requires-clause-room
add_four-requires-clause-room c = λ d low. omega (arith, products_fit c.args.parameters 0 0 c.args.sums.now (omega arith) (omega arith) c.requires.room d low, c.outputs_added.ensures.small d low)

pub loop-k-init : goal.loop-k-init
loop-k-init c =
    let p = c.args.parameters in
    let at = c.args.at in
    let places = c.args.places in
    let samples = c.args.samples.now in
    record {
      done = λ row there. four_stepped p 0 c.args.sums.now c.args.sums.now c.add_four.new.sums c.outputs_added.result row (record { each = λ d low. absurd (omega (arith, low)) }) (λ d _. refl) c.add_four.ensures.grew c.add_four.ensures.before
          (products_are p 0 0 c.outputs_added.result row (omega arith) (omega arith) (c.outputs_added.ensures.value row (in_row_at (p + 2) places at samples row 0 at there (omega arith) (omega arith)) (in_row_at (p + 2) places at samples row 1 (at + places) there (omega arith) (omega arith))));
      rest = λ d high. c.add_four.ensures.behind d (omega (arith, high));
    }

pub add_four-requires-in-loop-k-clause-room : goal.add_four-requires-in-loop-k-clause-room
add_four-requires-in-loop-k-clause-room c = λ d low.
    let at = 4 + 4 * c.loop-k.k in
    let same = c.loop-k.invariant.rest (at + d) (omega arith) in
    omega (arith, same, products_fit c.args.parameters (1 + c.loop-k.k) at c.args.sums.now (omega arith) (omega arith) c.requires.room d low, c.products_added.ensures.small d low)

pub loop-k-preserved : goal.loop-k-preserved
loop-k-preserved c =
    let p = c.args.parameters in
    let at = c.args.at in
    let places = c.args.places in
    let samples = c.args.samples.now in
    let k = c.loop-k.k in
    let more : 4 + 4 * k + 4 ≡ 4 + 4 * (k + 1) = omega arith in
    record {
      done = λ row there. subst (λ (size : ℕ). Stepped (sums_step p) size row c.args.sums.now c.add_four-in-loop-k.new.sums) more
          (four_stepped p (4 + 4 * k) c.args.sums.now c.loop-k.sums c.add_four-in-loop-k.new.sums c.products_added.result row (c.loop-k.invariant.done row there) c.loop-k.invariant.rest c.add_four-in-loop-k.ensures.grew c.add_four-in-loop-k.ensures.before
          (products_are p (1 + k) (4 + 4 * k) c.products_added.result row (omega arith) (omega arith) (c.products_added.ensures.value k row (in_row_at (p + 2) places at samples row 0 at there (omega arith) (omega arith)) (in_row_at (p + 2) places at samples row 1 (at + places) there (omega arith) (omega arith)) (in_row_at (p + 2) places at samples row (2 + k) (at + (k + 2) * places) there (omega arith) (omega arith)))));
      rest = λ d high. c.add_four-in-loop-k.ensures.behind d (omega (arith, high)) ∙ c.loop-k.invariant.rest d (omega (arith, high));
    }

pub add_four-requires-2-clause-room : goal.add_four-requires-2-clause-room
add_four-requires-2-clause-room c = λ d low.
    let at = 4 + 4 * c.args.parameters in
    let same = c.loop-k.invariant.rest (at + d) (omega arith) in
    omega (arith, same, powers_fit c.args.parameters at c.args.sums.now (omega arith) c.requires.room d low, c.powers_added.ensures.small d low)

pub returns : goal.returns
returns c = λ row there.
    let p = c.args.parameters in
    let at = c.args.at in
    let places = c.args.places in
    let samples = c.args.samples.now in
    let all : 4 + 4 * c.loop-k.k ≡ 4 + 4 * p = omega arith in
    let done = subst (λ (size : ℕ). Stepped (sums_step p) size row c.args.sums.now c.loop-k.sums) all (c.loop-k.invariant.done row there) in
    let whole : 4 + 4 * p + 4 ≡ sums_size p = omega arith in
    subst (λ (size : ℕ). Stepped (sums_step p) size row c.args.sums.now c.add_four-2.new.sums) whole
    (four_stepped p (4 + 4 * p) c.args.sums.now c.loop-k.sums c.add_four-2.new.sums c.powers_added.result row done (λ d high. c.loop-k.invariant.rest d (omega (arith, high))) c.add_four-2.ensures.grew c.add_four-2.ensures.before
    (powers_are p (4 + 4 * p) c.powers_added.result row (omega arith) (c.powers_added.ensures.value row (in_row_at (p + 2) places at samples row 0 at there (omega arith) (omega arith)) (in_row_at (p + 2) places at samples row 1 (at + places) there (omega arith) (omega arith)))))
