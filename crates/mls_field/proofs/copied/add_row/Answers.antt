use Rattle.std.proofs.Common.{◌≡◌, ℕ, ◌+◌, ◌*◌, ◌≤◌, length, refl, ap, ◌∙◌, sym, subst, arith}
use Rattle.std.proofs.lemmas.Grind.{common_steps}
use Rattle.mls_field.specs.ColumnSums.{Column, sums_size, of_column, sums_step}
use Rattle.mls_field.specs.Copied.{copied}
use Rattle.mls_field.specs.OneCell.{Stepped}
use Rattle.mls_field.proofs.ColumnPlaces.{product_there, power_there}
use Rattle.mls_field.proofs.FourAtATime.{in_row_at}
use Rattle.mls_field.proofs.FourCopied.{stepped_four}
use Rattle.mls_field.proofs.copied.add_row.Goals as goal

pub overflow_add-b : goal.overflow_add-b
overflow_add-b c =
    let a : c.args.at + c.args.places + c.args.count ≤ length c.args.samples.now = omega (arith, c.requires.samples 1 (omega arith)) in
    grind (arith, common_steps, a)

pub add_outputs-requires-clause-samples_b : goal.add_outputs-requires-clause-samples_b
add_outputs-requires-clause-samples_b c = omega (arith, c.requires.samples 1 (omega arith))

pub add_parameter-requires-clause-samples_b : goal.add_parameter-requires-clause-samples_b
add_parameter-requires-clause-samples_b c = omega (arith, c.requires.samples 1 (omega arith))

pub add_powers-requires-clause-samples_b : goal.add_powers-requires-clause-samples_b
add_powers-requires-clause-samples_b c = omega (arith, c.requires.samples 1 (omega arith))

pub loop-k-init : goal.loop-k-init
loop-k-init c =
    let p = c.args.parameters in
    let at = c.args.at in
    let places = c.args.places in
    let samples = c.args.samples.now in
    record {
      done = λ i row i_in there. stepped_four p 0 i c.args.sums.now c.args.sums.now c.add_outputs.new.sums row _ (omega arith) (omega (arith, i_in)) (record { each = λ d low. absurd (omega (arith, low)) }) (λ j _. refl)
          (c.add_outputs.ensures.grew i row i_in (in_row_at (p + 2) places (at + i) samples row 0 (at + i) there (omega arith) (omega arith)) (in_row_at (p + 2) places (at + i) samples row 1 (at + places + i) there (omega arith) (omega arith)))
          c.add_outputs.ensures.rest (λ d low. ap (λ (column : Column). of_column column row) (sym (product_there p 0 d (0 + d) (omega arith) low (omega arith))));
      rest = λ i high. c.add_outputs.ensures.rest.behind i (omega (arith, high));
    }

pub loop-k-preserved : goal.loop-k-preserved
loop-k-preserved c =
    let p = c.args.parameters in
    let at = c.args.at in
    let places = c.args.places in
    let samples = c.args.samples.now in
    let k = c.loop-k.k in
    let size = sums_size p in
    let more : 4 + 4 * k + 4 ≡ 4 + 4 * (k + 1) = omega arith in
    record {
      done = λ i row i_in there. subst (λ (n : ℕ). Stepped (sums_step p) n row (copied size c.args.sums.now i) (copied size c.add_parameter.new.sums i)) more
          (stepped_four p (4 + 4 * k) i c.args.sums.now c.loop-k.sums c.add_parameter.new.sums row _ (omega arith) (omega (arith, i_in)) (c.loop-k.invariant.done i row i_in there) c.loop-k.invariant.rest
          (c.add_parameter.ensures.grew i k row i_in (in_row_at (p + 2) places (at + i) samples row 0 (at + i) there (omega arith) (omega arith)) (in_row_at (p + 2) places (at + i) samples row 1 (at + places + i) there (omega arith) (omega arith)) (in_row_at (p + 2) places (at + i) samples row (2 + k) (at + (k + 2) * places + i) there (omega arith) (omega arith)))
          c.add_parameter.ensures.rest (λ d low. ap (λ (column : Column). of_column column row) (sym (product_there p (1 + k) d (4 + 4 * k + d) (omega arith) low (omega arith)))));
      rest = λ i high. c.add_parameter.ensures.rest.behind i (omega (arith, high)) ∙ c.loop-k.invariant.rest i (omega (arith, high));
    }

pub returns : goal.returns
returns c = λ i row i_in there.
    let p = c.args.parameters in
    let at = c.args.at in
    let places = c.args.places in
    let samples = c.args.samples.now in
    let size = sums_size p in
    let all : 4 + 4 * c.loop-k.k ≡ 4 + 4 * p = omega arith in
    let done = subst (λ (n : ℕ). Stepped (sums_step p) n row (copied size c.args.sums.now i) (copied size c.loop-k.sums i)) all (c.loop-k.invariant.done i row i_in there) in
    let whole : 4 + 4 * p + 4 ≡ sums_size p = omega arith in
    subst (λ (n : ℕ). Stepped (sums_step p) n row (copied size c.args.sums.now i) (copied size c.add_powers.new.sums i)) whole
    (stepped_four p (4 + 4 * p) i c.args.sums.now c.loop-k.sums c.add_powers.new.sums row _ (omega arith) (omega (arith, i_in)) done (λ j high. c.loop-k.invariant.rest j (omega (arith, high)))
    (c.add_powers.ensures.grew i row i_in (in_row_at (p + 2) places (at + i) samples row 0 (at + i) there (omega arith) (omega arith)) (in_row_at (p + 2) places (at + i) samples row 1 (at + places + i) there (omega arith) (omega arith)))
    c.add_powers.ensures.rest (λ d low. ap (λ (column : Column). of_column column row) (sym (power_there p d (4 + 4 * p + d) (omega arith)))))
