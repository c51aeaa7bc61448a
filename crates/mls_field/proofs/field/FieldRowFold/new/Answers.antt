use Rattle.std.proofs.Common.{◌≡◌, ℕ, ◌+◌, ◌-◌, ◌*◌, List, length, replicate, ap, ◌∙◌, arith}
use Rattle.std.proofs.lemmas.List.{length-replicate}
use Rattle.mls_model.specs.Studies.{planes}
use Rattle.mls_model.specs.Blocks.{width}
use Rattle.mls_field.specs.ColumnSums.{sums_size}
use Rattle.mls_field.proofs.InPlace.{replaced}
use Rattle.mls_field.proofs.Zeros.{AreZeros, AreNoEnds, zeros, no_ends, field_fresh, table_fresh}
use Rattle.mls_field.proofs.field.FieldRowFold.new.Goals as goal
use Rattle.mls_field.proofs.field.FieldRowFold.new.Goals.{After-clear_ends}

zero_sums : (items : List ℕ) (p p' planes planes' w : ℕ) → items ≡ replicate (4 * (p + 2) * (planes * w)) 0 → p ≡ p' → planes ≡ planes' → AreZeros (planes' * sums_size p' * w) items
zero_sums items p p' planes planes' w is e f = zeros _ _ items is (rw (e, f) (omega arith))

zero_numbers : (items : List ℕ) (t t' planes planes' w : ℕ) → items ≡ replicate (t * (planes * w)) 0 → t ≡ t' → planes ≡ planes' → AreZeros (planes' * t' * w) items
zero_numbers items t t' planes planes' w is e f = zeros _ _ items is (rw (e, f) (omega arith))

zero_samples : (items : List ℕ) (p p' planes planes' w : ℕ) → items ≡ replicate (8 * (p + 2) * (planes * w)) 0 → p ≡ p' → planes ≡ planes' → AreZeros (planes' * (8 * ((p' + 2) * w))) items
zero_samples items p p' planes planes' w is e f = zeros _ _ items is (rw (e, f) (omega arith))

ends_long : (items held : List ℕ) (planes planes' w : ℕ) → held ≡ items → items ≡ replicate (2 * (planes * w)) 0 → planes ≡ planes' → length held ≡ planes' * 2 * w
ends_long items held planes planes' w same is f =
    let e : 2 * (planes * w) ≡ planes' * 2 * w = rw f (omega arith) in
    ap length (same ∙ is) ∙ (length-replicate (2 * (planes * w)) 0 ∙ e)

module _ (c : After-clear_ends) where
  counts : AreZeros (planes c.args.shape.now) c.in_ok-counts.counts.items
  counts = zeros _ _ c.in_ok-counts.counts.items (c.in_ok-counts.ensures.items_if_clones_equal (λ y e. e)) c.planes-planes.ensures.value

  waiting : AreZeros (planes c.args.shape.now) c.in_ok-waiting.waiting.items
  waiting = zeros _ _ c.in_ok-waiting.waiting.items (c.in_ok-waiting.ensures.items_if_clones_equal (λ y e. e)) c.planes-planes.ensures.value

  sums : let s = c.args.shape.now in AreZeros (planes s * sums_size s.parameters * (c.block-block.result.end - c.block-block.result.first)) c.in_ok-sums.sums.items
  sums = zero_sums c.in_ok-sums.sums.items _ _ _ _ _ (c.in_ok-sums.ensures.items_if_clones_equal (λ y e. e)) c.parameters.ensures.value c.planes-planes.ensures.value

  numbers : let s = c.args.shape.now in AreZeros (planes s * length s.thresholds * (c.block-block.result.end - c.block-block.result.first)) c.in_ok-numbers.numbers.items
  numbers = zero_numbers c.in_ok-numbers.numbers.items _ _ _ _ _ (c.in_ok-numbers.ensures.items_if_clones_equal (λ y e. e)) c.thresholds.ensures.value c.planes-planes.ensures.value

  samples : let s = c.args.shape.now in AreZeros (planes s * (8 * ((s.parameters + 2) * (c.block-block.result.end - c.block-block.result.first)))) c.in_ok-samples.samples.items
  samples = zero_samples c.in_ok-samples.samples.items _ _ _ _ _ (c.in_ok-samples.ensures.items_if_clones_equal (λ y e. e)) c.parameters.ensures.value c.planes-planes.ensures.value

  cleared : AreNoEnds (planes c.args.shape.now) (c.block-block.result.end - c.block-block.result.first) c.clear_ends.new.ends
  cleared =
      let s = c.args.shape.now in
      let w = c.block-block.result.end - c.block-block.result.first in
      no_ends _ (planes s) w c.as_mut_slice.result.now c.clear_ends.new.ends (ends_long c.in_ok-ends.ends.items _ _ _ w c.as_mut_slice.ensures.value (c.in_ok-ends.ensures.items_if_clones_equal (λ y e. e)) c.planes-planes.ensures.value) c.clear_ends.auto.ends c.planes-planes.ensures.value c.clear_ends.ensures.least c.clear_ends.ensures.greatest

pub invariant_of-result-clause-kept : goal.invariant_of-result-clause-kept
invariant_of-result-clause-kept c =
    let s = c.args.shape.now in
    let w = c.block-block.result.end - c.block-block.result.first in
    let d = (goal.at.invariant_of-result-clause-kept c).After-clear_ends in
    field_fresh s c.args.rank w _ _ _ _ _ _ c.requires (ap width c.block-block.ensures.value) (counts d) (waiting d) (sums d)
    (replaced (λ (es : List ℕ). AreNoEnds (planes s) w es) c.in_ok-ends.ends.items c.as_mut_slice.result.now c.clear_ends.new.ends c.in_ok-ends.ends.len c.as_mut_slice.ensures.len c.clear_ends.auto.ends (cleared d))
    (numbers d) (samples d).long (λ i. omega (arith, (samples d).each i))

pub returns-clause-stands : goal.returns-clause-stands
returns-clause-stands c =
    let s = c.args.shape.now in
    let w = c.block-block.result.end - c.block-block.result.first in
    let d = (goal.at.returns-clause-stands c).After-clear_ends in
    table_fresh s w _ _ _ _ _ _ (counts d) (waiting d) (sums d)
    (replaced (λ (es : List ℕ). AreNoEnds (planes s) w es) c.in_ok-ends.ends.items c.as_mut_slice.result.now c.clear_ends.new.ends c.in_ok-ends.ends.len c.as_mut_slice.ensures.len c.clear_ends.auto.ends (cleared d))
    (numbers d)
