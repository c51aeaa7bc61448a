use Rattle.std.proofs.Common.{◌≡◌, ℕ, ◌+◌, ◌-◌, ◌*◌, ◌≤◌, List, length, get_or, replicate, refl, ap, ◌∙◌, sym, arith}
use Rattle.mls_model.specs.Studies.{planes}
use Rattle.mls_model.specs.Blocks.{width}
use Rattle.mls_ckpt.specs.Places.{cursor_of}
use Rattle.mls_field.specs.ColumnSums.{sums_size}
use Rattle.mls_field.proofs.InPlace.{spliced}
use Rattle.mls_field.proofs.Zeros.{AreZeros, zeros}
use Rattle.mls_field.proofs.FieldTaken.{field_taken, taken_part, part_read, part_refused, long_of, within_spliced}
use Rattle.mls_field.proofs.field.FieldRowFold.take.Goals as goal

sums_long : (items held : List ℕ) (p p' planes planes' w : ℕ) → held ≡ items → items ≡ replicate (4 * (p + 2) * (planes * w)) 0 → p ≡ p' → planes ≡ planes' → length held ≡ planes' * sums_size p' * w
sums_long items held p p' planes planes' w same is e f = long_of items held _ _ same is (rw (e, f) (omega arith))

ends_long : (items held : List ℕ) (planes planes' w : ℕ) → held ≡ items → items ≡ replicate (2 * (planes * w)) 0 → planes ≡ planes' → length held ≡ planes' * 2 * w
ends_long items held planes planes' w same is f = long_of items held _ _ same is (rw f (omega arith))

numbers_long : (items held : List ℕ) (t t' planes planes' w : ℕ) → held ≡ items → items ≡ replicate (t * (planes * w)) 0 → t ≡ t' → planes ≡ planes' → length held ≡ planes' * t' * w
numbers_long items held t t' planes planes' w same is e f = long_of items held _ _ same is (rw (e, f) (omega arith))

zero_samples : (items : List ℕ) (p p' planes planes' w : ℕ) → items ≡ replicate (8 * (p + 2) * (planes * w)) 0 → p ≡ p' → planes ≡ planes' → AreZeros (planes' * (8 * ((p' + 2) * w))) items
zero_samples items p p' planes planes' w is e f = zeros _ _ items is (rw (e, f) (omega arith))

pub take_planes-read-requires-clause-sums_long : goal.take_planes-read-requires-clause-sums_long
take_planes-read-requires-clause-sums_long c = sums_long c.in_ok-sums.sums.items c.as_mut_slice.result.now _ _ _ _ _ c.as_mut_slice.ensures.value (c.in_ok-sums.ensures.items_if_clones_equal (λ y e. e)) c.parameters.ensures.value c.planes-planes.ensures.value

pub take_planes-read-requires-clause-ends_long : goal.take_planes-read-requires-clause-ends_long
take_planes-read-requires-clause-ends_long c = ends_long c.in_ok-ends.ends.items c.as_mut_slice-2.result.now _ _ _ c.as_mut_slice-2.ensures.value (c.in_ok-ends.ensures.items_if_clones_equal (λ y e. e)) c.planes-planes.ensures.value

pub take_planes-read-requires-clause-numbers_long : goal.take_planes-read-requires-clause-numbers_long
take_planes-read-requires-clause-numbers_long c = numbers_long c.in_ok-numbers.numbers.items c.as_mut_slice-3.result.now _ _ _ _ _ c.as_mut_slice-3.ensures.value (c.in_ok-numbers.ensures.items_if_clones_equal (λ y e. e)) c.thresholds.ensures.value c.planes-planes.ensures.value

pub returns-in-Err-clause-fault : goal.returns-in-Err-clause-fault
returns-in-Err-clause-fault c = (part_refused c.args.shape.now c.args.rank c.args.counts.now (cursor_of c.args.from.now) c.in-Err.fault (c.in-Err.ensures.exact c.args.rank (sym (ap width c.block-block.ensures.value))), refl)

pub invariant_of-result-clause-kept : goal.invariant_of-result-clause-kept
invariant_of-result-clause-kept c =
    let s = c.args.shape.now in
    let w = c.block-block.result.end - c.block-block.result.first in
    let counts : c.in_ok-kept.kept.items ≡ c.args.counts.now = c.in_ok-kept.ensures.items_if_clones_equal (λ x y e. e) in
    let groups : s.groups ≤ 65535 = c.parameters.ensures.valid.groups in
    let l1 = sums_long c.in_ok-sums.sums.items c.as_mut_slice.result.now _ _ _ _ w c.as_mut_slice.ensures.value (c.in_ok-sums.ensures.items_if_clones_equal (λ y e. e)) c.parameters.ensures.value c.planes-planes.ensures.value in
    let l2 = ends_long c.in_ok-ends.ends.items c.as_mut_slice-2.result.now _ _ w c.as_mut_slice-2.ensures.value (c.in_ok-ends.ensures.items_if_clones_equal (λ y e. e)) c.planes-planes.ensures.value in
    let l3 = numbers_long c.in_ok-numbers.numbers.items c.as_mut_slice-3.result.now _ _ _ _ w c.as_mut_slice-3.ensures.value (c.in_ok-numbers.ensures.items_if_clones_equal (λ y e. e)) c.thresholds.ensures.value c.planes-planes.ensures.value in
    let e1 = spliced c.in_ok-sums.sums.items c.as_mut_slice.result.now c.take_planes-read.new.sums c.in_ok-sums.sums.len c.as_mut_slice.ensures.len c.take_planes-read.auto.sums in
    let e2 = spliced c.in_ok-ends.ends.items c.as_mut_slice-2.result.now c.take_planes-read.new.ends c.in_ok-ends.ends.len c.as_mut_slice-2.ensures.len c.take_planes-read.auto.ends in
    let e3 = spliced c.in_ok-numbers.numbers.items c.as_mut_slice-3.result.now c.take_planes-read.new.numbers c.in_ok-numbers.numbers.len c.as_mut_slice-3.ensures.len c.take_planes-read.auto.numbers in
    field_taken s c.args.rank w c.in_ok-kept.kept.items c.in_ok-waiting.waiting.items _ _ _ c.in_ok-samples.samples.items c.requires.rank_in (ap width c.block-block.ensures.value)
    (ap length counts ∙ c.requires.planes) (λ plane. omega (arith, ap (λ (xs : List ℕ). get_or xs plane 0) counts, c.requires.few plane, groups))
    (zeros _ _ c.in_ok-waiting.waiting.items (c.in_ok-waiting.ensures.items_if_clones_equal (λ y e. e)) c.planes-planes.ensures.value)
    (zero_samples c.in_ok-samples.samples.items _ _ _ _ w (c.in_ok-samples.ensures.items_if_clones_equal (λ y e. e)) c.parameters.ensures.value c.planes-planes.ensures.value)
    (ap length e1 ∙ (c.take_planes-read.auto.sums ∙ l1)) (ap length e2 ∙ (c.take_planes-read.auto.ends ∙ l2)) (ap length e3 ∙ (c.take_planes-read.auto.numbers ∙ l3))
    (λ plane place p_in inside.
    within_spliced s w c.take_planes-read.new.sums c.take_planes-read.new.ends c.take_planes-read.new.numbers _ _ _ (get_or c.args.counts.now plane 0) (get_or c.in_ok-kept.kept.items plane 0) plane place (sym e1) (sym e2) (sym e3) (ap (λ (xs : List ℕ). get_or xs plane 0) (sym counts)) (c.in_default.ensures.within plane place p_in inside))

pub returns-clause-read : goal.returns-clause-read
returns-clause-read c = part_read c.args.shape.now c.args.rank c.args.counts.now (cursor_of c.args.from.now) _ (cursor_of c.take_planes-read.new.from) (c.in_default.ensures.exact c.args.rank (sym (ap width c.block-block.ensures.value)))

pub returns-clause-part : goal.returns-clause-part
returns-clause-part c =
    let counts : c.in_ok-kept.kept.items ≡ c.args.counts.now = c.in_ok-kept.ensures.items_if_clones_equal (λ x y e. e) in
    let e1 = spliced c.in_ok-sums.sums.items c.as_mut_slice.result.now c.take_planes-read.new.sums c.in_ok-sums.sums.len c.as_mut_slice.ensures.len c.take_planes-read.auto.sums in
    let e2 = spliced c.in_ok-ends.ends.items c.as_mut_slice-2.result.now c.take_planes-read.new.ends c.in_ok-ends.ends.len c.as_mut_slice-2.ensures.len c.take_planes-read.auto.ends in
    let e3 = spliced c.in_ok-numbers.numbers.items c.as_mut_slice-3.result.now c.take_planes-read.new.numbers c.in_ok-numbers.numbers.len c.as_mut_slice-3.ensures.len c.take_planes-read.auto.numbers in
    let none = zeros _ _ c.in_ok-waiting.waiting.items (c.in_ok-waiting.ensures.items_if_clones_equal (λ y e. e)) c.planes-planes.ensures.value in
    taken_part _ c.take_planes-read.new.sums c.take_planes-read.new.ends c.take_planes-read.new.numbers c.args.counts.now (cursor_of c.args.from.now) (cursor_of c.take_planes-read.new.from) none.each (sym e1) (sym e2) (sym e3) (sym counts) c.args.from.now.bytes (c.in_default.ensures.exact c.args.rank (sym (ap width c.block-block.ensures.value)))
