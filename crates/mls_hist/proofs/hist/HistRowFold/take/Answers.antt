use Rattle.std.proofs.Common.{◌≡◌, ℕ, ◌-◌, ◌*◌, ◌≤◌, List, length, get_or, replicate, refl, ap, ◌∙◌, sym, subst, arith}
use Rattle.std.specs.Prelude.{sum}
use Rattle.mls_model.specs.Studies.{planes}
use Rattle.mls_model.specs.Blocks.{width}
use Rattle.mls_ckpt.specs.Places.{cursor_of}
use Rattle.mls_field.proofs.InPlace.{spliced}
use Rattle.mls_field.proofs.FieldTaken.{long_of}
use Rattle.mls_field.proofs.Zeros.{AreZeros, zeros}
use Rattle.mls_hist.specs.Histograms.{cell_start}
use Rattle.mls_hist.specs.Packed.{counts_from}
use Rattle.mls_hist.proofs.TakenParts.{hist_taken, taken_part}
use Rattle.mls_hist.proofs.hist.HistRowFold.take.Goals as goal

bins_long : (items held : List ℕ) (planes planes' n w : ℕ) → held ≡ items → items ≡ replicate (64 * (planes * w)) 0 → planes ≡ planes' → n ≡ planes' → length held ≡ n * w * 64
bins_long items held planes planes' n w same is f e = long_of items held _ _ same is (rw (f, e) (omega arith))

zero_samples : (items : List ℕ) (planes planes' w : ℕ) → items ≡ replicate (16 * (planes * w)) 0 → planes ≡ planes' → AreZeros (planes' * (16 * w)) items
zero_samples items planes planes' w is f = zeros _ _ items is (rw f (omega arith))

pub take_part-read-requires-clause-bins : goal.take_part-read-requires-clause-bins
take_part-read-requires-clause-bins c = bins_long c.in_ok-bins.bins.items c.as_mut_slice.result.now _ _ _ _ c.as_mut_slice.ensures.value (c.in_ok-bins.ensures.items_if_clones_equal (λ y e. e)) c.planes-planes.ensures.value c.requires.planes

pub returns-in-Err-clause-fault : goal.returns-in-Err-clause-fault
returns-in-Err-clause-fault c = (c.in-Err.ensures.exact c.args.shape.now c.args.rank (sym c.requires.planes) (sym (ap width c.block-block.ensures.value)), refl)

pub invariant_of-result-clause-kept : goal.invariant_of-result-clause-kept
invariant_of-result-clause-kept c =
    let s = c.args.shape.now in
    let w = c.block-block.result.end - c.block-block.result.first in
    let counts : c.in_ok-kept.kept.items ≡ c.args.counts.now = c.in_ok-kept.ensures.items_if_clones_equal (λ x y e. e) in
    let groups : s.groups ≤ 65535 = c.planes-planes.ensures.valid.groups in
    let long = bins_long c.in_ok-bins.bins.items c.as_mut_slice.result.now _ _ _ w c.as_mut_slice.ensures.value (c.in_ok-bins.ensures.items_if_clones_equal (λ y e. e)) c.planes-planes.ensures.value refl in
    let e = spliced c.in_ok-bins.bins.items c.as_mut_slice.result.now c.take_part-read.new.bins c.in_ok-bins.bins.len c.as_mut_slice.ensures.len c.take_part-read.auto.bins in
    hist_taken s c.args.rank w c.in_ok-kept.kept.items c.in_ok-waiting.waiting.items _ c.in_ok-samples.samples.items c.requires.rank_in (ap width c.block-block.ensures.value)
    (ap length counts ∙ c.requires.planes) (λ plane. omega (arith, ap (λ (xs : List ℕ). get_or xs plane 0) counts, c.requires.few plane, groups))
    (zeros _ _ c.in_ok-waiting.waiting.items (c.in_ok-waiting.ensures.items_if_clones_equal (λ y e. e)) c.planes-planes.ensures.value)
    (ap length e ∙ (c.take_part-read.auto.bins ∙ long))
    (zero_samples c.in_ok-samples.samples.items _ _ w (c.in_ok-samples.ensures.items_if_clones_equal (λ y e. e)) c.planes-planes.ensures.value)
    (λ plane place p_in inside.
    subst (λ (xs : List ℕ). sum (counts_from xs (cell_start w plane place)) ≡ 2 * get_or c.in_ok-kept.kept.items plane 0) (sym e)
    (c.in_default.ensures.whole plane place (omega (arith, p_in, c.requires.planes)) inside ∙ ap (λ (xs : List ℕ). 2 * get_or xs plane 0) (sym counts)))

pub returns-clause-read : goal.returns-clause-read
returns-clause-read c = c.in_default.ensures.exact c.args.shape.now c.args.rank (sym c.requires.planes) (sym (ap width c.block-block.ensures.value))

pub returns-clause-part : goal.returns-clause-part
returns-clause-part c =
    let e = spliced c.in_ok-bins.bins.items c.as_mut_slice.result.now c.take_part-read.new.bins c.in_ok-bins.bins.len c.as_mut_slice.ensures.len c.take_part-read.auto.bins in
    let none = zeros _ _ c.in_ok-waiting.waiting.items (c.in_ok-waiting.ensures.items_if_clones_equal (λ y e. e)) c.planes-planes.ensures.value in
    taken_part _ c.take_part-read.new.bins (cursor_of c.args.from.now).left (cursor_of c.take_part-read.new.from).left none.each (sym e) (c.in_default.ensures.spelled c.args.shape.now c.args.rank (sym c.requires.planes) (sym (ap width c.block-block.ensures.value)))
