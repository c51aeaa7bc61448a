use Rattle.std.proofs.Common.{◌≡◌, ℕ, ◌-◌, ◌*◌, List, replicate, ap, arith}
use Rattle.mls_model.specs.Studies.{planes}
use Rattle.mls_model.specs.Blocks.{width}
use Rattle.mls_field.proofs.Zeros.{AreZeros, zeros}
use Rattle.mls_hist.proofs.Fresh.{hist_fresh, table_fresh}
use Rattle.mls_hist.proofs.hist.HistRowFold.new.Goals as goal
use Rattle.mls_hist.proofs.hist.HistRowFold.new.Goals.{In_ok-samples}

zero_bins : (items : List ℕ) (planes planes' w : ℕ) → items ≡ replicate (64 * (planes * w)) 0 → planes ≡ planes' → AreZeros (planes' * w * 64) items
zero_bins items planes planes' w is f = zeros _ _ items is (rw f (omega arith))

zero_samples : (items : List ℕ) (planes planes' w : ℕ) → items ≡ replicate (16 * (planes * w)) 0 → planes ≡ planes' → AreZeros (planes' * (16 * w)) items
zero_samples items planes planes' w is f = zeros _ _ items is (rw f (omega arith))

module _ (c : In_ok-samples) where
  counts : AreZeros (planes c.args.shape.now) c.in_ok-counts.counts.items
  counts = zeros _ _ c.in_ok-counts.counts.items (c.in_ok-counts.ensures.items_if_clones_equal (λ y e. e)) c.planes-planes.ensures.value

  waiting : AreZeros (planes c.args.shape.now) c.in_ok-waiting.waiting.items
  waiting = zeros _ _ c.in_ok-waiting.waiting.items (c.in_ok-waiting.ensures.items_if_clones_equal (λ y e. e)) c.planes-planes.ensures.value

  bins : AreZeros (planes c.args.shape.now * (c.block-block.result.end - c.block-block.result.first) * 64) c.in_ok-bins.bins.items
  bins = zero_bins c.in_ok-bins.bins.items _ _ _ (c.in_ok-bins.ensures.items_if_clones_equal (λ y e. e)) c.planes-planes.ensures.value

  samples : AreZeros (planes c.args.shape.now * (16 * (c.block-block.result.end - c.block-block.result.first))) c.in_ok-samples.samples.items
  samples = zero_samples c.in_ok-samples.samples.items _ _ _ (c.in_ok-samples.ensures.items_if_clones_equal (λ y e. e)) c.planes-planes.ensures.value

pub invariant_of-result-clause-kept : goal.invariant_of-result-clause-kept
invariant_of-result-clause-kept c =
    let s = c.args.shape.now in
    let w = c.block-block.result.end - c.block-block.result.first in
    let d = (goal.at.invariant_of-result-clause-kept c).In_ok-samples in
    hist_fresh s c.args.rank w _ _ _ _ c.requires (ap width c.block-block.ensures.value) (counts d) (waiting d) (bins d) (samples d).long (λ i. omega (arith, (samples d).each i))

pub returns-clause-stands : goal.returns-clause-stands
returns-clause-stands c =
    let s = c.args.shape.now in
    let w = c.block-block.result.end - c.block-block.result.first in
    let d = (goal.at.returns-clause-stands c).In_ok-samples in
    table_fresh s w _ _ _ _ (counts d) (waiting d) (bins d)
