use Rattle.std.proofs.Common.{refl}
use Rattle.mls_base.specs.Shapes.{sizes_of}
use Rattle.mls_base.proofs.Ranges.{sizes_in_ranges}
use Rattle.mls_base.proofs.shape.Shape.of.Goals as goal

pub invariant_of-result : goal.invariant_of-result
invariant_of-result c =
    let n = c.args.numbers.now in
    let kept = c.have_thresholds.ensures.0 c.if-have_thresholds.true in (
      kept.behind,
      kept.few,
      sizes_in_ranges (sizes_of n) (c.have_counts.ensures.0 c.if-have_counts.true) (c.have_launch.ensures.0 c.if-have_launch.true) (c.have_varied.ensures.0 c.if-have_varied.true) kept.thresholds (c.have_products.ensures.0 c.if-have_products.true),
    )

pub returns-then-have_thresholds-clause-valid : goal.returns-then-have_thresholds-clause-valid
returns-then-have_thresholds-clause-valid c =
    let n = c.args.numbers.now in
    let kept = c.have_thresholds.ensures.0 c.if-have_thresholds.true in (
      λ _. record {
        few = kept.few;
        behind = kept.behind;
        sizes = sizes_in_ranges (sizes_of n) (c.have_counts.ensures.0 c.if-have_counts.true) (c.have_launch.ensures.0 c.if-have_launch.true) (c.have_varied.ensures.0 c.if-have_varied.true) kept.thresholds (c.have_products.ensures.0 c.if-have_products.true);
      },
      λ _. refl,
    )
