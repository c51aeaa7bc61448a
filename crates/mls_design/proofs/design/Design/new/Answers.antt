use Rattle.std.proofs.Common.{◌∙◌, ap}
use Rattle.mls_model.specs.Studies.{Sizes}
use Rattle.mls_design.proofs.Drawing.{made_design, kept_made}
use Rattle.mls_design.proofs.design.Design.new.Goals as goal

pub invariant_of-result : goal.invariant_of-result
invariant_of-result c =
    kept_made c.args.study.now (record { groups = c.groups-groups.result; ranges = c.in_ok-ranges.ranges.items; pairs = c.in_ok-pairs.pairs.items }) c.valid.ensures
    (made_design c.args.study.now c.groups-groups.result c.parameters-count.result c.seed.result c.in_ok-ranges.ranges.items c.in_ok-pairs.pairs.items
    (c.groups-groups.ensures.value ∙ ap (λ (s : Sizes). s.groups) c.shape-shape.ensures) (c.parameters-count.ensures.value ∙ ap (λ (s : Sizes). s.parameters) c.shape-shape.ensures) c.seed.ensures c.in_ok-ranges.ensures c.in_ok-pairs.ensures)

pub returns : goal.returns
returns c =
    made_design c.args.study.now c.groups-groups.result c.parameters-count.result c.seed.result c.in_ok-ranges.ranges.items c.in_ok-pairs.pairs.items
    (c.groups-groups.ensures.value ∙ ap (λ (s : Sizes). s.groups) c.shape-shape.ensures) (c.parameters-count.ensures.value ∙ ap (λ (s : Sizes). s.parameters) c.shape-shape.ensures) c.seed.ensures c.in_ok-ranges.ensures c.in_ok-pairs.ensures
