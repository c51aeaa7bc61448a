use Rattle.std.proofs.Common.{arith, ◌≡◌, ◌∙◌, ap, length}
use Rattle.mls_design.specs.Kept.{Kept}
use Rattle.mls_design.proofs.Drawing.{ranges_are, input_is}
use Rattle.mls_design.proofs.design.Design.input.Goals as goal

pub returns : goal.returns
returns c = λ study made.
    let kept : Kept = record { groups = c.self.inside.groups; ranges = c.self.inside.ranges.items; pairs = c.self.inside.pairs.items } in
    let same : kept ≡ c.args.self.now = c.self.view_is in
    input_is study kept.ranges c.args.group c.args.sim c.args.parameter c.index-range.result.now c.word.result _ (ranges_are study kept (same ∙ made)) (omega (arith, ap (λ (k : Kept). length k.ranges) same)) c.index-range.ensures (c.word.ensures study made) c.input.ensures
