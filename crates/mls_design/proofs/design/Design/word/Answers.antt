use Rattle.std.proofs.Common.{arith, ◌≡◌, ◌+◌, ◌*◌, ◌∙◌, ap, sym, length}
use Rattle.mls_design.specs.Kept.{Kept}
use Rattle.mls_design.proofs.Drawing.{pair_is, took_a, took_b}
use Rattle.mls_design.proofs.design.Design.word.Goals as goal

pub returns-then-takes_b : goal.returns-then-takes_b
returns-then-takes_b c = λ study made.
    let kept : Kept = record { groups = c.self.inside.groups; ranges = c.self.inside.ranges.items; pairs = c.self.inside.pairs.items } in
    let same : kept ≡ c.args.self.now = c.self.view_is in
    took_b study c.args.group c.args.sim c.args.parameter c.index-pair.result.now
    (pair_is study kept c.args.group c.args.parameter (c.args.group * c.len.result + c.args.parameter) c.index-pair.result.now c.self.invariant (same ∙ made)
    (omega (arith, ap (λ (k : Kept). k.groups) same)) (omega (arith, ap (λ (k : Kept). length k.ranges) same))
    (let size : c.len.result ≡ length kept.ranges = omega (arith, c.len.ensures, c.self.inside.ranges.ok.0) in ap (λ n. c.args.group * n + c.args.parameter) size) c.index-pair.ensures)
    (sym c.takes_b.ensures ∙ c.if-takes_b.true)

pub returns-else-takes_b : goal.returns-else-takes_b
returns-else-takes_b c = λ study made.
    let kept : Kept = record { groups = c.self.inside.groups; ranges = c.self.inside.ranges.items; pairs = c.self.inside.pairs.items } in
    let same : kept ≡ c.args.self.now = c.self.view_is in
    took_a study c.args.group c.args.sim c.args.parameter c.index-pair.result.now
    (pair_is study kept c.args.group c.args.parameter (c.args.group * c.len.result + c.args.parameter) c.index-pair.result.now c.self.invariant (same ∙ made)
    (omega (arith, ap (λ (k : Kept). k.groups) same)) (omega (arith, ap (λ (k : Kept). length k.ranges) same))
    (let size : c.len.result ≡ length kept.ranges = omega (arith, c.len.ensures, c.self.inside.ranges.ok.0) in ap (λ n. c.args.group * n + c.args.parameter) size) c.index-pair.ensures)
    (sym c.takes_b.ensures ∙ c.if-takes_b.false)
