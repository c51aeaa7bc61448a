use Rattle.std.proofs.Common.{List, sym, ℕ, ◌∙◌, ◌*◌, pos, ◌-ℤ◌, arith}
use Rattle.mls_power.specs.Standing.{StandsFor}
use Rattle.mls_power.proofs.Translates.{variance_shifted}
use Rattle.mls_power.proofs.Bounds.{small_square, cast_difference, variance_from}
use Rattle.mls_power.proofs.power.Power.variance_top.Goals as goal

pub returns : goal.returns
returns c =
    let p = c.args.self.now in
    let n = p.count in
    let p1 = c.p1-first.result in
    let p2 = c.p2.result in
    let small = small_square n p1 p2 0 (record { count = omega arith; first = omega arith; second = omega arith; third = omega arith }) in
    let over_samples = λ (ws : List ℕ) (stands : StandsFor p ws). cast_difference (n * p2) (p1 * p1) small.0 small.1 ∙ variance_from n p1 p2 ws stands.count (c.p1-first.ensures ∙ stands.first) (c.p2.ensures ∙ stands.second) in
    let formula = cast_difference (n * p2) (p1 * p1) small.0 small.1 ∙ (λ i. pos (n * c.p2.ensures i) -ℤ pos (c.p1-first.ensures i * c.p1-first.ensures i)) in
    record { formula = formula; samples = over_samples; values = λ signed ws stands. over_samples ws stands ∙ sym (variance_shifted signed ws) }
