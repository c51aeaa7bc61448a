use Rattle.std.proofs.Common.{List, sym, ℕ, ◌∙◌, ◌+◌, ◌*◌, pos, ◌-ℤ◌, arith}
use Rattle.std.proofs.lemmas.Int.{ints}
use Rattle.mls_power.specs.Standing.{StandsFor}
use Rattle.mls_power.proofs.Translates.{third_shifted}
use Rattle.mls_power.proofs.Bounds.{small_cube, cast_difference, third_from}
use Rattle.mls_power.proofs.power.Power.third_top.Goals as goal

pub overflow_mul-over-4 : goal.overflow_mul-over-4
overflow_mul-over-4 c =
    let small = small_cube c.args.self.now.count c.p1-first.result 0 0 (record { count = omega arith; first = omega arith; second = omega arith; third = omega arith }) in
    omega (arith, small.0)

pub overflow_sub-result : goal.overflow_sub-result
overflow_sub-result c =
    let small = small_cube c.args.self.now.count c.p1-first.result c.p2.result c.p3.result (record { count = omega arith; first = omega arith; second = omega arith; third = omega arith }) in
    omega (arith, ints, small.1, small.2)

pub returns : goal.returns
returns c =
    let p = c.args.self.now in
    let n = p.count in
    let p1 = c.p1-first.result in
    let p2 = c.p2.result in
    let p3 = c.p3.result in
    let small = small_cube n p1 p2 p3 (record { count = omega arith; first = omega arith; second = omega arith; third = omega arith }) in
    let over_samples = λ (ws : List ℕ) (stands : StandsFor p ws). cast_difference (n * n * p3 + 2 * (p1 * p1 * p1)) (3 * (n * p1 * p2)) small.1 small.2 ∙ third_from n p1 p2 p3 ws stands.count (c.p1-first.ensures ∙ stands.first) (c.p2.ensures ∙ stands.second) (c.p3.ensures ∙ stands.third) in
    let formula = cast_difference (n * n * p3 + 2 * (p1 * p1 * p1)) (3 * (n * p1 * p2)) small.1 small.2 ∙ (λ i. pos (n * n * c.p3.ensures i + 2 * (c.p1-first.ensures i * c.p1-first.ensures i * c.p1-first.ensures i)) -ℤ pos (3 * (n * c.p1-first.ensures i * c.p2.ensures i))) in
    record { formula = formula; samples = over_samples; values = λ signed ws stands. over_samples ws stands ∙ sym (third_shifted signed ws) }
