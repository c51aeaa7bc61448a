use Rattle.std.proofs.Common.{◌≡◌, ℕ, ◌+◌, ◌-◌, ◌*◌, ◌^◌, ◌<◌, ◌≤◌, pos, ◌-ℤ◌, ◌∙◌, to_z, of_z, w64, arith}
use Rattle.std.proofs.lemmas.Int.{ints}
use Rattle.mls_power.proofs.Spread.{lowered_squares}
use Rattle.mls_power.proofs.Bounds.{cast_difference}
use Rattle.mls_power.proofs.Values.{AreSums, first_lower, second_lower, third_lower, fourth_lowered}
use Rattle.mls_power.proofs.power.Power.signed_powers.Goals as goal

short_difference : (a b : ℕ) → a < 2 ^ 63 → b < 2 ^ 63 → to_z w64 (of_z w64 (to_z w64 a -ℤ to_z w64 b)) ≡ pos a -ℤ pos b
short_difference a b p q = omega (arith, ints)

some_left : (n p q p1 p2 : ℕ) → p ≡ p1 → q ≡ p2 → p1 ≤ 65535 * n → p1 * p1 ≤ n * p2 → 65536 * p ≤ q + 1073741824 * n
some_left n p q p1 p2 d e few spread = rw (d, e) (lowered_squares n p1 p2 32768 few spread)

pub overflow_sub-result-2 : goal.overflow_sub-result-2
overflow_sub-result-2 c =
    let range = c.args.self.now.range in
    some_left c.args.self.now.count c.p1-first.result c.p2-second.result _ _ c.p1-first.ensures c.p2-second.ensures range.first range.spread

natural_difference : (a b : ℕ) → b ≤ a → pos (a - b) ≡ pos a -ℤ pos b
natural_difference a b h = omega (arith, ints)

pub returns-clause-formulas : goal.returns-clause-formulas
returns-clause-formulas c =
    let p = c.args.self.now in
    let n = p.count in
    let p1 = c.p1-first.result in
    let p2 = c.p2-second.result in
    let p3 = c.p3.result in
    let p4 = c.p4.result in
    let left = some_left n p1 p2 _ _ c.p1-first.ensures c.p2-second.ensures p.range.first p.range.spread in
    let same : c.p3-2.result ≡ p3 = omega arith in
    record {
      first = short_difference p1 (32768 * n) (omega arith) (omega arith) ∙ (λ i. pos (c.p1-first.ensures i) -ℤ pos (32768 * n));
      second = natural_difference (p2 + 1073741824 * n) (65536 * p1) left ∙ (λ i. pos (c.p2-second.ensures i + 1073741824 * n) -ℤ pos (65536 * c.p1-first.ensures i));
      third = cast_difference (p3 + 3221225472 * p1) (98304 * p2 + 35184372088832 * n) (omega arith) (omega arith) ∙ (λ i. pos (c.p3.ensures i + 3221225472 * c.p1-first.ensures i) -ℤ pos (98304 * c.p2-second.ensures i + 35184372088832 * n));
      fourth = rw same (cast_difference (p4 + 6442450944 * p2 + 1152921504606846976 * n) (131072 * p3 + 140737488355328 * p1) (omega arith) (omega arith) ∙ (λ i. pos (c.p4.ensures i + 6442450944 * c.p2-second.ensures i + 1152921504606846976 * n) -ℤ pos (131072 * c.p3.ensures i + 140737488355328 * c.p1-first.ensures i)));
    }

pub returns-clause-values : goal.returns-clause-values
returns-clause-values c = λ ws stands.
    let p = c.args.self.now in
    let n = p.count in
    let p1 = c.p1-first.result in
    let p2 = c.p2-second.result in
    let p3 = c.p3.result in
    let p4 = c.p4.result in
    let are : AreSums n p1 p2 p3 p4 ws = record { count = stands.count; first = c.p1-first.ensures ∙ stands.first; second = c.p2-second.ensures ∙ stands.second; third = c.p3.ensures ∙ stands.third; fourth = c.p4.ensures ∙ stands.fourth } in
    let left = some_left n p1 p2 _ _ c.p1-first.ensures c.p2-second.ensures p.range.first p.range.spread in
    let same : c.p3-2.result ≡ p3 = omega arith in
    record {
      first = short_difference p1 (32768 * n) (omega arith) (omega arith) ∙ first_lower 32768 n p1 p2 p3 p4 ws are;
      second = second_lower 32768 n p1 p2 p3 p4 ws are left;
      third = cast_difference (p3 + 3221225472 * p1) (98304 * p2 + 35184372088832 * n) (omega arith) (omega arith) ∙ third_lower 32768 n p1 p2 p3 p4 ws are;
      fourth = rw same (cast_difference (p4 + 6442450944 * p2 + 1152921504606846976 * n) (131072 * p3 + 140737488355328 * p1) (omega arith) (omega arith) ∙ fourth_lowered 32768 n p1 p2 p3 p4 ws are);
    }
