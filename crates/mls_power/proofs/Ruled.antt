-- The rules on statistics hold of those of every list.
use Rattle.std.proofs.Common.{◌≡◌, ℕ, ◌+◌, ◌*◌, ◌<◌, ◌≤◌, List, [], ◌∷◌, length, get_or, false, cond, inl, inr, ◌∙◌, arith}
use Rattle.std.specs.Prelude.{nat_lt, IsTrue}
use Rattle.std.specs.List.{sum_by, count_by, AllByRecursion}
use Rattle.std.proofs.lemmas.Bool.{cases_lt}
use Rattle.std.proofs.lemmas.Bool.Decides.{nat_tests}
use Rattle.std.proofs.lemmas.List.{get_or_past}
use Rattle.std.proofs.lemmas.List.Sums.{sum_by-cons, count_by-le-length}
use Rattle.std.proofs.lemmas.Nat.{mul-le}
use Rattle.mls_model.specs.Studies.{rises}
use Rattle.mls_power.specs.Extremes.{least_in, greatest_in, HoldsExtrema}
use Rattle.mls_power.specs.NumbersAbove.{HoldsAbove}
use Rattle.mls_power.specs.Rules.{AreSums, AreExtrema, AreNumbersOf}
use Rattle.mls_power.proofs.Bounds.{sums_of_bounded, ones, spread_of}
use Rattle.mls_power.proofs.Least.{least_from, most_from, rules_of}
use Rattle.mls_power.proofs.Counted.{above-map, rising}

pub sums_ruled : (ws : List ℕ) → AllByRecursion (λ w. w < 65536) ws → AreSums (length ws) (sum_by (λ w. w) ws) (sum_by (λ w. w * w) ws) (sum_by (λ w. w * w * w) ws) (sum_by (λ w. w * w * (w * w)) ws)
sums_ruled ws all = record {
  first = omega (arith, ones ws, sums_of_bounded (λ x. x) (λ x. 1) (λ x h. omega arith) ws all);
  second = sums_of_bounded (λ x. x * x) (λ x. x) (λ x h. mul-le x x 65535 x (omega arith) (omega arith)) ws all;
  spread = spread_of ws;
  third = sums_of_bounded (λ x. x * x * x) (λ x. x * x) (λ x h. (let e : x * (x * x) ≤ 65535 * (x * x) = mul-le x (x * x) 65535 (x * x) (omega arith) (omega arith) in omega arith)) ws all;
  fourth = sums_of_bounded (λ x. x * x * (x * x)) (λ x. x * x * x) (λ x h. (let e : x * (x * x * x) ≤ 65535 * (x * x * x) = mul-le x (x * x * x) 65535 (x * x * x) (omega arith) (omega arith) in omega arith)) ws all;
}

pub extrema_ruled : (ends ws : List ℕ) → HoldsExtrema ends ws → AreExtrema (length ws) (least_in ends) (greatest_in ends)
extrema_ruled ends ws holds = rules_of _ _ ws (least_from _ ws holds.least) (most_from _ ws holds.greatest)

-- fewer numbers are above a greater threshold
fewer : (t u : ℕ) (ws : List ℕ) → t < u → count_by (nat_lt u) ws ≤ count_by (nat_lt t) ws
fewer t u [] h = omega arith
fewer t u (w ∷ ws) h =
    let e = sum_by-cons (λ v. cond (nat_lt u v) 1 0) w ws in
    let f = sum_by-cons (λ v. cond (nat_lt t v) 1 0) w ws in
    grind (arith, nat_tests, e, f, fewer t u ws h)

counts_are : (thresholds numbers ws : List ℕ) → HoldsAbove thresholds numbers ws → (i : ℕ) → i < length thresholds → get_or numbers i 0 ≡ count_by (nat_lt (get_or thresholds i 0)) ws
counts_are thresholds numbers ws holds i h = holds.each i h ∙ above-map false (get_or thresholds i 0) ws

pub above_ruled : (thresholds numbers ws : List ℕ) → IsTrue (rises thresholds) → length numbers ≡ length thresholds → HoldsAbove thresholds numbers ws → AreNumbersOf (length thresholds) (length ws) numbers
above_ruled thresholds numbers ws rise size holds =
    let past : (i : ℕ) → length thresholds ≤ i → get_or numbers i 0 ≡ 0 = (λ i h. get_or_past numbers i 0 (omega arith)) in
    record {
      range = record {
        few = λ i. elim (cases_lt i (length thresholds)) [
          | inl h ↦ omega (arith, counts_are thresholds numbers ws holds i h, count_by-le-length (nat_lt (get_or thresholds i 0)) ws)
          | inr h ↦ omega (arith, past i h)
        ];
        falling = λ i. elim (cases_lt (i + 1) (length thresholds)) [
          | inl h ↦ (let before : i < length thresholds = omega arith in omega (arith, counts_are thresholds numbers ws holds i before, counts_are thresholds numbers ws holds (i + 1) h, fewer (get_or thresholds i 0) (get_or thresholds (i + 1) 0) ws (rising thresholds i rise h)))
          | inr h ↦ omega (arith, past (i + 1) h)
        ];
      };
      behind = past;
    }
