-- How large the power sums of at most 131,070 samples of 16 bits are, and what is made of them.
use Rattle.std.proofs.Common.{◌≡◌, ℕ, ◌+◌, ◌*◌, ◌^◌, ◌<◌, ◌≤◌, List, [], ◌∷◌, length, map, Bool, ℤ, pos, ◌-ℤ◌, ◌≤ℤ◌, FitsSigned, to_z, of_z, ap, ◌∙◌, refl, sym, subst, arith}
use Rattle.std.specs.List.{sum_by, AllByRecursion}
use Rattle.std.specs.Int.{w128}
use Rattle.std.proofs.lemmas.Int.{ints}
use Rattle.std.proofs.lemmas.Nat.{mul-le}
use Rattle.std.proofs.lemmas.List.Sums.{sum_by-cons}
use Rattle.mls_model.specs.Samples.{unshifted}
use Rattle.mls_model.specs.Statistics.{variance_top, third_top}
use Rattle.mls_power.proofs.Spread.{spread_more}
use Rattle.mls_power.proofs.Deviations.{variance_form, third_form, variance-pos, third-pos}
use Rattle.mls_power.proofs.Translates.{third_shifted, variance_lower, of_every_list}

-- at most so many samples, each at most 65,535
pub record AreFew (n p1 p2 p3 : ℕ) : Type 0 where
  pub count : n ≤ 131070
  pub first : p1 ≤ 65535 * n
  pub second : p2 ≤ 65535 * p1
  pub third : p3 ≤ 65535 * p2

pub small_square : (n p1 p2 p3 : ℕ) → AreFew n p1 p2 p3 → (n * p2 < 2 ^ 127) × (p1 * p1 < 2 ^ 127)
small_square n p1 p2 p3 few =
    let first : p1 ≤ 8589672450 = omega (arith, few.count, few.first) in
    let second : p2 ≤ 562924184010750 = omega (arith, few.second) in
    (omega (arith, mul-le n p2 131070 562924184010750 few.count second), omega (arith, mul-le p1 p1 8589672450 8589672450 first first))

pub small_cube : (n p1 p2 p3 : ℕ) → AreFew n p1 p2 p3 → (p1 * p1 * p1 < 2 ^ 100) × (n * n * p3 + 2 * (p1 * p1 * p1) < 2 ^ 127) × (3 * (n * p1 * p2) < 2 ^ 127)
small_cube n p1 p2 p3 few =
    let first : p1 ≤ 8589672450 = omega (arith, few.count, few.first) in
    let second : p2 ≤ 562924184010750 = omega (arith, few.second) in
    let third : p3 ≤ 36891236399201250000 = omega (arith, few.third) in
    let squares : p1 * p1 ≤ 8589672450 * 8589672450 = mul-le p1 p1 8589672450 8589672450 first first in
    let cubes : p1 * p1 * p1 ≤ 8589672450 * 8589672450 * 8589672450 = mul-le (p1 * p1) p1 (8589672450 * 8589672450) 8589672450 squares first in
    let counts : n * n ≤ 131070 * 131070 = mul-le n n 131070 131070 few.count few.count in
    let over : n * n * p3 ≤ 131070 * 131070 * 36891236399201250000 = mul-le (n * n) p3 (131070 * 131070) 36891236399201250000 counts third in
    let mixed : n * p1 ≤ 131070 * 8589672450 = mul-le n p1 131070 8589672450 few.count first in
    let under : n * p1 * p2 ≤ 131070 * 8589672450 * 562924184010750 = mul-le (n * p1) p2 (131070 * 8589672450) 562924184010750 mixed second in
    (omega arith, omega arith, omega arith)

-- a difference of two numbers that are cast
pub cast_difference : (a b : ℕ) → a < 2 ^ 127 → b < 2 ^ 127 → to_z w128 (of_z w128 (to_z w128 a -ℤ to_z w128 b)) ≡ pos a -ℤ pos b
cast_difference a b p q = omega (arith, ints)

pub variance_from : (n p1 p2 : ℕ) (ws : List ℕ) → n ≡ length ws → p1 ≡ sum_by (λ w. w) ws → p2 ≡ sum_by (λ w. w * w) ws → variance_form n p1 p2 ≡ variance_top (map pos ws)
variance_from n p1 p2 ws count first second =
    ap (λ k. variance_form k p1 p2) count ∙ (ap (λ k. variance_form (length ws) k p2) first ∙ (ap (λ k. variance_form (length ws) (sum_by (λ w. w) ws) k) second ∙ sym (variance-pos ws)))

pub third_from : (n p1 p2 p3 : ℕ) (ws : List ℕ) → n ≡ length ws → p1 ≡ sum_by (λ w. w) ws → p2 ≡ sum_by (λ w. w * w) ws → p3 ≡ sum_by (λ w. w * w * w) ws → third_form n p1 p2 p3 ≡ third_top (map pos ws)
third_from n p1 p2 p3 ws count first second third =
    ap (λ k. third_form k p1 p2 p3) count ∙ (ap (λ k. third_form (length ws) k p2 p3) first ∙ (ap (λ k. third_form (length ws) (sum_by (λ w. w) ws) k p3) second ∙ (ap (λ k. third_form (length ws) (sum_by (λ w. w) ws) (sum_by (λ w. w * w) ws) k) third ∙ sym (third-pos ws))))

-- the square of a list's sum is at most its length times the sum of its squares
pub spread_of : (ns : List ℕ) → sum_by (λ x. x) ns * sum_by (λ x. x) ns ≤ length ns * sum_by (λ x. x * x) ns
spread_of [] = omega arith
spread_of (x ∷ ns) = rw (sum_by-cons (λ y. y) x ns, sum_by-cons (λ y. y * y) x ns) (omega (arith, spread_more (length ns) (sum_by (λ y. y) ns) (sum_by (λ y. y * y) ns) x (spread_of ns)))

not_negative : (a b : ℕ) → b ≤ a → pos 0 ≤ℤ (pos a -ℤ pos b)
not_negative a b h = omega (arith, ints)

pub variance_from_zero : (ws : List ℤ) → pos 0 ≤ℤ variance_top ws
variance_from_zero ws = of_every_list (λ ws. pos 0 ≤ℤ variance_top ws)
    (λ k ns. subst (λ (v : ℤ). pos 0 ≤ℤ v) (sym (variance_lower k ns ∙ variance-pos ns)) (not_negative _ _ (spread_of ns))) ws

pub sums_of_bounded : (f g : ℕ → ℕ) → ((x : ℕ) → x < 65536 → f x ≤ 65535 * g x) → (ns : List ℕ) → AllByRecursion (λ x. x < 65536) ns → sum_by f ns ≤ 65535 * sum_by g ns
sums_of_bounded f g each [] all = omega arith
sums_of_bounded f g each (x ∷ ns) all = omega (arith, sum_by-cons f x ns, sum_by-cons g x ns, each x all.0, sums_of_bounded f g each ns all.1)

pub ones : (ns : List ℕ) → sum_by (λ x. 1) ns ≡ length ns
ones [] = refl
ones (x ∷ ns) = omega (arith, sum_by-cons (λ y. 1) x ns, ones ns)

are_few : (ns : List ℕ) → length ns ≤ 131070 → AllByRecursion (λ x. x < 65536) ns → AreFew (length ns) (sum_by (λ x. x) ns) (sum_by (λ x. x * x) ns) (sum_by (λ x. x * x * x) ns)
are_few ns count all = record {
  count = count;
  first = omega (arith, ones ns, sums_of_bounded (λ x. x) (λ x. 1) (λ x h. omega arith) ns all);
  second = sums_of_bounded (λ x. x * x) (λ x. x) (λ x h. mul-le x x 65535 x (omega arith) (omega arith)) ns all;
  third = sums_of_bounded (λ x. x * x * x) (λ x. x * x) (λ x h. (let e : x * (x * x) ≤ 65535 * (x * x) = mul-le x (x * x) 65535 (x * x) (omega arith) (omega arith) in omega arith)) ns all;
}

difference_fits : (a b : ℕ) → a < 2 ^ 127 → b < 2 ^ 127 → FitsSigned w128 (pos a -ℤ pos b)
difference_fits a b p q = omega (arith, ints)

pub third_fits : (signed : Bool) (ns : List ℕ) → length ns ≤ 131070 → AllByRecursion (λ x. x < 65536) ns → FitsSigned w128 (third_top (map (unshifted signed) ns))
third_fits signed ns count all =
    let small = small_cube _ _ _ _ (are_few ns count all) in
    subst (λ (u : ℤ). FitsSigned w128 u) (sym (third_shifted signed ns ∙ third-pos ns)) (difference_fits _ _ small.1 small.2)
