-- The number of millionths is the root that the code takes.
use Rattle.std.proofs.Common.{◌≡◌, ℕ, ◌+◌, ◌*◌, ◌/◌, ◌^◌, ◌<◌, ◌≤◌, true, false, ℤ, pos, negsuc, ◌≤ℤ◌, Some, None, IfSome, sym, refl, ap, ◌∙◌, inl, inr, arith, ◌⊎◌, mul-pos, to_z, of_z, w32}
use Rattle.std.specs.Prelude.{int_lt, ◌-ℤ◌}
use Rattle.std.specs.Prelude.{unsigned_abs, ◌==◌, nat_le}
use Rattle.std.proofs.lemmas.Nat.{mul-le}
use Rattle.std.proofs.Math.Nat.{mul-le-mul_right}
use Rattle.std.proofs.lemmas.Int.{ints}
use Rattle.std.proofs.lemmas.Bool.{cases_lt, cases_Bool}
use Rattle.std.proofs.lemmas.Bool.Decides.{nat_tests}
use Rattle.mls_model.specs.Numbers.{greatest}
use Rattle.mls_model.specs.Indices.{millionths, signed_as, rho6}
use Rattle.mls_num.proofs.Greatest.{greatest_passes, greatest_fails}
use Rattle.mls_num.proofs.Division.{IsRootOf, root_of_quotient}

test_true : (a b : ℕ) → a ≤ b → nat_le a b ≡ true
test_true a b h = grind (arith, nat_tests)

test_false : (a b : ℕ) → b < a → nat_le a b ≡ false
test_false a b h = grind (arith, nat_tests)

from_true : (a b : ℕ) → nat_le a b ≡ true → a ≤ b
from_true a b h = grind (arith, nat_tests)

from_false : (a b : ℕ) → nat_le a b ≡ false → b < a
from_false a b h = grind (arith, nat_tests)

greatest_within : (k d m : ℕ) → greatest k (λ q. nat_le (q * q * d) m) * greatest k (λ q. nat_le (q * q * d) m) * d ≤ m
greatest_within k d m =
    let q = greatest k (λ q. nat_le (q * q * d) m) in
    from_true (q * q * d) m (greatest_passes k (λ q. nat_le (q * q * d) m) (test_true (0 * 0 * d) m (omega arith)))

greatest_above : (k d m : ℕ) → m < 2 ^ k * 2 ^ k * d → m < (greatest k (λ q. nat_le (q * q * d) m) + 1) * (greatest k (λ q. nat_le (q * q * d) m) + 1) * d
greatest_above k d m h =
    let q = greatest k (λ q. nat_le (q * q * d) m) in
    from_false ((q + 1) * (q + 1) * d) m (greatest_fails k (λ q. nat_le (q * q * d) m) (test_false (2 ^ k * 2 ^ k * d) m h))

pub millionths_within : (c v w : ℕ) → millionths c v w * millionths c v w * (v * w) ≤ 1000000000000 * (c * c)
unfolding millionths
millionths_within c v w = greatest_within 20 (v * w) (1000000000000 * (c * c))

pub millionths_greatest : (c v w : ℕ) → c * c ≤ v * w → 0 < v * w → 1000000000000 * (c * c) < (millionths c v w + 1) * (millionths c v w + 1) * (v * w)
unfolding millionths
millionths_greatest c v w h some =
    let room : 1000000000000 * (c * c) < 1048576 * 1048576 * (v * w) = omega arith in
    greatest_above 20 (v * w) (1000000000000 * (c * c)) room

root_le : (a b m d : ℕ) → a * a * d ≤ m → m < (b + 1) * (b + 1) * d → a ≤ b
root_le a b m d low high =
    elim (cases_lt b a) [
      | inl lt ↦
          let squares : (b + 1) * (b + 1) ≤ a * a = mul-le (b + 1) (b + 1) a a (omega arith) (omega arith) in
          let more : (b + 1) * (b + 1) * d ≤ a * a * d = mul-le-mul_right d squares in
          omega arith
      | inr le ↦ le
    ]

pub millionths_are : (r c v w : ℕ) → c * c ≤ v * w → 0 < v * w → IsRootOf r (1000000000000 * (c * c)) (v * w) → r ≡ millionths c v w
millionths_are r c v w h some root =
    let under = root_le r (millionths c v w) _ (v * w) root.within (millionths_greatest c v w h some) in
    let over = root_le (millionths c v w) r _ (v * w) (millionths_within c v w) root.greatest in
    omega arith

pub millionths_below : (c v w : ℕ) → c * c ≤ v * w → 0 < v * w → millionths c v w ≤ 1000000
millionths_below c v w h some =
    let low = millionths_within c v w in
    root_le (millionths c v w) 1000000 (1000000000000 * (v * w)) (v * w) (omega arith) (omega arith)

pub rho6_none : (c : ℤ) (v w : ℕ) → (v ≡ 0) ⊎ (w ≡ 0) → rho6 c v w ≡ None
unfolding rho6
rho6_none c v w h =
    elim h [
      | inl e ↦ rw e refl
      | inr e ↦ elim (cases_Bool (v == 0)) [ inl t ↦ rw t refl | inr f ↦ rw (f, e) refl ]
    ]

not_zero : (n : ℕ) → 0 < n → (n == 0) ≡ false
not_zero n h = grind (arith, nat_tests)

pub rho6_some : (c : ℤ) (v w : ℕ) → 0 < v → 0 < w → rho6 c v w ≡ Some (signed_as c (millionths (unsigned_abs c) v w))
unfolding rho6
rho6_some c v w first second = rw (not_zero v first, not_zero w second) refl

some_product : (v w : ℕ) → 0 < v → 0 < w → 0 < v * w
some_product v w first second = mul-pos first second

-- the root that the code takes
pub root_is : (r q n v w : ℕ) → n * n ≤ v * w → 0 < v → 0 < w → q ≡ n * n * 1000000000000 / (v * w) → r * r ≤ q → q < (r + 1) * (r + 1) → (r ≡ millionths n v w) × (r ≤ 1000000)
root_is r q n v w h first second e low high =
    let some = some_product v w first second in
    let turned : n * n * 1000000000000 ≡ 1000000000000 * (n * n) = omega arith in
    let root = root_of_quotient r q (1000000000000 * (n * n)) (v * w) some (e ∙ ap (λ (a : ℕ). a / (v * w)) turned) low high in
    let same = millionths_are r n v w h some root in
    (same, omega (arith, millionths_below n v w h some))

-- what the code answers
pub rho6_is : (c : ℤ) (v w r : ℕ) → 0 < v → 0 < w → r ≡ millionths (unsigned_abs c) v w → Some (signed_as c r) ≡ rho6 c v w
rho6_is c v w r first second e = ap (λ (q : ℕ). Some (signed_as c q)) e ∙ sym (rho6_some c v w first second)

bounded : (c : ℤ) (q : ℕ) → q ≤ 1000000 → (negsuc 999999 ≤ℤ signed_as c q) × (signed_as c q ≤ℤ pos 1000000)
bounded (pos c) q h = (omega (arith, ints), omega (arith, ints))
bounded (negsuc c) q h = (omega (arith, ints), omega (arith, ints))

pub rho6_bounded : (c : ℤ) (v w : ℕ) → unsigned_abs c * unsigned_abs c ≤ v * w → IfSome (rho6 c v w) (λ r. (negsuc 999999 ≤ℤ r) × (r ≤ℤ pos 1000000))
rho6_bounded c v w h =
    elim (cases_lt 0 v) [
      | inr zero_v ↦ rw (rho6_none c v w (inl (omega arith))) tt
      | inl first ↦
          elim (cases_lt 0 w) [
            | inr zero_w ↦ rw (rho6_none c v w (inr (omega arith))) tt
            | inl second ↦ rw (rho6_some c v w first second) (bounded c _ (millionths_below (unsigned_abs c) v w h (some_product v w first second)))
          ]
    ]

-- the sign that the code gives the root
pub negative : (c : ℤ) (r : ℕ) → int_lt c (pos 0) ≡ true → r ≤ 1000000 → to_z w32 (of_z w32 (pos 0 -ℤ to_z w32 r)) ≡ signed_as c r
negative (pos n) r e h = absurd (omega (arith, ints))
negative (negsuc n) r e h = omega (arith, ints)

pub positive : (c : ℤ) (r : ℕ) → int_lt c (pos 0) ≡ false → r ≤ 1000000 → to_z w32 r ≡ signed_as c r
positive (pos n) r e h = omega (arith, ints)
positive (negsuc n) r e h = absurd (omega (arith, ints))
