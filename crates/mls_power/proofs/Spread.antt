-- The square of a sum against the sum of squares.
use Rattle.std.proofs.Common.{◌≡◌, ℕ, zero, suc, ◌+◌, ◌-◌, ◌*◌, ◌≤◌, inl, inr, arith}
use Rattle.std.proofs.lemmas.Bool.{cases_lt}
use Rattle.std.proofs.Math.Nat.{le_of_mul-le-mul_left, mul-le-mul_left}

twice_by_gap : (a d : ℕ) → 2 * (a * (a + d)) ≤ a * a + (a + d) * (a + d)
twice_by_gap a d = omega arith

-- twice a product is at most the sum of the squares
pub twice_product : (a b : ℕ) → 2 * (a * b) ≤ a * a + b * b
twice_product a b = elim (cases_lt a b) [
  | inl h ↦ (let e : a + (b - a) ≡ b = omega arith in rw e at (twice_by_gap a (b - a)))
  | inr h ↦ (let e : b + (a - b) ≡ a = omega arith in let t = rw e at (twice_by_gap b (a - b)) in omega (arith, t))
]

-- with one more number the square of the sum stays at most the count times the sum of the squares
pub spread_more : (n p q x : ℕ) → p * p ≤ n * q → (p + x) * (p + x) ≤ (n + 1) * (q + x * x)
spread_more zero zero q x h = omega arith
spread_more zero (suc p) q x h = absurd (omega arith)
spread_more (suc m) p q x h =
    let n = suc m in
    let scaled : n * (p * p) ≤ n * (n * q) = mul-le-mul_left n h in
    let mixed : 2 * (p * (n * x)) ≤ p * p + n * x * (n * x) = twice_product p (n * x) in
    let whole : n * ((p + x) * (p + x)) ≤ n * ((n + 1) * (q + x * x)) = omega arith in
    le_of_mul-le-mul_left whole (omega arith)

-- n numbers that are each k less have squares too
pub lowered_squares : (n p q k : ℕ) → p ≤ 65535 * n → p * p ≤ n * q → 2 * k * p ≤ q + k * k * n
lowered_squares zero p q k few h = let none : p ≡ 0 = omega arith in rw none (omega arith)
lowered_squares (suc m) p q k few h =
    let n = suc m in
    let mixed : 2 * (p * (n * k)) ≤ p * p + n * k * (n * k) = twice_product p (n * k) in
    let whole : n * (2 * k * p) ≤ n * (q + k * k * n) = omega arith in
    le_of_mul-le-mul_left whole (omega arith)
