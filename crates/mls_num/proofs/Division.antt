-- One more digit of a long division, and a root of a quotient.
use Rattle.std.proofs.Common.{◌≡◌, ℕ, ◌+◌, ◌-◌, ◌*◌, ◌/◌, ◌%◌, ◌^◌, ◌<◌, ◌≤◌, sym, ap, ◌∙◌, arith}
use Rattle.std.proofs.lemmas.Nat.{div-add-mod', mod_below, mul-le, div-mul-add, pow-add}
use Rattle.std.proofs.Math.Nat.{le_of_mul-le-mul_right, mul-le-mul_right}

-- the quotient of a fraction that is at most 1
pub quotient_small : (q r num den p : ℕ) → q * den + r ≡ num * p → num ≤ den → 0 < den → q ≤ p
quotient_small q r num den p e h pos =
    let most : num * p ≤ den * p = mul-le num p den p h (omega arith) in
    let all : q * den ≤ p * den = omega arith in
    le_of_mul-le-mul_right all pos

pub digit_more : (q r num den k : ℕ) → q * den + r ≡ num * 10 ^ k → (q * 10 + r * 10 / den) * den + r * 10 % den ≡ num * 10 ^ (k + 1)
digit_more q r num den k e =
    let split = div-add-mod' (r * 10) den in
    let power : 10 ^ (k + 1) ≡ 10 ^ k * 10 = pow-add 10 k 1 in
    let right : num * 10 ^ (k + 1) ≡ num * 10 ^ k * 10 = ap (λ (n : ℕ). num * n) power ∙ omega arith in
    omega arith

pub quotient_is : (q r num den : ℕ) → q * den + r ≡ num * 1000000000000 → r < den → q ≡ num * 1000000000000 / den
quotient_is q r num den e h = sym (ap (λ (n : ℕ). n / den) (sym e) ∙ div-mul-add q den r h)

-- a quotient of a fraction that is at most 1
pub at_most_one : (num den : ℕ) → num ≤ den → 0 < den → num * 1000000000000 / den ≤ 1000000000000
at_most_one num den h some = quotient_small (num * 1000000000000 / den) (num * 1000000000000 % den) num den 1000000000000 (div-add-mod' (num * 1000000000000) den) h some

-- six digits, and six more of the rest
pub six_and_six : (num den : ℕ) → 0 < den → num * 1000000 / den * 1000000 + (num * 1000000 - num * 1000000 / den * den) * 1000000 / den ≡ num * 1000000000000 / den
six_and_six num den some =
    let front = num * 1000000 / den in
    let rest = num * 1000000 - num * 1000000 / den * den in
    let first = div-add-mod' (num * 1000000) den in
    let second = div-add-mod' (rest * 1000000) den in
    quotient_is (front * 1000000 + rest * 1000000 / den) (rest * 1000000 % den) num den (omega (arith, first, second)) (mod_below (rest * 1000000) den some)

-- the root of the quotient a / d, by what it has at a and d
pub record IsRootOf (r a d : ℕ) : Type 0 where
  pub within : r * r * d ≤ a
  pub greatest : a < (r + 1) * (r + 1) * d

pub root_of_quotient : (r q a d : ℕ) → 0 < d → q ≡ a / d → r * r ≤ q → q < (r + 1) * (r + 1) → IsRootOf r a d
root_of_quotient r q a d some e low high =
    let split = div-add-mod' a d in
    let rest = mod_below a d some in
    let same : q * d ≡ a / d * d = ap (λ (n : ℕ). n * d) e in
    let under : r * r * d ≤ q * d = mul-le-mul_right d low in
    let over : (q + 1) * d ≤ (r + 1) * (r + 1) * d = mul-le-mul_right d (omega arith) in
    let more : (q + 1) * d ≡ q * d + d = omega arith in
    record { within = omega arith; greatest = omega arith }
