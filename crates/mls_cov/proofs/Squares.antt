-- Squares and products of distances, and the step of the inequality of Cauchy and Schwarz.
use Rattle.std.proofs.Common.{◌≡◌, ℕ, zero, suc, ◌+◌, ◌-◌, ◌*◌, ◌<◌, ◌≤◌, inl, inr, ap, ◌∙◌, arith, ◌⊎◌}
use Rattle.std.specs.Int.{abs_diff}
use Rattle.std.proofs.lemmas.Bool.{cases_lt}
use Rattle.std.proofs.lemmas.Nat.{mul-le}
use Rattle.std.proofs.Math.Nat.{le_of_mul-le-mul_left, mul-le-mul_left, mul-pos}

twice_by_gap : (a d : ℕ) → 2 * (a * (a + d)) ≤ a * a + (a + d) * (a + d)
twice_by_gap a d = omega arith

-- twice a product is at most the sum of the squares
pub twice_product : (a b : ℕ) → 2 * (a * b) ≤ a * a + b * b
twice_product a b = elim (cases_lt a b) [
  | inl h ↦ (let e : a + (b - a) ≡ b = omega arith in rw e at (twice_by_gap a (b - a)))
  | inr h ↦ (let e : b + (a - b) ≡ a = omega arith in let t = rw e at (twice_by_gap b (a - b)) in omega (arith, t))
]

-- the order of two numbers is that of their squares
pub below_by_squares : (a b : ℕ) → a * a ≤ b * b → a ≤ b
below_by_squares a b h = elim (cases_lt b a) [
  | inl lt ↦ (let more : (b + 1) * (b + 1) ≤ a * a = mul-le (b + 1) (b + 1) a a (omega arith) (omega arith) in omega arith)
  | inr le ↦ le
]

-- a number whose square is at most a product is at most half the sum of the factors
pub twice_mean : (z x y : ℕ) → z * z ≤ x * y → 2 * z ≤ x + y
twice_mean z x y h =
    let pairs = twice_product x y in
    let squares : (2 * z) * (2 * z) ≤ (x + y) * (x + y) = omega arith in
    below_by_squares (2 * z) (x + y) squares

-- the mixed term: q² ≤ d · e
pub mixed_term : (q d e f g : ℕ) → q * q ≤ d * e → 2 * (q * f * g) ≤ d * (g * g) + e * (f * f)
mixed_term q d e f g h =
    let scaled : q * q * (f * f * (g * g)) ≤ d * e * (f * f * (g * g)) = mul-le (q * q) (f * f * (g * g)) (d * e) (f * f * (g * g)) h (omega arith) in
    let whole : q * f * g * (q * f * g) ≤ d * (g * g) * (e * (f * f)) = omega arith in
    twice_mean (q * f * g) (d * (g * g)) (e * (f * f)) whole

-- Cauchy and Schwarz, once more: from q² ≤ d · e, with a product f · g
pub product_more : (m q d e f g : ℕ) → q * q ≤ d * e → (m * q + f * g) * (m * q + f * g) ≤ (m * d + f * f) * (m * e + g * g)
product_more m q d e f g h =
    let mixed : m * (2 * (q * f * g)) ≤ m * (d * (g * g) + e * (f * f)) = mul-le-mul_left m (mixed_term q d e f g h) in
    let scaled : m * m * (q * q) ≤ m * m * (d * e) = mul-le-mul_left (m * m) h in
    omega arith

-- a distance as a gap above or below
gap : (p x : ℕ) → (p ≡ x + abs_diff p x) ⊎ (x ≡ p + abs_diff p x)
gap p x = elim (cases_lt p x) [ inl h ↦ inr (omega arith) | inr h ↦ inl (omega arith) ]

pub product_of_gaps : (p x q y f g : ℕ) → (p ≡ x + f) ⊎ (x ≡ p + f) → (q ≡ y + g) ⊎ (y ≡ q + g) → f * g ≡ abs_diff (p * q + x * y) (p * y + x * q)
product_of_gaps p x q y f g (inl a) (inl b) = let e : p * q + x * y ≡ p * y + x * q + f * g = rw (a, b) (omega arith) in omega arith
product_of_gaps p x q y f g (inl a) (inr b) = let e : p * q + x * y + f * g ≡ p * y + x * q = rw (a, b) (omega arith) in omega arith
product_of_gaps p x q y f g (inr a) (inl b) = let e : p * q + x * y + f * g ≡ p * y + x * q = rw (a, b) (omega arith) in omega arith
product_of_gaps p x q y f g (inr a) (inr b) = let e : p * q + x * y ≡ p * y + x * q + f * g = rw (a, b) (omega arith) in omega arith

product_of_distances : (p x q y : ℕ) → abs_diff p x * abs_diff q y ≡ abs_diff (p * q + x * y) (p * y + x * q)
product_of_distances p x q y = product_of_gaps p x q y (abs_diff p x) (abs_diff q y) (gap p x) (gap q y)

square_of_gap : (p x f : ℕ) → (p ≡ x + f) ⊎ (x ≡ p + f) → f * f + 2 * (p * x) ≡ p * p + x * x
square_of_gap p x f (inl a) = rw a (omega arith)
square_of_gap p x f (inr a) = rw a (omega arith)

square_of_distance : (p x : ℕ) → abs_diff p x * abs_diff p x + 2 * (p * x) ≡ p * p + x * x
square_of_distance p x = square_of_gap p x (abs_diff p x) (gap p x)

scaled_gap : (k p x f : ℕ) → (p ≡ x + f) ⊎ (x ≡ p + f) → k * f ≡ abs_diff (k * p) (k * x)
scaled_gap k p x f (inl a) = let e : k * p ≡ k * x + k * f = ap (λ n. k * n) a ∙ omega arith in omega arith
scaled_gap k p x f (inr a) = let e : k * x ≡ k * p + k * f = ap (λ n. k * n) a ∙ omega arith in omega arith

scaled_distance : (k p x : ℕ) → k * abs_diff p x ≡ abs_diff (k * p) (k * x)
scaled_distance k p x = scaled_gap k p x (abs_diff p x) (gap p x)

triangle : (p q r s v w : ℕ) → p + s + w ≡ q + r + v → abs_diff p q ≤ abs_diff r s + abs_diff v w
triangle p q r s v w e = omega arith

-- n times the covariance of one more row is at most n + 1 times that before and the product of the distances
pub covariance_more : (n x y xy a b : ℕ) → n * abs_diff ((n + 1) * (xy + a * b)) ((x + a) * (y + b)) ≤ (n + 1) * abs_diff (n * xy) (x * y) + abs_diff (n * a) x * abs_diff (n * b) y
covariance_more n x y xy a b =
    let left = scaled_distance n ((n + 1) * (xy + a * b)) ((x + a) * (y + b)) in
    let before = scaled_distance (n + 1) (n * xy) (x * y) in
    let apart = product_of_distances (n * a) x (n * b) y in
    rw (left, before, apart) (triangle (n * ((n + 1) * (xy + a * b))) (n * ((x + a) * (y + b))) ((n + 1) * (n * xy)) ((n + 1) * (x * y)) (n * a * (n * b) + x * y) (n * a * y + x * (n * b)) (omega arith))

variance_step : (n x xx a d e f : ℕ) → d + x * x ≡ n * xx → e + (x + a) * (x + a) ≡ (n + 1) * (xx + a * a) → f * f + 2 * (n * a * x) ≡ n * a * (n * a) + x * x → n * e ≡ (n + 1) * d + f * f
variance_step n x xx a d e f before after square =
    let more : n * e + n * ((x + a) * (x + a)) ≡ n * ((n + 1) * (xx + a * a)) = (omega arith) ∙ ap (λ k. n * k) after in
    let less : (n + 1) * d + (n + 1) * (x * x) ≡ (n + 1) * (n * xx) = (omega arith) ∙ ap (λ k. (n + 1) * k) before in
    omega arith

-- n times the variance of one more sample
pub variance_more : (n x xx a : ℕ) → x * x ≤ n * xx → (x + a) * (x + a) ≤ (n + 1) * (xx + a * a) → n * ((n + 1) * (xx + a * a) - (x + a) * (x + a)) ≡ (n + 1) * (n * xx - x * x) + abs_diff (n * a) x * abs_diff (n * a) x
variance_more n x xx a before after = variance_step n x xx a (n * xx - x * x) ((n + 1) * (xx + a * a) - (x + a) * (x + a)) (abs_diff (n * a) x) (omega arith) (omega arith) (square_of_distance (n * a) x)

-- with one more number the square of the sum stays at most the count times the sum of the squares
pub spread_more : (n p q x : ℕ) → p * p ≤ n * q → (p + x) * (p + x) ≤ (n + 1) * (q + x * x)
spread_more zero zero q x h = omega arith
spread_more zero (suc p) q x h = absurd (omega arith)
spread_more (suc m) p q x h =
    let n = suc m in
    let scaled : n * (p * p) ≤ n * (n * q) = mul-le-mul_left n h in
    let mixed : 2 * (p * (n * x)) ≤ p * p + n * x * (n * x) = twice_product p (n * x) in
    let whole : n * ((p + x) * (p + x)) ≤ n * ((n + 1) * (q + x * x)) = omega arith in
    le_of_mul-le-mul_left whole (omega arith)

-- from n · c and n · d and n · e to c, d and e
divided : (n c r d e : ℕ) → 0 < n → n * c ≤ r → r * r ≤ n * d * (n * e) → c * c ≤ d * e
divided n c r d e some h k =
    let squares : n * c * (n * c) ≤ r * r = mul-le (n * c) (n * c) r r h h in
    let whole : n * n * (c * c) ≤ n * n * (d * e) = omega arith in
    le_of_mul-le-mul_left whole (mul-pos some some)

-- the square of the covariance stays at most the product of the variances
pub products_more : (n x xx y yy xy a b : ℕ) → 0 < n → x * x ≤ n * xx → y * y ≤ n * yy → abs_diff (n * xy) (x * y) * abs_diff (n * xy) (x * y) ≤ (n * xx - x * x) * (n * yy - y * y) → abs_diff ((n + 1) * (xy + a * b)) ((x + a) * (y + b)) * abs_diff ((n + 1) * (xy + a * b)) ((x + a) * (y + b)) ≤ ((n + 1) * (xx + a * a) - (x + a) * (x + a)) * ((n + 1) * (yy + b * b) - (y + b) * (y + b))
products_more n x xx y yy xy a b some first second h =
    let q = abs_diff (n * xy) (x * y) in
    let f = abs_diff (n * a) x in
    let g = abs_diff (n * b) y in
    let left = variance_more n x xx a first (spread_more n x xx a first) in
    let right = variance_more n y yy b second (spread_more n y yy b second) in
    divided n _ ((n + 1) * q + f * g) _ _ some (covariance_more n x y xy a b) (rw (left, right) (product_more (n + 1) q (n * xx - x * x) (n * yy - y * y) f g h))
