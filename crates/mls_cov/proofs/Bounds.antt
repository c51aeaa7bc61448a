-- What the rules say of the sums, and that one more row keeps them.
use Rattle.std.proofs.Common.{◌≡◌, ℕ, zero, suc, ◌+◌, ◌-◌, ◌*◌, ◌^◌, ◌<◌, ◌≤◌, List, arith}
use Rattle.std.proofs.lemmas.Nat.{mul-le}
use Rattle.std.proofs.Math.Nat.{le_of_mul-le-mul_left, mul-le-mul_left, mul-pos}
use Rattle.mls_cov.specs.Rules.{AreSums, AreProducts, KeepsRules, HasRoom, spread_top_in, covariance_top_in}
use Rattle.mls_cov.specs.Steps.{HasSpace, Grew}
use Rattle.mls_cov.proofs.Squares.{spread_more, products_more, mixed_term, below_by_squares, twice_product}

pub sums_more : (n x xx a : ℕ) → a ≤ 65535 → AreSums n x xx → AreSums (n + 1) (x + a) (xx + a * a)
sums_more n x xx a small h =
    let square : a * a ≤ 65535 * a = mul-le a a 65535 a small (omega arith) in
    record { first = omega (arith, h.first); second = omega (arith, h.second); spread = spread_more n x xx a h.spread }

first_products : (x xx y yy xy a b : ℕ) → AreSums 0 x xx → AreSums 0 y yy → AreProducts 0 x xx y yy xy → covariance_top_in (0 + 1) (x + a) (y + b) (xy + a * b) ≡ 0
first_products x xx y yy xy a b f s p =
    let e : x ≡ 0 = omega (arith, f.first) in
    let e' : y ≡ 0 = omega (arith, s.first) in
    let g : xy ≡ 0 = p.none (omega arith) in
    rw (e, e', g) (omega arith)

none_within : (c d : ℕ) → c ≡ 0 → c * c ≤ d
none_within c d e = rw e (omega arith)

pub next_products : (n x xx y yy xy a b : ℕ) → AreSums n x xx → AreSums n y yy → AreProducts n x xx y yy xy → AreProducts (n + 1) (x + a) (xx + a * a) (y + b) (yy + b * b) (xy + a * b)
next_products zero x xx y yy xy a b f s p = record {
  none = λ e. absurd (omega arith);
  within = none_within _ _ (first_products x xx y yy xy a b f s p);
}
next_products (suc m) x xx y yy xy a b f s p = record {
  none = λ e. absurd (omega arith);
  within = products_more (suc m) x xx y yy xy a b (omega arith) f.spread s.spread p.within;
}

-- ---- how large the sums are
pub variance_small : (n x xx : ℕ) → n ≤ 65535 → AreSums n x xx → n * xx - x * x < 2 ^ 62
variance_small n x xx few h =
    let top : n * xx ≤ n * (65535 * x) = mul-le-mul_left n h.second in
    let pairs = twice_product (65535 * n) (2 * x) in
    let square : n * n ≤ 65535 * 65535 = mul-le n n 65535 65535 few few in
    omega arith

below_product : (n xy t q d e xx yy x y : ℕ) → n * xy ≤ t + q → t ≡ x * y → q * q ≤ d * e → d + x * x ≡ n * xx → e + y * y ≡ n * yy → 0 < n → xy * xy ≤ xx * yy
below_product n xy t q d e xx yy x y h same within left right some =
    let mixed = mixed_term q d e x y within in
    let squares : n * xy * (n * xy) ≤ (x * y + q) * (x * y + q) = mul-le (n * xy) (n * xy) (x * y + q) (x * y + q) (omega arith) (omega arith) in
    let product : (d + x * x) * (e + y * y) ≡ n * xx * (n * yy) = rw (left, right) (omega arith) in
    let whole : n * n * (xy * xy) ≤ n * n * (xx * yy) = omega arith in
    le_of_mul-le-mul_left whole (mul-pos some some)

pub products_below : (n x xx y yy xy : ℕ) → AreSums n x xx → AreSums n y yy → AreProducts n x xx y yy xy → xy * xy ≤ xx * yy
products_below zero x xx y yy xy f s p = let e : xy ≡ 0 = p.none (omega arith) in rw e (omega arith)
products_below (suc m) x xx y yy xy f s p =
    below_product (suc m) xy (x * y) (covariance_top_in (suc m) x y xy) (spread_top_in (suc m) x xx) (spread_top_in (suc m) y yy) xx yy x y (omega arith) (omega arith) p.within (omega (arith, f.spread)) (omega (arith, s.spread)) (omega arith)

pub products_small : (n x xx y yy xy : ℕ) → n ≤ 65535 → AreSums n x xx → AreSums n y yy → AreProducts n x xx y yy xy → xy ≤ 281462092005375
products_small n x xx y yy xy few f s p =
    let left : xx ≤ 281462092005375 = omega (arith, f.first, f.second) in
    let right : yy ≤ 281462092005375 = omega (arith, s.first, s.second) in
    let whole : xx * yy ≤ 281462092005375 * 281462092005375 = mul-le xx yy 281462092005375 281462092005375 left right in
    let below = products_below n x xx y yy xy f s p in
    below_by_squares xy 281462092005375 (omega arith)

-- ---- a row more
pub space_from_room : (p : ℕ) (sums : List ℕ) → HasRoom p sums → HasSpace p sums
space_from_room p sums h =
    let r = h.rules in
    let few = h.few in
    record {
      outputs = record { first = omega (arith, r.a.first); second = omega (arith, r.b.first); third = omega (arith, r.a.first, r.a.second); fourth = omega (arith, r.b.first, r.b.second) };
      columns = λ k in_p. (
          let c = r.columns k in_p in
          record {
            first = omega (arith, c.sums_in.first);
            second = omega (arith, c.sums_in.first, c.sums_in.second);
            third = omega (arith, products_small h.count _ _ _ _ _ (omega arith) r.a c.sums_in c.with_a);
            fourth = omega (arith, products_small h.count _ _ _ _ _ (omega arith) r.b c.sums_in c.with_b);
          }
          );
    }

-- what a row adds to the sums, where `sample` gives its samples by number
pub record AddsRow (p : ℕ) (old new : List ℕ) (sample : ℕ → ℕ) : Type 0 where
  pub samples : (j : ℕ) → sample j ≤ 65535
  pub outputs : let a = sample 0 in let b = sample 1 in Grew 0 old new a b (a * a) (b * b)
  pub columns : (k : ℕ) → k < p → let a = sample 0 in let b = sample 1 in let c = sample (2 + k) in Grew (4 + 4 * k) old new c (c * c) (a * c) (b * c)

pub rules_more : (n p : ℕ) (old new : List ℕ) (sample : ℕ → ℕ) → AddsRow p old new sample → KeepsRules n p old → KeepsRules (n + 1) p new
rules_more n p old new sample adds h =
    let a = sample 0 in
    let b = sample 1 in
    let g = adds.outputs in
    record {
      a = rw (g.first, g.third) (sums_more n _ _ a (adds.samples 0) h.a);
      b = rw (g.second, g.fourth) (sums_more n _ _ b (adds.samples 1) h.b);
      columns = λ k in_p. (
          let c = sample (2 + k) in
          let column = h.columns k in_p in
          let grown = adds.columns k in_p in
          record {
            sums_in = rw (grown.first, grown.second) (sums_more n _ _ c (adds.samples (2 + k)) column.sums_in);
            with_a = rw (g.first, g.third, grown.first, grown.second, grown.third) (next_products n _ _ _ _ _ a c h.a column.sums_in column.with_a);
            with_b = rw (g.second, g.fourth, grown.first, grown.second, grown.fourth) (next_products n _ _ _ _ _ b c h.b column.sums_in column.with_b);
          }
          );
    }

-- ---- how large a covariance and a product of variances are
pub variances_small : (n x xx y yy : ℕ) → n ≤ 65535 → AreSums n x xx → AreSums n y yy → spread_top_in n x xx * spread_top_in n y yy ≤ 4611686018427387903 * 4611686018427387903
variances_small n x xx y yy few f s =
    let left = variance_small n x xx few f in
    let right = variance_small n y yy few s in
    mul-le (spread_top_in n x xx) (spread_top_in n y yy) 4611686018427387903 4611686018427387903 (omega arith) (omega arith)

pub covariance_small : (n x xx y yy xy : ℕ) → n ≤ 65535 → AreSums n x xx → AreSums n y yy → AreProducts n x xx y yy xy → covariance_top_in n x y xy ≤ 4611686018427387903
covariance_small n x xx y yy xy few f s p =
    let small = variances_small n x xx y yy few f s in
    let within = p.within in
    below_by_squares (covariance_top_in n x y xy) 4611686018427387903 (omega arith)
