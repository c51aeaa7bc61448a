-- The sums of the powers of numbers that are each k less.
use Rattle.std.proofs.Common.{◌≡◌, ℕ, ◌+◌, ◌-◌, ◌*◌, ◌≤◌, List, [], ◌∷◌, length, map, ℤ, pos, ◌+ℤ◌, ◌-ℤ◌, ap, ◌∙◌, refl, sym, arith}
use Rattle.std.specs.List.{sum_by}
use Rattle.std.proofs.lemmas.List.Sums.{sum_by-cons}
use Rattle.mls_model.specs.Numbers.{sum_ints, square, cube}
use Rattle.mls_model.specs.Statistics.{total, squares, cubes, fourths}
use Rattle.mls_power.proofs.Differences.{IsDifference, natural, product, one_number, sum_difference}
use Rattle.mls_power.proofs.Translates.{lower, lower_by, total_lower}

-- ---- each less by nothing
pub sum-pos : (f : ℤ → ℤ) (g : ℕ → ℕ) → ((x : ℕ) → f (pos x) ≡ pos (g x)) → (ns : List ℕ) → sum_ints f (map pos ns) ≡ pos (sum_by g ns)
sum-pos f g each [] = refl
sum-pos f g each (x ∷ ns) = ap (λ (z : ℤ). z +ℤ sum_ints f (map pos ns)) (each x) ∙ (ap (λ (z : ℤ). pos (g x) +ℤ z) (sum-pos f g each ns) ∙ ap pos (sym (sum_by-cons g x ns)))

-- ---- each less by k
square_lower : (k x : ℕ) → IsDifference (square (lower k x)) (x * x + k * k) (x * k + k * x)
square_lower k x = product (lower k x) (lower k x) x k x k (lower_by k x) (lower_by k x)

cube_lower : (k x : ℕ) → IsDifference (cube (lower k x)) (x * (x * x + k * k) + k * (x * k + k * x)) (x * (x * k + k * x) + k * (x * x + k * k))
cube_lower k x = product (lower k x) (square (lower k x)) x k (x * x + k * k) (x * k + k * x) (lower_by k x) (square_lower k x)

fourth_lower : (k x : ℕ) → IsDifference (square (square (lower k x))) ((x * x + k * k) * (x * x + k * k) + (x * k + k * x) * (x * k + k * x)) ((x * x + k * k) * (x * k + k * x) + (x * k + k * x) * (x * x + k * k))
fourth_lower k x = product (square (lower k x)) (square (lower k x)) (x * x + k * k) (x * k + k * x) (x * x + k * k) (x * k + k * x) (square_lower k x) (square_lower k x)

abbrev s1 : List ℕ → ℕ
s1 ns = sum_by (λ w. w) ns

abbrev s2 : List ℕ → ℕ
s2 ns = sum_by (λ w. w * w) ns

abbrev s3 : List ℕ → ℕ
s3 ns = sum_by (λ w. w * w * w) ns

abbrev s4 : List ℕ → ℕ
s4 ns = sum_by (λ w. w * w * (w * w)) ns

squares_up : (k : ℕ) (ns : List ℕ) → sum_by (λ x. x * x + k * k) ns ≡ s2 ns + length ns * (k * k)
squares_up k [] = omega arith
squares_up k (x ∷ ns) = rw (sum_by-cons (λ y. y * y + k * k) x ns, sum_by-cons (λ w. w * w) x ns) (omega (arith, squares_up k ns))

squares_down : (k : ℕ) (ns : List ℕ) → sum_by (λ x. x * k + k * x) ns ≡ 2 * (k * s1 ns)
squares_down k [] = omega arith
squares_down k (x ∷ ns) = rw (sum_by-cons (λ y. y * k + k * y) x ns, sum_by-cons (λ w. w) x ns) (omega (arith, squares_down k ns))

cubes_up : (k : ℕ) (ns : List ℕ) → sum_by (λ x. x * (x * x + k * k) + k * (x * k + k * x)) ns ≡ s3 ns + 3 * (k * k * s1 ns)
cubes_up k [] = omega arith
cubes_up k (x ∷ ns) = rw (sum_by-cons (λ y. y * (y * y + k * k) + k * (y * k + k * y)) x ns, sum_by-cons (λ w. w * w * w) x ns, sum_by-cons (λ w. w) x ns) (omega (arith, cubes_up k ns))

cubes_down : (k : ℕ) (ns : List ℕ) → sum_by (λ x. x * (x * k + k * x) + k * (x * x + k * k)) ns ≡ 3 * (k * s2 ns) + length ns * (k * k * k)
cubes_down k [] = omega arith
cubes_down k (x ∷ ns) = rw (sum_by-cons (λ y. y * (y * k + k * y) + k * (y * y + k * k)) x ns, sum_by-cons (λ w. w * w) x ns) (omega (arith, cubes_down k ns))

fourths_up : (k : ℕ) (ns : List ℕ) → sum_by (λ x. (x * x + k * k) * (x * x + k * k) + (x * k + k * x) * (x * k + k * x)) ns ≡ s4 ns + 6 * (k * k * s2 ns) + length ns * (k * k * k * k)
fourths_up k [] = omega arith
fourths_up k (x ∷ ns) = rw (sum_by-cons (λ y. (y * y + k * k) * (y * y + k * k) + (y * k + k * y) * (y * k + k * y)) x ns, sum_by-cons (λ w. w * w * (w * w)) x ns, sum_by-cons (λ w. w * w) x ns) (omega (arith, fourths_up k ns))

fourths_down : (k : ℕ) (ns : List ℕ) → sum_by (λ x. (x * x + k * k) * (x * k + k * x) + (x * k + k * x) * (x * x + k * k)) ns ≡ 4 * (k * s3 ns) + 4 * (k * k * k * s1 ns)
fourths_down k [] = omega arith
fourths_down k (x ∷ ns) = rw (sum_by-cons (λ y. (y * y + k * k) * (y * k + k * y) + (y * k + k * y) * (y * y + k * k)) x ns, sum_by-cons (λ w. w * w * w) x ns, sum_by-cons (λ w. w) x ns) (omega (arith, fourths_down k ns))

-- ---- from the number and the power sums of a list
pub record AreSums (n p1 p2 p3 p4 : ℕ) (ns : List ℕ) : Type 0 where
  pub count : n ≡ length ns
  pub first : p1 ≡ s1 ns
  pub second : p2 ≡ s2 ns
  pub third : p3 ≡ s3 ns
  pub fourth : p4 ≡ s4 ns

pub first_lower : (k n p1 p2 p3 p4 : ℕ) (ns : List ℕ) → AreSums n p1 p2 p3 p4 ns → pos p1 -ℤ pos (k * n) ≡ total (map (lower k) ns)
first_lower k n p1 p2 p3 p4 ns are = one_number _ _ _ _ _ _ (lower_by (k * n) p1) (total_lower k ns) (omega (arith, are.first, ap (λ j. j * k) are.count))

pub second_lower : (k n p1 p2 p3 p4 : ℕ) (ns : List ℕ) → AreSums n p1 p2 p3 p4 ns → 2 * k * p1 ≤ p2 + k * k * n → pos (p2 + k * k * n - 2 * k * p1) ≡ squares (map (lower k) ns)
second_lower k n p1 p2 p3 p4 ns are some =
    let whole = sum_difference square (lower k) (λ x. x * x + k * k) (λ x. x * k + k * x) (square_lower k) ns in
    one_number _ _ _ _ _ _ (natural (p2 + k * k * n - 2 * k * p1)) whole (omega (arith, squares_up k ns, squares_down k ns, are.second, ap (λ j. k * j) are.first, ap (λ j. j * (k * k)) are.count))

pub second_difference : (k n p1 p2 p3 p4 : ℕ) (ns : List ℕ) → AreSums n p1 p2 p3 p4 ns → pos (p2 + k * k * n) -ℤ pos (2 * k * p1) ≡ squares (map (lower k) ns)
second_difference k n p1 p2 p3 p4 ns are =
    let whole = sum_difference square (lower k) (λ x. x * x + k * k) (λ x. x * k + k * x) (square_lower k) ns in
    one_number _ _ _ _ _ _ (lower_by (2 * k * p1) (p2 + k * k * n)) whole (omega (arith, squares_up k ns, squares_down k ns, are.second, ap (λ j. k * j) are.first, ap (λ j. j * (k * k)) are.count))

pub third_lower : (k n p1 p2 p3 p4 : ℕ) (ns : List ℕ) → AreSums n p1 p2 p3 p4 ns → pos (p3 + 3 * k * k * p1) -ℤ pos (3 * k * p2 + k * k * k * n) ≡ cubes (map (lower k) ns)
third_lower k n p1 p2 p3 p4 ns are =
    let whole = sum_difference cube (lower k) (λ x. x * (x * x + k * k) + k * (x * k + k * x)) (λ x. x * (x * k + k * x) + k * (x * x + k * k)) (cube_lower k) ns in
    one_number _ _ _ _ _ _ (lower_by (3 * k * p2 + k * k * k * n) (p3 + 3 * k * k * p1)) whole (omega (arith, cubes_up k ns, cubes_down k ns, are.third, ap (λ j. k * j) are.second, ap (λ j. k * k * j) are.first, ap (λ j. j * (k * k * k)) are.count))

pub fourth_lowered : (k n p1 p2 p3 p4 : ℕ) (ns : List ℕ) → AreSums n p1 p2 p3 p4 ns → pos (p4 + 6 * k * k * p2 + k * k * k * k * n) -ℤ pos (4 * k * p3 + 4 * k * k * k * p1) ≡ fourths (map (lower k) ns)
fourth_lowered k n p1 p2 p3 p4 ns are =
    let whole = sum_difference (λ w. square (square w)) (lower k) (λ x. (x * x + k * k) * (x * x + k * k) + (x * k + k * x) * (x * k + k * x)) (λ x. (x * x + k * k) * (x * k + k * x) + (x * k + k * x) * (x * x + k * k)) (fourth_lower k) ns in
    one_number _ _ _ _ _ _ (lower_by (4 * k * p3 + 4 * k * k * k * p1) (p4 + 6 * k * k * p2 + k * k * k * k * n)) whole (omega (arith, fourths_up k ns, fourths_down k ns, are.fourth, ap (λ j. k * k * j) are.second, ap (λ j. k * j) are.third, ap (λ j. k * k * k * j) are.first, ap (λ j. j * (k * k * k * k)) are.count))
