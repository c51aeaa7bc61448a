-- The two-pass sums of squares and cubes of deviations, in power sums.
use Rattle.std.proofs.Common.{◌≡◌, ℕ, ◌+◌, ◌*◌, ◌/◌, ◌<◌, List, [], ◌∷◌, length, map, ℤ, pos, ◌+ℤ◌, ◌-ℤ◌, ◌*ℤ◌, ap, ◌∙◌, refl, sym, subst, arith}
use Rattle.std.specs.List.{sum_by}
use Rattle.std.proofs.lemmas.Int.{ints}
use Rattle.std.proofs.lemmas.List.Sums.{sum_by-cons}
use Rattle.std.proofs.lemmas.List.{length-map}
use Rattle.std.specs.Int.RustNames.{int_div}
use Rattle.std.proofs.Math.Nat.{mul-div_cancel_left}
use borrow.Author.Differences.{up, down, same_in, product_is, quot_is}
use Rattle.mls_model.specs.Numbers.{sum_ints, square, cube}
use Rattle.mls_model.specs.Statistics.{size, total, deviation, variance_top, third_top}
use Rattle.mls_power.proofs.Differences.{IsDifference, natural, minus, product, one_number, sum_difference}

-- n · x less c
away : (n c x : ℕ) → IsDifference ((pos n *ℤ pos x) -ℤ pos c) (n * x) c
away n c x = record { balance = omega (arith, ints) }

square_away : (n c x : ℕ) → IsDifference (square ((pos n *ℤ pos x) -ℤ pos c)) (n * x * (n * x) + c * c) (n * x * c + c * (n * x))
square_away n c x = let z = (pos n *ℤ pos x) -ℤ pos c in product z z (n * x) c (n * x) c (away n c x) (away n c x)

squares_up : (n c : ℕ) (ns : List ℕ) → sum_by (λ x. n * x * (n * x) + c * c) ns ≡ n * n * sum_by (λ x. x * x) ns + length ns * (c * c)
squares_up n c [] = omega arith
squares_up n c (x ∷ ns) = rw (sum_by-cons (λ y. n * y * (n * y) + c * c) x ns, sum_by-cons (λ y. y * y) x ns) (omega (arith, squares_up n c ns))

squares_down : (n c : ℕ) (ns : List ℕ) → sum_by (λ x. n * x * c + c * (n * x)) ns ≡ 2 * (n * c * sum_by (λ x. x) ns)
squares_down n c [] = omega arith
squares_down n c (x ∷ ns) = rw (sum_by-cons (λ y. n * y * c + c * (n * y)) x ns, sum_by-cons (λ y. y) x ns) (omega (arith, squares_down n c ns))

cube_away : (n c x : ℕ) → IsDifference (cube ((pos n *ℤ pos x) -ℤ pos c)) (n * x * (n * x * (n * x) + c * c) + c * (n * x * c + c * (n * x))) (n * x * (n * x * c + c * (n * x)) + c * (n * x * (n * x) + c * c))
cube_away n c x =
    let z = (pos n *ℤ pos x) -ℤ pos c in
    product z (square z) (n * x) c (n * x * (n * x) + c * c) (n * x * c + c * (n * x)) (away n c x) (square_away n c x)

cubes_up : (n c : ℕ) (ns : List ℕ) → sum_by (λ x. n * x * (n * x * (n * x) + c * c) + c * (n * x * c + c * (n * x))) ns ≡ n * n * n * sum_by (λ x. x * x * x) ns + 3 * (n * c * c * sum_by (λ x. x) ns)
cubes_up n c [] = omega arith
cubes_up n c (x ∷ ns) = rw (sum_by-cons (λ y. n * y * (n * y * (n * y) + c * c) + c * (n * y * c + c * (n * y))) x ns, sum_by-cons (λ y. y * y * y) x ns, sum_by-cons (λ y. y) x ns) (omega (arith, cubes_up n c ns))

cubes_down : (n c : ℕ) (ns : List ℕ) → sum_by (λ x. n * x * (n * x * c + c * (n * x)) + c * (n * x * (n * x) + c * c)) ns ≡ 3 * (n * n * c * sum_by (λ x. x * x) ns) + length ns * (c * c * c)
cubes_down n c [] = omega arith
cubes_down n c (x ∷ ns) = rw (sum_by-cons (λ y. n * y * (n * y * c + c * (n * y)) + c * (n * y * (n * y) + c * c)) x ns, sum_by-cons (λ y. y * y) x ns) (omega (arith, cubes_down n c ns))

pub total-pos : (ns : List ℕ) → total (map pos ns) ≡ pos (sum_by (λ x. x) ns)
total-pos [] = refl
total-pos (x ∷ ns) = ap (λ (z : ℤ). pos x +ℤ z) (total-pos ns) ∙ ap pos (sym (sum_by-cons (λ y. y) x ns))

-- V and U in power sums of n numbers
abbrev pub variance_form : ℕ → ℕ → ℕ → ℤ
variance_form n p1 p2 = pos (n * p2) -ℤ pos (p1 * p1)

abbrev pub third_form : ℕ → ℕ → ℕ → ℕ → ℤ
third_form n p1 p2 p3 = pos (n * n * p3 + 2 * (p1 * p1 * p1)) -ℤ pos (3 * (n * p1 * p2))

squares_are : (n c : ℕ) (ns : List ℕ) → n ≡ length ns → c ≡ sum_by (λ x. x) ns → sum_ints (λ w. square ((pos n *ℤ w) -ℤ pos c)) (map pos ns) ≡ pos n *ℤ variance_form n c (sum_by (λ x. x * x) ns)
squares_are n c ns count first =
    let p2 = sum_by (λ x. x * x) ns in
    let whole = sum_difference (λ w. square ((pos n *ℤ w) -ℤ pos c)) pos (λ x. n * x * (n * x) + c * c) (λ x. n * x * c + c * (n * x)) (square_away n c) ns in
    let form = minus (pos (n * p2)) (pos (c * c)) (n * p2) 0 (c * c) 0 (natural (n * p2)) (natural (c * c)) in
    let times = product (pos n) (variance_form n c p2) n 0 (n * p2 + 0) (0 + c * c) (natural n) form in
    one_number _ _ _ _ _ _ whole times (omega (arith, squares_up n c ns, squares_down n c ns, ap (λ k. k * (c * c)) count, ap (λ k. n * c * k) first))

cubes_are : (n c : ℕ) (ns : List ℕ) → n ≡ length ns → c ≡ sum_by (λ x. x) ns → sum_ints (λ w. cube ((pos n *ℤ w) -ℤ pos c)) (map pos ns) ≡ pos n *ℤ third_form n c (sum_by (λ x. x * x) ns) (sum_by (λ x. x * x * x) ns)
cubes_are n c ns count first =
    let p2 = sum_by (λ x. x * x) ns in
    let p3 = sum_by (λ x. x * x * x) ns in
    let over = n * n * p3 + 2 * (c * c * c) in
    let under = 3 * (n * c * p2) in
    let whole = sum_difference (λ w. cube ((pos n *ℤ w) -ℤ pos c)) pos (λ x. n * x * (n * x * (n * x) + c * c) + c * (n * x * c + c * (n * x))) (λ x. n * x * (n * x * c + c * (n * x)) + c * (n * x * (n * x) + c * c)) (cube_away n c) ns in
    let form = minus (pos over) (pos under) over 0 under 0 (natural over) (natural under) in
    let times = product (pos n) (third_form n c p2 p3) n 0 (over + 0) (0 + under) (natural n) form in
    one_number _ _ _ _ _ _ whole times (omega (arith, cubes_up n c ns, cubes_down n c ns, ap (λ k. k * (c * c * c)) count, ap (λ k. n * c * c * k) first))

dividing : (n : ℕ) (v : ℤ) → 0 < n → int_div (pos n *ℤ v) (pos n) ≡ v
dividing n v some =
    let parts = product_is (pos n) v in
    let above : up (pos n *ℤ v) / n ≡ up v = ap (λ k. k / n) (let e : up (pos n *ℤ v) ≡ n * up v = omega (arith, parts) in e) ∙ mul-div_cancel_left (up v) some in
    let below : down (pos n *ℤ v) / n ≡ down v = ap (λ k. k / n) (let e : down (pos n *ℤ v) ≡ n * down v = omega (arith, parts) in e) ∙ mul-div_cancel_left (down v) some in
    same_in (int_div (pos n *ℤ v) (pos n)) v (omega (arith, quot_is (pos n *ℤ v) n, above, below))

size-pos : (ns : List ℕ) → size (map pos ns) ≡ pos (length ns)
size-pos ns = ap pos (length-map ns pos)

-- the two-pass sums over a list of natural numbers
pub squares-pos : (ns : List ℕ) → sum_ints (λ w. square (deviation (map pos ns) w)) (map pos ns) ≡ size (map pos ns) *ℤ variance_form (length ns) (sum_by (λ x. x) ns) (sum_by (λ x. x * x) ns)
squares-pos ns =
    let form = variance_form (length ns) (sum_by (λ x. x) ns) (sum_by (λ x. x * x) ns) in
    let Family : ℤ → ℤ → Type 0 = λ s t. sum_ints (λ w. square ((s *ℤ w) -ℤ t)) (map pos ns) ≡ s *ℤ form in
    subst (λ (s : ℤ). Family s (total (map pos ns))) (sym (size-pos ns)) (subst (λ (t : ℤ). Family (pos (length ns)) t) (sym (total-pos ns)) (squares_are (length ns) (sum_by (λ x. x) ns) ns refl refl))

pub cubes-pos : (ns : List ℕ) → sum_ints (λ w. cube (deviation (map pos ns) w)) (map pos ns) ≡ size (map pos ns) *ℤ third_form (length ns) (sum_by (λ x. x) ns) (sum_by (λ x. x * x) ns) (sum_by (λ x. x * x * x) ns)
cubes-pos ns =
    let form = third_form (length ns) (sum_by (λ x. x) ns) (sum_by (λ x. x * x) ns) (sum_by (λ x. x * x * x) ns) in
    let Family : ℤ → ℤ → Type 0 = λ s t. sum_ints (λ w. cube ((s *ℤ w) -ℤ t)) (map pos ns) ≡ s *ℤ form in
    subst (λ (s : ℤ). Family s (total (map pos ns))) (sym (size-pos ns)) (subst (λ (t : ℤ). Family (pos (length ns)) t) (sym (total-pos ns)) (cubes_are (length ns) (sum_by (λ x. x) ns) ns refl refl))

-- V and U of a list of natural numbers
pub variance-pos : (ns : List ℕ) → variance_top (map pos ns) ≡ variance_form (length ns) (sum_by (λ x. x) ns) (sum_by (λ x. x * x) ns)
unfolding variance_top
variance-pos [] = refl
variance-pos (x ∷ ns) = ap (λ (z : ℤ). int_div z (size (map pos (x ∷ ns)))) (squares-pos (x ∷ ns)) ∙ dividing (length (map pos (x ∷ ns))) _ (omega arith)

pub third-pos : (ns : List ℕ) → third_top (map pos ns) ≡ third_form (length ns) (sum_by (λ x. x) ns) (sum_by (λ x. x * x) ns) (sum_by (λ x. x * x * x) ns)
unfolding third_top
third-pos [] = refl
third-pos (x ∷ ns) = ap (λ (z : ℤ). int_div z (size (map pos (x ∷ ns)))) (cubes-pos (x ∷ ns)) ∙ dividing (length (map pos (x ∷ ns))) _ (omega arith)
