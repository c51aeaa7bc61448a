-- The two-pass covariance of two columns, in sums of their samples and products.
use Rattle.std.proofs.Common.{◌≡◌, ℕ, ◌+◌, ◌*◌, List, [], ◌∷◌, length, map, ℤ, pos, ◌+ℤ◌, ◌-ℤ◌, ◌*ℤ◌, ap, ◌∙◌, refl, sym, subst, arith}
use Rattle.std.specs.List.{sum_by}
use Rattle.std.specs.Int.RustNames.{int_div}
use Rattle.std.proofs.lemmas.List.{length-map}
use Rattle.std.proofs.lemmas.List.Sums.{sum_by-cons}
use Rattle.mls_model.specs.Numbers.{sum_ints}
use Rattle.mls_model.specs.Statistics.{size, total, deviation, sum_pairs, covariance_top}
use Rattle.mls_cov.proofs.Differences.{IsDifference, natural, minus, product, one_number, also, sum_difference, dividing}

sum_of_pairs : {R : Type 0} (h : ℤ → ℤ → ℤ) (x y : R → ℤ) (rows : List R) → sum_pairs h (map x rows) (map y rows) ≡ sum_ints (λ r. h (x r) (y r)) rows
sum_of_pairs h x y [] = refl
sum_of_pairs h x y (r ∷ rows) = ap (λ (z : ℤ). h (x r) (y r) +ℤ z) (sum_of_pairs h x y rows)

sum_of_same : {R : Type 0} (k : ℕ) (rows : List R) → sum_by (λ r. k) rows ≡ length rows * k
sum_of_same k [] = omega arith
sum_of_same k (r ∷ rows) = rw (sum_by-cons (λ y. k) r rows) (omega (arith, sum_of_same k rows))

total_map : {R : Type 0} (x : R → ℤ) (rows : List R) → total (map x rows) ≡ sum_ints x rows
total_map x [] = refl
total_map x (r ∷ rows) = ap (λ (z : ℤ). x r +ℤ z) (total_map x rows)

-- the covariance in one pass
abbrev pub form : ℕ → ℕ → ℕ → ℕ → ℤ
form n x y xy = pos (n * xy) -ℤ pos (x * y)

products_up : {R : Type 0} (n c d : ℕ) (f g : R → ℕ) (rows : List R) → sum_by (λ r. n * f r * (n * g r) + c * d) rows ≡ n * n * sum_by (λ r. f r * g r) rows + length rows * (c * d)
products_up n c d f g [] = omega arith
products_up n c d f g (r ∷ rows) = rw (sum_by-cons (λ r. n * f r * (n * g r) + c * d) r rows, sum_by-cons (λ r. f r * g r) r rows) (omega (arith, products_up n c d f g rows))

products_down : {R : Type 0} (n c d : ℕ) (f g : R → ℕ) (rows : List R) → sum_by (λ r. n * f r * d + c * (n * g r)) rows ≡ n * d * sum_by f rows + n * c * sum_by g rows
products_down n c d f g [] = omega arith
products_down n c d f g (r ∷ rows) = rw (sum_by-cons (λ r. n * f r * d + c * (n * g r)) r rows, sum_by-cons f r rows, sum_by-cons g r rows) (omega (arith, products_down n c d f g rows))

-- values are natural numbers less k
module _ {R : Type 0} (k : ℕ) (u : ℕ → ℤ) (each : (x : ℕ) → IsDifference (u x) x k) (rows : List R) where
  size_of : (f : R → ℕ) → size (map (λ r. u (f r)) rows) ≡ pos (length rows)
  size_of f = ap pos (length-map rows (λ r. u (f r)))

  total_of : (f : R → ℕ) → IsDifference (total (map (λ r. u (f r)) rows)) (sum_by f rows) (length rows * k)
  total_of f =
      let whole = sum_difference (λ r. u (f r)) f (λ r. k) (λ r. each (f r)) rows in
      subst (λ (z : ℤ). IsDifference z (sum_by f rows) (length rows * k)) (sym (total_map (λ r. u (f r)) rows)) (record { balance = omega (arith, whole.balance, sum_of_same {R = R} k rows) })

  deviation_of : (f : R → ℕ) (r : R) → IsDifference (deviation (map (λ r. u (f r)) rows) (u (f r))) (length rows * f r) (sum_by f rows)
  deviation_of f r =
      let n = length rows in
      let t = total (map (λ r. u (f r)) rows) in
      let scaled = product (pos n) (u (f r)) n 0 (f r) k (natural n) (each (f r)) in
      let apart = minus (pos n *ℤ u (f r)) t (n * f r + 0 * k) (n * k + 0 * f r) (sum_by f rows) (n * k) scaled (total_of f) in
      let plain : IsDifference ((pos n *ℤ u (f r)) -ℤ t) (n * f r) (sum_by f rows) = also _ _ _ _ _ apart (omega arith) in
      subst (λ (s : ℤ). IsDifference ((s *ℤ u (f r)) -ℤ t) (n * f r) (sum_by f rows)) (sym (size_of f)) plain

  products_are : (f g : R → ℕ) → sum_pairs (λ x y. deviation (map (λ r. u (f r)) rows) x *ℤ deviation (map (λ r. u (g r)) rows) y) (map (λ r. u (f r)) rows) (map (λ r. u (g r)) rows) ≡ pos (length rows) *ℤ form (length rows) (sum_by f rows) (sum_by g rows) (sum_by (λ r. f r * g r) rows)
  products_are f g =
      let n = length rows in
      let c = sum_by f rows in
      let d = sum_by g rows in
      let xy = sum_by (λ r. f r * g r) rows in
      let xs = map (λ r. u (f r)) rows in
      let ys = map (λ r. u (g r)) rows in
      let term : (r : R) → IsDifference (deviation xs (u (f r)) *ℤ deviation ys (u (g r))) (n * f r * (n * g r) + c * d) (n * f r * d + c * (n * g r)) = λ r. product _ _ _ _ _ _ (deviation_of f r) (deviation_of g r) in
      let whole = sum_difference (λ r. deviation xs (u (f r)) *ℤ deviation ys (u (g r))) (λ r. n * f r * (n * g r) + c * d) (λ r. n * f r * d + c * (n * g r)) term rows in
      let apart = minus (pos (n * xy)) (pos (c * d)) (n * xy) 0 (c * d) 0 (natural (n * xy)) (natural (c * d)) in
      let times = product (pos n) (form n c d xy) n 0 (n * xy + 0) (0 + c * d) (natural n) apart in
      sum_of_pairs (λ x y. deviation xs x *ℤ deviation ys y) (λ r. u (f r)) (λ r. u (g r)) rows
      ∙ one_number _ _ _ _ _ _ whole times (omega (arith, products_up n c d f g rows, products_down n c d f g rows))

pub covariance_form : {R : Type 0} (k : ℕ) (u : ℕ → ℤ) → ((x : ℕ) → IsDifference (u x) x k) → (rows : List R) (f g : R → ℕ) → covariance_top (map (λ r. u (f r)) rows) (map (λ r. u (g r)) rows) ≡ form (length rows) (sum_by f rows) (sum_by g rows) (sum_by (λ r. f r * g r) rows)
unfolding covariance_top
covariance_form k u each [] f g = refl
covariance_form {R} k u each (r ∷ rows) f g =
    let all : List R = r ∷ rows in
    let value = form (length all) (sum_by f all) (sum_by g all) (sum_by (λ r. f r * g r) all) in
    ap (λ (z : ℤ). int_div z (size (map (λ r. u (f r)) all))) (products_are {R = R} k u each all f g)
    ∙ (ap (λ (s : ℤ). int_div (pos (length all) *ℤ value) s) (size_of {R = R} k u each all f) ∙ dividing (length all) value (omega arith))

pub covariance_whole : {R : Type 0} (k : ℕ) (u : ℕ → ℤ) → ((x : ℕ) → IsDifference (u x) x k) → (rows : List R) (f g : R → ℕ) → size (map (λ r. u (f r)) rows) *ℤ covariance_top (map (λ r. u (f r)) rows) (map (λ r. u (g r)) rows) ≡ sum_pairs (λ x y. deviation (map (λ r. u (f r)) rows) x *ℤ deviation (map (λ r. u (g r)) rows) y) (map (λ r. u (f r)) rows) (map (λ r. u (g r)) rows)
covariance_whole {R} k u each rows f g =
    ap (λ (s : ℤ). s *ℤ covariance_top (map (λ r. u (f r)) rows) (map (λ r. u (g r)) rows)) (size_of {R = R} k u each rows f)
    ∙ (ap (λ (z : ℤ). pos (length rows) *ℤ z) (covariance_form k u each rows f g) ∙ sym (products_are {R = R} k u each rows f g))
