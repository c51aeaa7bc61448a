-- The inequality of Cauchy and Schwarz for every list of rows.
use Rattle.std.proofs.Common.{◌≡◌, ℕ, zero, suc, ◌+◌, ◌*◌, ◌^◌, ◌<◌, ◌≤◌, List, [], ◌∷◌, length, map, Bool, ℤ, pos, ◌-ℤ◌, ◌∙◌, refl, subst, arith}
use Rattle.std.specs.List.{sum_by, AllByRecursion}
use Rattle.std.specs.Int.RustNames.{unsigned_abs}
use Rattle.std.proofs.lemmas.List.Sums.{sum_by-cons}
use Rattle.mls_model.specs.Statistics.{covariance_top, spread_top, column}
use Rattle.mls_cov.specs.Rules.{AreSums, spread_top_in, covariance_top_in}
use Rattle.mls_cov.proofs.Squares.{spread_more, products_more}
use Rattle.mls_cov.proofs.Differences.{IsDifference, abs_of_difference, lower_by}
use Rattle.mls_cov.proofs.Covariances.{form, covariance_form}
use Rattle.mls_cov.proofs.Bounds.{sums_more, variance_small}
use Rattle.mls_cov.proofs.RowColumns.{raised, depth, column_raised, column_map, shift_of, unshifted_is}
use Rattle.mls_model.specs.Samples.{unshifted}
use Rattle.mls_cov.specs.Sums.{sample}

-- what holds of the sums of two columns of n numbers
pub record AreBounded (n x xx y yy xy : ℕ) : Type 0 where
  pub none : n ≡ 0 → (x ≡ 0) × (y ≡ 0) × (xy ≡ 0)
  pub left : x * x ≤ n * xx
  pub right : y * y ≤ n * yy
  pub within : covariance_top_in n x y xy * covariance_top_in n x y xy ≤ spread_top_in n x xx * spread_top_in n y yy

first_within : (x y xy a b d : ℕ) → (x ≡ 0) × (y ≡ 0) × (xy ≡ 0) → covariance_top_in (0 + 1) (x + a) (y + b) (xy + a * b) * covariance_top_in (0 + 1) (x + a) (y + b) (xy + a * b) ≤ d
first_within x y xy a b d h =
    let e : covariance_top_in (0 + 1) (x + a) (y + b) (xy + a * b) ≡ 0 = rw (h.0, h.1, h.2) (omega arith) in
    rw e (omega arith)

bounded_next : (n x xx y yy xy a b : ℕ) → AreBounded n x xx y yy xy → AreBounded (n + 1) (x + a) (xx + a * a) (y + b) (yy + b * b) (xy + a * b)
bounded_next zero x xx y yy xy a b h = record {
  none = λ e. absurd (omega arith);
  left = spread_more 0 x xx a h.left;
  right = spread_more 0 y yy b h.right;
  within = first_within x y xy a b _ (h.none refl);
}
bounded_next (suc m) x xx y yy xy a b h = record {
  none = λ e. absurd (omega arith);
  left = spread_more (suc m) x xx a h.left;
  right = spread_more (suc m) y yy b h.right;
  within = products_more (suc m) x xx y yy xy a b (omega arith) h.left h.right h.within;
}

pub bounded_all : {R : Type 0} (rows : List R) (f g : R → ℕ) → AreBounded (length rows) (sum_by f rows) (sum_by (λ r. f r * f r) rows) (sum_by g rows) (sum_by (λ r. g r * g r) rows) (sum_by (λ r. f r * g r) rows)
bounded_all [] f g = record { none = λ e. (refl, refl, refl); left = omega arith; right = omega arith; within = omega arith }
bounded_all (r ∷ rows) f g =
    let n : length rows + 1 ≡ suc (length rows) = omega arith in
    let x : sum_by f rows + f r ≡ sum_by f (r ∷ rows) = omega (arith, sum_by-cons f r rows) in
    let xx : sum_by (λ r. f r * f r) rows + f r * f r ≡ sum_by (λ r. f r * f r) (r ∷ rows) = omega (arith, sum_by-cons (λ r. f r * f r) r rows) in
    let y : sum_by g rows + g r ≡ sum_by g (r ∷ rows) = omega (arith, sum_by-cons g r rows) in
    let yy : sum_by (λ r. g r * g r) rows + g r * g r ≡ sum_by (λ r. g r * g r) (r ∷ rows) = omega (arith, sum_by-cons (λ r. g r * g r) r rows) in
    let xy : sum_by (λ r. f r * g r) rows + f r * g r ≡ sum_by (λ r. f r * g r) (r ∷ rows) = omega (arith, sum_by-cons (λ r. f r * g r) r rows) in
    rw (← n, ← x, ← xx, ← y, ← yy, ← xy) (bounded_next (length rows) (sum_by f rows) _ (sum_by g rows) _ _ (f r) (g r) (bounded_all rows f g))

-- the same of covariances
pub abs_form : (n x y xy : ℕ) → unsigned_abs (form n x y xy) ≡ covariance_top_in n x y xy
abs_form n x y xy = abs_of_difference (n * xy) (x * y)

pub abs_variance : (n x xx : ℕ) → x * x ≤ n * xx → unsigned_abs (form n x x xx) ≡ spread_top_in n x xx
abs_variance n x xx h = abs_of_difference (n * xx) (x * x) ∙ omega arith

schwarz_forms : (c : ℤ) (v w : ℤ) (n x xx y yy xy : ℕ) → c ≡ form n x y xy → v ≡ form n x x xx → w ≡ form n y y yy → AreBounded n x xx y yy xy → unsigned_abs c * unsigned_abs c ≤ unsigned_abs v * unsigned_abs w
schwarz_forms c v w n x xx y yy xy e f g h = rw (e, f, g, abs_form n x y xy, abs_variance n x xx h.left, abs_variance n y yy h.right) h.within

pub schwarz_of : {R : Type 0} (k : ℕ) (u : ℕ → ℤ) → ((x : ℕ) → IsDifference (u x) x k) → (rows : List R) (f g : R → ℕ) → let xs = map (λ r. u (f r)) rows in let ys = map (λ r. u (g r)) rows in unsigned_abs (covariance_top xs ys) * unsigned_abs (covariance_top xs ys) ≤ spread_top xs * spread_top ys
schwarz_of k u each rows f g =
    schwarz_forms _ _ _ (length rows) (sum_by f rows) _ (sum_by g rows) _ _ (covariance_form k u each rows f g) (covariance_form k u each rows f f) (covariance_form k u each rows g g) (bounded_all rows f g)

pub schwarz_columns : (rows : List (List ℤ)) (i j : ℕ) → unsigned_abs (covariance_top (column i rows) (column j rows)) * unsigned_abs (covariance_top (column i rows) (column j rows)) ≤ spread_top (column i rows) * spread_top (column j rows)
schwarz_columns rows i j =
    let k = depth i rows + depth j rows in
    let left = column_raised k i rows (omega arith) in
    let right = column_raised k j rows (omega arith) in
    let Family : List ℤ → List ℤ → Type 0 = λ xs ys. unsigned_abs (covariance_top xs ys) * unsigned_abs (covariance_top xs ys) ≤ spread_top xs * spread_top ys in
    subst (λ (xs : List ℤ). Family xs (column j rows)) left (subst (λ (ys : List ℤ). Family (map (λ row. pos (raised k i row) -ℤ pos k) rows) ys) right (schwarz_of k (λ x. pos x -ℤ pos k) (lower_by k) rows (raised k i) (raised k j)))

-- ---- samples of 16 bits
pub sums_of_samples : {R : Type 0} (rows : List R) (f : R → ℕ) → AllByRecursion (λ r. f r ≤ 65535) rows → AreSums (length rows) (sum_by f rows) (sum_by (λ r. f r * f r) rows)
sums_of_samples [] f h = record { first = omega arith; second = omega arith; spread = omega arith }
sums_of_samples (r ∷ rows) f h =
    let n : length rows + 1 ≡ suc (length rows) = omega arith in
    let x : sum_by f rows + f r ≡ sum_by f (r ∷ rows) = omega (arith, sum_by-cons f r rows) in
    let xx : sum_by (λ r. f r * f r) rows + f r * f r ≡ sum_by (λ r. f r * f r) (r ∷ rows) = omega (arith, sum_by-cons (λ r. f r * f r) r rows) in
    rw (← n, ← x, ← xx) (sums_more (length rows) (sum_by f rows) _ (f r) h.0 (sums_of_samples rows f h.1))

small_form : (v : ℤ) (n x xx : ℕ) → v ≡ form n x x xx → n ≤ 65535 → AreSums n x xx → unsigned_abs v < 2 ^ 62
small_form v n x xx e few h = rw (e, abs_variance n x xx h.spread) (variance_small n x xx few h)

pub small_of : {R : Type 0} (k : ℕ) (u : ℕ → ℤ) → ((x : ℕ) → IsDifference (u x) x k) → (rows : List R) (f : R → ℕ) → length rows ≤ 65535 → AllByRecursion (λ r. f r ≤ 65535) rows → spread_top (map (λ r. u (f r)) rows) < 2 ^ 62
small_of k u each rows f few h = small_form _ (length rows) (sum_by f rows) _ (covariance_form k u each rows f f) few (sums_of_samples rows f h)

-- a sample is in range where all of its row are
pub at_most : (row : List ℕ) (j : ℕ) → AllByRecursion (λ x. x < 65536) row → sample j row ≤ 65535
at_most [] j h = omega arith
at_most (x ∷ row) zero h = omega (arith, h.0)
at_most (x ∷ row) (suc j) h = at_most row j h.1

samples_in : (j : ℕ) (rows : List (List ℕ)) → AllByRecursion (λ row. (j < length row) × AllByRecursion (λ x. x < 65536) row) rows → AllByRecursion (λ row. sample j row ≤ 65535) rows
samples_in j [] h = tt
samples_in j (row ∷ rows) h = (at_most row j h.0.1, samples_in j rows h.1)

places_in : (j : ℕ) (rows : List (List ℕ)) → AllByRecursion (λ row. (j < length row) × AllByRecursion (λ x. x < 65536) row) rows → AllByRecursion (λ row. j < length row) rows
places_in j [] h = tt
places_in j (row ∷ rows) h = (h.0.0, places_in j rows h.1)

pub small_columns : (signed : Bool) (rows : List (List ℕ)) (j : ℕ) → length rows ≤ 65535 → AllByRecursion (λ row. (j < length row) × AllByRecursion (λ x. x < 65536) row) rows → spread_top (column j (map (map (unshifted signed)) rows)) < 2 ^ 62
small_columns signed rows j few h = rw (column_map (unshifted signed) j rows (places_in j rows h)) (small_of (shift_of signed) (unshifted signed) (unshifted_is signed) rows (sample j) few (samples_in j rows h))
