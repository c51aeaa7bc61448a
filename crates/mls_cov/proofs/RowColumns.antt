-- The columns of rows, as natural numbers less one number.
use Rattle.std.proofs.Common.{◌≡◌, ℕ, ◌+◌, ◌-◌, ◌<◌, ◌≤◌, List, [], ◌∷◌, length, map, Bool, true, false, ℤ, pos, ◌-ℤ◌, ◌*ℤ◌, ap, ◌∙◌, refl, subst, arith}
use Rattle.std.specs.List.{sum_by, AllByRecursion}
use Rattle.std.proofs.lemmas.List.{get_or-map}
use Rattle.std.proofs.Math.ListN.{get_or-map as get_or-map_same}
use Rattle.std.proofs.lemmas.List.Sums.{sum_by-cons}
use borrow.Author.Differences.{up, down, same_in}
use Rattle.mls_model.specs.Samples.{unshifted}
use Rattle.mls_model.specs.Statistics.{size, entry, column, deviation, sum_pairs, covariance_top}
use Rattle.mls_cov.specs.Sums.{sample, sum_of, products_of}
use Rattle.mls_cov.proofs.Covariances.{form, covariance_form, covariance_whole}
use Rattle.mls_cov.proofs.Differences.{IsDifference, natural, lower_by}

-- ---- of rows of shifted values
joined_cells : (x y : ℤ) (xs ys : List ℤ) → x ≡ y → xs ≡ ys → x ∷ xs ≡ y ∷ ys
joined_cells x y xs ys e f = ap (λ (z : ℤ). z ∷ xs) e ∙ ap (λ (zs : List ℤ). y ∷ zs) f

pub column_map : (u : ℕ → ℤ) (j : ℕ) (rows : List (List ℕ)) → AllByRecursion (λ row. j < length row) rows → column j (map (map u) rows) ≡ map (λ row. u (sample j row)) rows
column_map u j [] h = refl
column_map u j (row ∷ rows) h = joined_cells _ _ _ _ (get_or-map u row j 0 (pos 0) h.0) (column_map u j rows h.1)

pub column_pos : (j : ℕ) (rows : List (List ℕ)) → column j (map (map pos) rows) ≡ map (λ row. pos (sample j row)) rows
column_pos j [] = refl
column_pos j (row ∷ rows) = joined_cells _ _ _ _ (get_or-map_same pos row j 0) (column_pos j rows)

-- the values of shifted values are less by one number
abbrev pub shift_of : Bool → ℕ
shift_of false = 0
shift_of true = 32768

pub unshifted_is : (signed : Bool) (x : ℕ) → IsDifference (unshifted signed x) x (shift_of signed)
unshifted_is false x = record { balance = refl }
unshifted_is true x = lower_by 32768 x

-- ---- of rows of integers
-- an entry, raised by k
abbrev pub raised : ℕ → ℕ → List ℤ → ℕ
raised k j row = up (entry j row) + k - down (entry j row)

lower-raised : (k : ℕ) (w : ℤ) → down w ≤ k → pos (up w + k - down w) -ℤ pos k ≡ w
lower-raised k w h = same_in (pos (up w + k - down w) -ℤ pos k) w (omega (arith, (lower_by k (up w + k - down w)).balance))

-- how far the entries of a column are below 0, all together
abbrev pub depth : ℕ → List (List ℤ) → ℕ
depth j rows = sum_by (λ row. down (entry j row)) rows

pub column_raised : (k j : ℕ) (rows : List (List ℤ)) → depth j rows ≤ k → map (λ row. pos (raised k j row) -ℤ pos k) rows ≡ column j rows
column_raised k j [] h = refl
column_raised k j (row ∷ rows) h =
    let e = sum_by-cons (λ r. down (entry j r)) row rows in
    joined_cells _ _ _ _ (lower-raised k (entry j row) (omega (arith, e))) (column_raised k j rows (omega (arith, e)))

-- ---- the laws
pub whole_columns : (rows : List (List ℤ)) (i j : ℕ) → let xs = column i rows in let ys = column j rows in size xs *ℤ covariance_top xs ys ≡ sum_pairs (λ x y. deviation xs x *ℤ deviation ys y) xs ys
whole_columns rows i j =
    let k = depth i rows + depth j rows in
    let left = column_raised k i rows (omega arith) in
    let right = column_raised k j rows (omega arith) in
    let Family : List ℤ → List ℤ → Type 0 = λ xs ys. size xs *ℤ covariance_top xs ys ≡ sum_pairs (λ x y. deviation xs x *ℤ deviation ys y) xs ys in
    subst (λ (xs : List ℤ). Family xs (column j rows)) left (subst (λ (ys : List ℤ). Family (map (λ row. pos (raised k i row) -ℤ pos k) rows) ys) right (covariance_whole k (λ x. pos x -ℤ pos k) (lower_by k) rows (raised k i) (raised k j)))

pub one_pass : (rows : List (List ℕ)) (i j : ℕ) → covariance_top (column i (map (map pos) rows)) (column j (map (map pos) rows)) ≡ form (length rows) (sum_of i rows) (sum_of j rows) (products_of i j rows)
one_pass rows i j = rw (column_pos i rows, column_pos j rows) (covariance_form 0 pos natural rows (sample i) (sample j))

pub one_pass_values : (signed : Bool) (rows : List (List ℕ)) (i j : ℕ) → AllByRecursion (λ row. i < length row) rows → AllByRecursion (λ row. j < length row) rows → covariance_top (column i (map (map (unshifted signed)) rows)) (column j (map (map (unshifted signed)) rows)) ≡ form (length rows) (sum_of i rows) (sum_of j rows) (products_of i j rows)
one_pass_values signed rows i j left right =
    rw (column_map (unshifted signed) i rows left, column_map (unshifted signed) j rows right) (covariance_form (shift_of signed) (unshifted signed) (unshifted_is signed) rows (sample i) (sample j))
