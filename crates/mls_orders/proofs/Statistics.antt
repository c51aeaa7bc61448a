-- The batch statistics of rows in another order.
use Rattle.std.proofs.Common.{◌≡◌, ℕ, cond, List, [], ◌∷◌, length, IsPermutation, Option, Some, None, ℤ, pos, ◌+ℤ◌, ◌-ℤ◌, ◌*ℤ◌, int_lt, int_div, refl, sym, ap, ap₂, ◌∙◌, arith}
use Rattle.std.proofs.lemmas.Int.{ints}
use Rattle.std.proofs.Math.IntN.{+ℤ_assoc, +ℤ_comm}
use Rattle.std.proofs.lemmas.List.Sorted.{IsPermutation-map, length_permutation, sum_by-IsPermutation}
use Rattle.mls_model.specs.Numbers.{sum_ints, square, cube}
use Rattle.mls_model.specs.Statistics.{entry, column, outputs, size, deviation, variance_top, third_top, least, most, above, sum_pairs, covariance_top}
use Rattle.mls_orders.proofs.Permuting.{folded, flat_mapped}

turned_sum : (x y a : ℤ) → x +ℤ (y +ℤ a) ≡ y +ℤ (x +ℤ a)
turned_sum x y a = sym (+ℤ_assoc x y a) ∙ ap (λ (z : ℤ). z +ℤ a) (+ℤ_comm x y) ∙ +ℤ_assoc y x a

pub sum_permuted : {A : Type 0} (f : A → ℤ) (xs ys : List A) → IsPermutation xs ys → sum_ints f xs ≡ sum_ints f ys
sum_permuted f xs ys h = folded (sum_ints f) (λ x a. f x +ℤ a) (λ x us. refl) (λ x y a. turned_sum (f x) (f y) a) xs ys h

pub sum_agrees : {A : Type 0} (f g : A → ℤ) → ((x : A) → f x ≡ g x) → (xs : List A) → sum_ints f xs ≡ sum_ints g xs
sum_agrees f g e [] = refl
sum_agrees f g e (x ∷ xs) = ap₂ (λ (a b : ℤ). a +ℤ b) (e x) (sum_agrees f g e xs)

pub length_permuted : {A : Type 0} (xs ys : List A) → IsPermutation xs ys → length xs ≡ length ys
length_permuted xs ys h = sym (length_permutation xs ys h)

pub size_permuted : {A : Type 0} (xs ys : List A) → IsPermutation xs ys → size xs ≡ size ys
size_permuted xs ys h = ap pos (length_permuted xs ys h)

deviation_same : (xs ys : List ℤ) → IsPermutation xs ys → (w : ℤ) → deviation xs w ≡ deviation ys w
deviation_same xs ys h w = ap₂ (λ (n t : ℤ). (n *ℤ w) -ℤ t) (size_permuted xs ys h) (sum_permuted (λ z. z) xs ys h)

pub variance_permuted : (xs ys : List ℤ) → IsPermutation xs ys → variance_top xs ≡ variance_top ys
unfolding variance_top
variance_permuted xs ys h = ap₂ int_div (sum_agrees _ _ (λ w. ap square (deviation_same xs ys h w)) xs ∙ sum_permuted (λ w. square (deviation ys w)) xs ys h) (size_permuted xs ys h)

pub third_permuted : (xs ys : List ℤ) → IsPermutation xs ys → third_top xs ≡ third_top ys
unfolding third_top
third_permuted xs ys h = ap₂ int_div (sum_agrees _ _ (λ w. ap cube (deviation_same xs ys h w)) xs ∙ sum_permuted (λ w. cube (deviation ys w)) xs ys h) (size_permuted xs ys h)

with_least : ℤ → Option ℤ → Option ℤ
with_least w o = elim o [ None ↦ Some w | Some m ↦ Some (cond (int_lt w m) w m) ]

with_most : ℤ → Option ℤ → Option ℤ
with_most w o = elim o [ None ↦ Some w | Some m ↦ Some (cond (int_lt m w) w m) ]

lesser_turned : (x y m : ℤ) → cond (int_lt x (cond (int_lt y m) y m)) x (cond (int_lt y m) y m) ≡ cond (int_lt y (cond (int_lt x m) x m)) y (cond (int_lt x m) x m)
lesser_turned x y m = grind (arith, ints)

lesser_of_two : (x y : ℤ) → cond (int_lt x y) x y ≡ cond (int_lt y x) y x
lesser_of_two x y = grind (arith, ints)

least_turned : (x y : ℤ) (o : Option ℤ) → with_least x (with_least y o) ≡ with_least y (with_least x o)
unfolding with_least
least_turned x y None = ap (λ (z : ℤ). Some z) (lesser_of_two x y)
least_turned x y (Some m) = ap (λ (z : ℤ). Some z) (lesser_turned x y m)

greater_turned : (x y m : ℤ) → cond (int_lt (cond (int_lt m y) y m) x) x (cond (int_lt m y) y m) ≡ cond (int_lt (cond (int_lt m x) x m) y) y (cond (int_lt m x) x m)
greater_turned x y m = grind (arith, ints)

greater_of_two : (x y : ℤ) → cond (int_lt y x) x y ≡ cond (int_lt x y) y x
greater_of_two x y = grind (arith, ints)

most_turned : (x y : ℤ) (o : Option ℤ) → with_most x (with_most y o) ≡ with_most y (with_most x o)
unfolding with_most
most_turned x y None = ap (λ (z : ℤ). Some z) (greater_of_two x y)
most_turned x y (Some m) = ap (λ (z : ℤ). Some z) (greater_turned x y m)

pub least_permuted : (xs ys : List ℤ) → IsPermutation xs ys → least xs ≡ least ys
unfolding with_least
least_permuted xs ys h = folded least with_least (λ x us. refl) least_turned xs ys h

pub most_permuted : (xs ys : List ℤ) → IsPermutation xs ys → most xs ≡ most ys
unfolding with_most
most_permuted xs ys h = folded most with_most (λ x us. refl) most_turned xs ys h

pub above_permuted : (threshold : ℤ) (xs ys : List ℤ) → IsPermutation xs ys → above threshold xs ≡ above threshold ys
above_permuted threshold xs ys h = sym (sum_by-IsPermutation (λ x. cond (int_lt threshold x) 1 0) xs ys h)

pub outputs_permuted : (xs ys : List (List ℤ)) → IsPermutation xs ys → IsPermutation (outputs xs) (outputs ys)
outputs_permuted xs ys h = flat_mapped (λ row. entry 0 row ∷ entry 1 row ∷ []) xs ys h

pub column_permuted : (j : ℕ) (xs ys : List (List ℤ)) → IsPermutation xs ys → IsPermutation (column j xs) (column j ys)
column_permuted j xs ys h = IsPermutation-map (entry j) xs ys h

-- the sum over two columns is one over the rows
pairs_of_rows : (f : ℤ → ℤ → ℤ) (i j : ℕ) (rows : List (List ℤ)) → sum_pairs f (column i rows) (column j rows) ≡ sum_ints (λ row. f (entry i row) (entry j row)) rows
pairs_of_rows f i j [] = refl
pairs_of_rows f i j (row ∷ rows) = ap (λ (z : ℤ). f (entry i row) (entry j row) +ℤ z) (pairs_of_rows f i j rows)

pub covariance_permuted : (i j : ℕ) (xs ys : List (List ℤ)) → IsPermutation xs ys → covariance_top (column i xs) (column j xs) ≡ covariance_top (column i ys) (column j ys)
unfolding covariance_top
covariance_permuted i j xs ys h =
    let first = column_permuted i xs ys h in
    let second = column_permuted j xs ys h in
    let f : ℤ → ℤ → ℤ = λ a b. deviation (column i xs) a *ℤ deviation (column j xs) b in
    let g : ℤ → ℤ → ℤ = λ a b. deviation (column i ys) a *ℤ deviation (column j ys) b in
    ap₂ int_div
    (pairs_of_rows f i j xs
    ∙ sum_agrees (λ row. f (entry i row) (entry j row)) (λ row. g (entry i row) (entry j row)) (λ row. ap₂ (λ (a b : ℤ). a *ℤ b) (deviation_same (column i xs) (column i ys) first (entry i row)) (deviation_same (column j xs) (column j ys) second (entry j row))) xs
    ∙ sum_permuted (λ row. g (entry i row) (entry j row)) xs ys h
    ∙ sym (pairs_of_rows g i j ys))
    (size_permuted (column i xs) (column i ys) first)
