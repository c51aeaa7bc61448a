-- What is kept of rows in another order.
use Rattle.std.proofs.Common.{◌≡◌, ℕ, ◌+◌, ◌*◌, List, [], ◌∷◌, map, flat_map, IsPermutation, pos, unsigned_abs, unwrap_or, sum_by, sym}
use Rattle.std.proofs.lemmas.List.Sorted.{IsPermutation-map, sum_by-IsPermutation}
use Rattle.mls_model.specs.Numbers.{below}
use Rattle.mls_model.specs.CellSums.{sample, both, sum_of, products_of, column_products, sums_of}
use Rattle.mls_orders.proofs.Permuting.{flat_mapped}
use Rattle.mls_orders.proofs.Statistics.{length_permuted, least_permuted, most_permuted, above_permuted}

pub added : {X : Type 0} (f : X → ℕ) (xs ys : List X) → IsPermutation xs ys → sum_by f xs ≡ sum_by f ys
added f xs ys h = sym (sum_by-IsPermutation f xs ys h)

both_permuted : (xs ys : List (List ℕ)) → IsPermutation xs ys → IsPermutation (both xs) (both ys)
both_permuted xs ys h = flat_mapped (λ row. sample 0 row ∷ sample 1 row ∷ []) xs ys h

sums_same : (j : ℕ) (xs ys : List (List ℕ)) → IsPermutation xs ys → sum_of j xs ≡ sum_of j ys
sums_same j xs ys h = added (sample j) xs ys h

products_same : (i j : ℕ) (xs ys : List (List ℕ)) → IsPermutation xs ys → products_of i j xs ≡ products_of i j ys
products_same i j xs ys h = added (λ row. sample i row * sample j row) xs ys h

column_same : (xs ys : List (List ℕ)) → IsPermutation xs ys → (k : ℕ) → column_products xs k ≡ column_products ys k
column_same xs ys h k = λ i. sums_same (2 + k) xs ys h i ∷ products_same (2 + k) (2 + k) xs ys h i ∷ products_same 0 (2 + k) xs ys h i ∷ products_same 1 (2 + k) xs ys h i ∷ []

-- the sums of a cell
pub kept_same : (parameters : ℕ) (thresholds : List ℕ) (xs ys : List (List ℕ)) → IsPermutation xs ys → sums_of parameters thresholds xs ≡ sums_of parameters thresholds ys
kept_same parameters thresholds xs ys h =
    let two = both_permuted xs ys h in
    let values : IsPermutation (map pos (both xs)) (map pos (both ys)) = IsPermutation-map pos (both xs) (both ys) two in
    λ i. record {
      rows = length_permuted xs ys h i;
      p1 = added (λ w. w) (both xs) (both ys) two i;
      p2 = added (λ w. w * w) (both xs) (both ys) two i;
      p3 = added (λ w. w * w * w) (both xs) (both ys) two i;
      p4 = added (λ w. w * w * (w * w)) (both xs) (both ys) two i;
      least = unsigned_abs (unwrap_or (least_permuted (map pos (both xs)) (map pos (both ys)) values i) (pos 65535));
      greatest = unsigned_abs (unwrap_or (most_permuted (map pos (both xs)) (map pos (both ys)) values i) (pos 0));
      above = map (λ threshold. above_permuted (pos threshold) (map pos (both xs)) (map pos (both ys)) values i) thresholds;
      products = sums_same 0 xs ys h i ∷ sums_same 1 xs ys h i ∷ products_same 0 0 xs ys h i ∷ products_same 1 1 xs ys h i ∷ flat_map (λ k. column_same xs ys h k i) (below parameters);
    }
