-- What a rank keeps of a cell of a plane: how many rows it has, and sums over their shifted values.
use Rattle.std.specs.Prelude.{ℕ, ◌+◌, ◌*◌, List, [], ◌∷◌, length, map, pos, unsigned_abs, unwrap_or, sum_by, slice_index}
use Rattle.std.specs.List.{flat_map}
use Rattle.mls_model.specs.Numbers.{below}
use Rattle.mls_model.specs.Statistics.{least, most, above}

-- The samples of which the first seven are told are A and B of all rows. Of no rows the least is 65,535 and the greatest 0. The products are ΣA, ΣB, ΣAA, ΣBB, and for each k ΣC, ΣCC, ΣAC, ΣBC.
pub record CellSums : Type 0 where
  pub rows : ℕ
  pub p1 : ℕ
  pub p2 : ℕ
  pub p3 : ℕ
  pub p4 : ℕ
  pub least : ℕ
  pub greatest : ℕ
  pub above : List ℕ
  pub products : List ℕ

-- the places of the sums among the products: of A and B, and of parameter k
abbrev pub place_a : ℕ
place_a = 0

abbrev pub place_b : ℕ
place_b = 1

abbrev pub place_aa : ℕ
place_aa = 2

abbrev pub place_bb : ℕ
place_bb = 3

abbrev pub place_c : ℕ → ℕ
place_c k = 4 + 4 * k

abbrev pub place_cc : ℕ → ℕ
place_cc k = 4 + 4 * k + 1

abbrev pub place_ac : ℕ → ℕ
place_ac k = 4 + 4 * k + 2

abbrev pub place_bc : ℕ → ℕ
place_bc k = 4 + 4 * k + 3

-- a sample of a row, and the samples A and B of all rows
abbrev pub sample : ℕ → List ℕ → ℕ
sample j row = slice_index row j

abbrev pub both : List (List ℕ) → List ℕ
both rows = flat_map (λ row. sample 0 row ∷ sample 1 row ∷ []) rows

-- the sum of a column, and that of the products of two columns
abbrev pub sum_of : ℕ → List (List ℕ) → ℕ
sum_of j rows = sum_by (sample j) rows

abbrev pub products_of : ℕ → ℕ → List (List ℕ) → ℕ
products_of i j rows = sum_by (λ row. sample i row * sample j row) rows

abbrev pub column_products : List (List ℕ) → ℕ → List ℕ
column_products rows k = sum_of (2 + k) rows ∷ products_of (2 + k) (2 + k) rows ∷ products_of 0 (2 + k) rows ∷ products_of 1 (2 + k) rows ∷ []

-- the sums of these rows, by so many parameters and these thresholds
abbrev pub sums_of : ℕ → List ℕ → List (List ℕ) → CellSums
sums_of parameters thresholds rows = record {
  rows = length rows;
  p1 = sum_by (λ w. w) (both rows);
  p2 = sum_by (λ w. w * w) (both rows);
  p3 = sum_by (λ w. w * w * w) (both rows);
  p4 = sum_by (λ w. w * w * (w * w)) (both rows);
  least = unsigned_abs (unwrap_or (least (map pos (both rows))) (pos 65535));
  greatest = unsigned_abs (unwrap_or (most (map pos (both rows))) (pos 0));
  above = map (λ threshold. above (pos threshold) (map pos (both rows))) thresholds;
  products = sum_of 0 rows ∷ sum_of 1 rows ∷ products_of 0 0 rows ∷ products_of 1 1 rows ∷ flat_map (column_products rows) (below parameters);
}
