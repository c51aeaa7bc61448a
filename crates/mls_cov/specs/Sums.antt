-- The sums of a list of rows, side by side.
use Rattle.std.specs.Prelude.{◌≡◌, ℕ, ◌+◌, ◌<◌, List, length, slice_index}
use Rattle.std.specs.List.{AllByRecursion}
-- a sample of a row: 0 is A, 1 is B, 2 + k is C^k; the sum of a column, and that of the products of two columns
pub use Rattle.mls_model.specs.CellSums.{place_a, place_b, place_aa, place_bb, place_c, place_cc, place_ac, place_bc, sample, sum_of, products_of}

-- Four sums from a place on are those of C^k: of its samples, of their squares, and of their products with A and with B.
pub record HoldsColumn (k : ℕ) (sums : List ℕ) (rows : List (List ℕ)) : Type 0 where
  pub first : slice_index sums (place_c k) ≡ sum_of (2 + k) rows
  pub second : slice_index sums (place_cc k) ≡ products_of (2 + k) (2 + k) rows
  pub with_a : slice_index sums (place_ac k) ≡ products_of 0 (2 + k) rows
  pub with_b : slice_index sums (place_bc k) ≡ products_of 1 (2 + k) rows

-- The list holds the sums of rows of p + 2 samples: of A and of B, of their squares, and of each C^k.
pub record HoldsSums (p : ℕ) (sums : List ℕ) (rows : List (List ℕ)) : Type 0 where
  pub rows_in : AllByRecursion (λ row. length row ≡ p + 2) rows
  pub a : slice_index sums place_a ≡ sum_of 0 rows
  pub b : slice_index sums place_b ≡ sum_of 1 rows
  pub aa : slice_index sums place_aa ≡ products_of 0 0 rows
  pub bb : slice_index sums place_bb ≡ products_of 1 1 rows
  pub columns : (k : ℕ) → k < p → HoldsColumn k sums rows
