-- What is read of a cell.
use Rattle.std.specs.Prelude.{◌≡◌, ℕ, ◌+◌, ◌*◌, ◌^◌, ◌≤◌, List, [], ◌∷◌, map, take, slice_index}
use Rattle.mls_model.specs.Numbers.{below}
use Rattle.mls_model.specs.CellSums.{CellSums}
use Rattle.mls_ckpt.specs.CellParts.{Powers, Totals}
use Rattle.mls_cov.specs.Rules.{AreSums, AreProducts}
use Rattle.mls_field.specs.declared.taken.PowerSums.{PowerSums}
use Rattle.mls_field.specs.declared.taken.OutputSums.{OutputSums}
use Rattle.mls_field.specs.declared.taken.Cell.{Cell}
use Rattle.mls_field.specs.PackedCells.{kept_cell}

abbrev pub powers_of : PowerSums → Powers
powers_of p = record { p1 = p.p1; p2 = p.p2; p3 = p.p3; p4 = p.p4 }

abbrev pub totals_of : OutputSums → Totals
totals_of t = record { a = t.a; b = t.b; aa = t.aa; bb = t.bb }

abbrev pub cell_taken : ℕ → ℕ → ℕ → Cell → CellSums
cell_taken p thresholds n c = kept_cell p n c.sums c.ends (take thresholds c.numbers)

-- the sums of A and B of n rows, where those of their powers are these
pub record AreOutputs (n p1 p2 : ℕ) (t : OutputSums) : Type 0 where
  pub a : AreSums n t.a t.aa
  pub b : AreSums n t.b t.bb
  pub firsts : p1 ≡ t.a + t.b
  pub seconds : p2 ≡ t.aa + t.bb

-- four sums of a parameter, of n rows whose sums of A and B are these
pub record IsColumnOf (n : ℕ) (t : OutputSums) (column : List ℕ) : Type 0 where
  pub sums_in : AreSums n (slice_index column 0) (slice_index column 1)
  pub with_a : AreProducts n t.a t.aa (slice_index column 0) (slice_index column 1) (slice_index column 2)
  pub with_b : AreProducts n t.b t.bb (slice_index column 0) (slice_index column 1) (slice_index column 3)

-- the four sums of a parameter among the sums of a cell, and those of so many parameters
abbrev pub column_in : List ℕ → ℕ → List ℕ
column_in sums k = slice_index sums (4 + 4 * k) ∷ slice_index sums (4 + 4 * k + 1) ∷ slice_index sums (4 + 4 * k + 2) ∷ slice_index sums (4 + 4 * k + 3) ∷ []

abbrev pub columns_in : List ℕ → ℕ → List (List ℕ)
columns_in sums p = map (column_in sums) (below p)

-- the sums of A and B stand at their places
pub record HoldOutputs (t : OutputSums) (sums : List ℕ) : Type 0 where
  pub a : slice_index sums 0 ≡ t.a
  pub b : slice_index sums 1 ≡ t.b
  pub aa : slice_index sums 2 ≡ t.aa
  pub bb : slice_index sums 3 ≡ t.bb

-- the sums of third and fourth powers of n rows, which are kept in halves
pub record HalvesWithin (p n : ℕ) (words : List ℕ) : Type 0 where
  pub cubes_a : slice_index words (4 + 4 * p) ≤ 281462092005375 * n
  pub cubes_b : slice_index words (4 + 4 * p + 1) ≤ 281462092005375 * n
  pub low : slice_index words (4 + 4 * p + 2) ≤ 8589934590 * n
  pub high : slice_index words (4 + 4 * p + 3) ≤ 8589934590 * n

pub record AreHalves (n p3 p4 : ℕ) (halves : List ℕ) : Type 0 where
  pub third : slice_index halves 0 + slice_index halves 1 ≡ p3
  pub fourth : slice_index halves 2 + 2 ^ 32 * slice_index halves 3 ≡ p4
  pub cubes_a : slice_index halves 0 ≤ 281462092005375 * n
  pub cubes_b : slice_index halves 1 ≤ 281462092005375 * n
  pub low : slice_index halves 2 ≤ 8589934590 * n
  pub high : slice_index halves 3 ≤ 8589934590 * n
