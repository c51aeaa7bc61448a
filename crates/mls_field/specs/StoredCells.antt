-- Cells whose numbers were put into columns.
use Rattle.std.specs.Prelude.{◌≡◌, ◌≢◌, ℕ, ◌+◌, ◌*◌, ◌<◌, List, length, slice_index}
use Rattle.mls_model.specs.Studies.{Sizes}
use Rattle.mls_field.specs.Cells.{cell_of}
use Rattle.mls_field.specs.ColumnSums.{sums_size}

-- the numbers of a cell stand at a place of so many columns from a row on, and all other numbers stay
pub record Stored (row size places place : ℕ) (old new cell : List ℕ) : Type 0 where
  pub there : (c : ℕ) → c < size → slice_index new ((row + c) * places + place) ≡ slice_index cell c
  pub rest : (j : ℕ) → ((c : ℕ) → c < size → j ≢ (row + c) * places + place) → slice_index new j ≡ slice_index old j

-- a cell has the same numbers
pub record SameCell (s : Sizes) (places : ℕ) (sums ends numbers sums' ends' numbers' : List ℕ) (plane place : ℕ) : Type 0 where
  pub sums_same : cell_of (sums_size s.parameters) places sums plane place ≡ cell_of (sums_size s.parameters) places sums' plane place
  pub ends_same : cell_of 2 places ends plane place ≡ cell_of 2 places ends' plane place
  pub numbers_same : cell_of (length s.thresholds) places numbers plane place ≡ cell_of (length s.thresholds) places numbers' plane place
