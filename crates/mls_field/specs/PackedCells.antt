-- The sums that the packed numbers of cells say, and the bytes that spell them.
use Rattle.std.specs.Prelude.{ℕ, ◌+◌, ◌*◌, List, take, map, length, slice_index}
use Rattle.mls_model.specs.Numbers.{below}
use Rattle.mls_model.specs.Studies.{Sizes}
use Rattle.mls_model.specs.CellSums.{CellSums}
use Rattle.mls_power.specs.Extremes.{least_in, greatest_in}
use Rattle.mls_field.specs.Cells.{cell_of}
use Rattle.mls_field.specs.ColumnSums.{sums_size}
use Rattle.mls_field.specs.Kinds.{first_of, second_of, third_of, fourth_of, SumsWithin, ExtremaWithin, NumbersWithin}

-- the sums of a cell of n rows
abbrev pub kept_cell : ℕ → ℕ → List ℕ → List ℕ → List ℕ → CellSums
kept_cell p n sums ends numbers = record {
  rows = n;
  p1 = first_of sums;
  p2 = second_of sums;
  p3 = third_of p sums;
  p4 = fourth_of p sums;
  least = least_in ends;
  greatest = greatest_in ends;
  above = numbers;
  products = take (4 + 4 * p) sums;
}

-- the numbers of a cell may be those of n rows
pub record CellWithin (p n : ℕ) (sums ends numbers : List ℕ) : Type 0 where
  pub sums_in : SumsWithin p n sums
  pub ends_in : ExtremaWithin n ends
  pub numbers_in : NumbersWithin n numbers

-- the sums of the cell at a place of a plane of n rows, with no row that waits
abbrev pub packed_cell : Sizes → ℕ → List ℕ → List ℕ → List ℕ → ℕ → ℕ → ℕ → CellSums
packed_cell s places sums ends numbers n plane place =
    kept_cell s.parameters n (cell_of (sums_size s.parameters) places sums plane place) (cell_of 2 places ends plane place) (cell_of (length s.thresholds) places numbers plane place)

-- the cells of a plane, and of all planes by their rows
unfoldable pub packed_plane : Sizes → ℕ → List ℕ → List ℕ → List ℕ → ℕ → ℕ → ℕ → List CellSums
packed_plane s places sums ends numbers n plane count = map (packed_cell s places sums ends numbers n plane) (below count)

unfoldable pub packed_cells : Sizes → ℕ → List ℕ → List ℕ → List ℕ → List ℕ → ℕ → List (List CellSums)
packed_cells s places sums ends numbers counts count = map (λ plane. packed_plane s places sums ends numbers (slice_index counts plane) plane places) (below count)

-- the cell at a place of a plane may have n rows
abbrev pub PackedWithin : Sizes → ℕ → List ℕ → List ℕ → List ℕ → ℕ → ℕ → ℕ → Type 0
PackedWithin s places sums ends numbers n plane place =
    CellWithin s.parameters n (cell_of (sums_size s.parameters) places sums plane place) (cell_of 2 places ends plane place) (cell_of (length s.thresholds) places numbers plane place)
