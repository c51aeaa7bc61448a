-- The counts of a cell and the rows whose counts they are.
use Rattle.std.specs.Prelude.{◌≡◌, ℕ, ◌<◌, ◌≤◌, List, length}
use Rattle.mls_model.specs.Studies.{planes}
use Rattle.mls_model.specs.Blocks.{block, width}
use Rattle.mls_model.specs.CellSums.{both}
use Rattle.mls_model.specs.Standing.{Table}
use Rattle.mls_hist.specs.declared.hist.Hist.{Hist}
use Rattle.mls_hist.specs.Bins.{bins_of}
use Rattle.mls_hist.specs.Quartiles.{bracket, bracket_in}
use Rattle.mls_hist.specs.Stands.{shape_of, rank_of, row_count, bin_counts, StandsFor}

-- The counts of a cell are those of these rows: there are so many rows, each bin holds as many of their samples A and B, and the
-- brackets that the counts give are the samples'.
pub record IsCounted (h : Hist) (plane place : ℕ) (rows : List (List ℕ)) : Type 0 where
  pub counted : length rows ≡ row_count h plane
  pub counts : bin_counts h plane place ≡ bins_of (both rows)
  pub brackets : (j : ℕ) → 1 ≤ j → j ≤ 3 → bracket_in (bin_counts h plane place) j ≡ bracket (both rows) j

-- Where it stands for lists of rows, each cell's counts are those of the cell's rows.
abbrev pub TablesAreCounted : Type 0
TablesAreCounted = (h : Hist) (t : Table) (plane place : ℕ) → StandsFor h t → plane < planes (shape_of h) → place < width (block (shape_of h) (rank_of h)) → IsCounted h plane place (t plane place)
