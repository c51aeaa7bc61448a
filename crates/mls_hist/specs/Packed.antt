-- The counts of cells as they lie in a list, with no row that waits.
use Rattle.std.specs.Prelude.{◌≡◌, ℕ, ◌+◌, ◌<◌, ◌≤◌, List, map, slice_index}
use Rattle.mls_model.specs.Numbers.{below}
use Rattle.mls_hist.specs.Histograms.{cell_start}

-- the 64 counts from a start on
unfoldable pub counts_from : List ℕ → ℕ → List ℕ
counts_from bins start = map (λ bin. slice_index bins (start + bin)) (below 64)

-- the cells of a plane, and of all planes
unfoldable pub packed_plane : ℕ → List ℕ → ℕ → ℕ → List (List ℕ)
packed_plane places bins plane count = map (λ place. counts_from bins (cell_start places plane place)) (below count)

unfoldable pub packed_cells : ℕ → List ℕ → ℕ → List (List (List ℕ))
packed_cells places bins count = map (λ plane. packed_plane places bins plane places) (below count)

-- so many numbers from a start on may have changed, and all others are as before
pub record Within (start size : ℕ) (old new : List ℕ) : Type 0 where
  pub before : (j : ℕ) → j < start → slice_index new j ≡ slice_index old j
  pub behind : (j : ℕ) → start + size ≤ j → slice_index new j ≡ slice_index old j
