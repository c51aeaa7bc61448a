-- The bytes that spell the counts of a rank's block.
use Rattle.std.specs.Prelude.{ℕ, List, [], map}
use Rattle.mls_model.specs.Numbers.{below}
use Rattle.mls_model.specs.Studies.{planes}
use Rattle.mls_model.specs.Blocks.{block, width}
use Rattle.mls_hist.specs.declared.hist.Hist.{Hist}
use Rattle.mls_hist.specs.HistPart.{hist_text}
use Rattle.mls_hist.specs.Stands.{bin_counts}

-- the counts of the cells of a plane and of all planes, with the rows that wait
unfoldable pub cells_of_plane : Hist → ℕ → List (List ℕ)
cells_of_plane h plane = map (bin_counts h plane) (below (width (block h.shape h.rank)))

unfoldable pub cells_of_hist : Hist → List (List (List ℕ))
cells_of_hist h = map (cells_of_plane h) (below (planes h.shape))

unfoldable pub part_of_hist : Hist → List ℕ
part_of_hist h = hist_text (cells_of_hist h) []
