-- The bytes that spell the sums of a rank's block.
use Rattle.std.specs.Prelude.{ℕ, List, [], map}
use Rattle.mls_model.specs.Numbers.{below}
use Rattle.mls_model.specs.Studies.{planes}
use Rattle.mls_model.specs.Blocks.{block, width}
use Rattle.mls_model.specs.CellSums.{CellSums}
use Rattle.mls_ckpt.specs.CellParts.{cells_text}
use Rattle.mls_field.specs.declared.field.Field.{Field}
use Rattle.mls_field.specs.Kept.{sums_at}

-- the sums of the cells of a plane and of all planes, with the rows that wait
unfoldable pub cells_of_plane : Field → ℕ → List CellSums
cells_of_plane f plane = map (sums_at f plane) (below (width (block f.shape f.rank)))

unfoldable pub cells_of_field : Field → List (List CellSums)
cells_of_field f = map (cells_of_plane f) (below (planes f.shape))

unfoldable pub part_of_field : Field → List ℕ
part_of_field f = cells_text (cells_of_field f) []
