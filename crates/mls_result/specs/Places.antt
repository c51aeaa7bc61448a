-- A plane and a place of a rank's fold.
use Rattle.std.specs.Prelude.{ℕ, ◌<◌}
use Rattle.mls_model.specs.Studies.{planes}
use Rattle.mls_model.specs.Blocks.{block, width}
use Rattle.mls_field.specs.declared.field.Field.{Field}
use Rattle.mls_field.specs.Stands.{shape_of, rank_of}

-- the number of a plane, and a place in the block
pub record IsCellOf (field : Field) (step cell : ℕ) : Type 0 where
  pub step_in : step < planes (shape_of field)
  pub cell_in : cell < width (block (shape_of field) (rank_of field))
