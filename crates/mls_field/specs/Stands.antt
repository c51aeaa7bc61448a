-- When the sums of a rank's block stand for lists of rows.
use Rattle.std.specs.Prelude.{ℕ, slice_index}
use Rattle.mls_model.specs.Studies.{Sizes}
use Rattle.mls_model.specs.Standing.{Table}
use Rattle.mls_field.specs.declared.field.Field.{Field}
use Rattle.mls_field.specs.Fields.{HoldsTable}

-- the study's numbers, the rank whose block it is, and how many rows were added to a plane
abbrev pub shape_of : Field → Sizes
shape_of f = f.shape

abbrev pub rank_of : Field → ℕ
rank_of f = f.rank

abbrev pub row_count : Field → ℕ → ℕ
row_count f plane = slice_index f.counts.items plane

abbrev pub StandsFor : Field → Table → Type 0
StandsFor f table = HoldsTable f.shape f.places f.counts.items f.waiting.items f.sums.items f.ends.items f.numbers.items f.samples.items table
