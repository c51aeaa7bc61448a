-- What a rank keeps sums of: for each plane and place of its block a list of rows of shifted values.
use Rattle.std.specs.Prelude.{ℕ, ◌+◌, ◌&&◌, cond, List, [], ◌∷◌, ◌++◌, nat_lt, ◌==◌}
use Rattle.mls_model.specs.Studies.{Sizes}
use Rattle.mls_model.specs.Blocks.{block, width}
use Rattle.mls_model.specs.Frames.{Piece}
use Rattle.mls_model.specs.AcceptedRows.{shifted_rows}

-- the list of rows of a plane (first) and a place in the block (second)
abbrev pub Table : Type 0
Table = ℕ → ℕ → List (List ℕ)

abbrev pub empty_table : Table
empty_table plane place = []

-- the table with one more row at each place of a plane below so many
abbrev pub with_block : Table → ℕ → ℕ → (ℕ → List ℕ) → Table
with_block table plane places row p place = cond ((p == plane) && nat_lt place places) (table p place ++ row place ∷ []) (table p place)

-- the rows of a rank's block, from the fitting pieces that survive there
abbrev pub rank_table : Sizes → ℕ → List Piece → Table
rank_table s rank pieces plane place = cond (nat_lt place (width (block s rank))) (shifted_rows s rank plane ((block s rank).first + place) pieces) []
