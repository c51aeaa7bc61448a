-- Rows of shifted values.
use Rattle.std.specs.Prelude.{ℕ, Bool, List, map}
use Rattle.mls_model.specs.Numbers.{below}
use Rattle.mls_model.specs.Samples.{shifted}
use Rattle.mls_model.specs.Studies.{Sizes}
use Rattle.mls_model.specs.Blocks.{block, width}
use Rattle.mls_model.specs.Standing.{Table, with_block}
use Rattle.mls_model.specs.CellSums.{both}

-- the row that n rows of samples, by row and place, have at a place
abbrev pub shifted_row : Bool → ℕ → (ℕ → ℕ → ℕ) → ℕ → List ℕ
shifted_row signed n sample place = map (λ row. shifted signed (sample row place)) (below n)

-- a table of a rank's block with one more row of n samples at each place of a plane
abbrev pub with_rows : Sizes → ℕ → Table → ℕ → ℕ → (ℕ → ℕ → ℕ) → Table
with_rows s rank table step n sample = with_block table step (width (block s rank)) (shifted_row s.signed n sample)

-- the samples A and B of all rows
abbrev pub shifted_outputs : List (List ℕ) → List ℕ
shifted_outputs = both
