-- Which groups are accepted at a rank, and the rows of samples that they give.
use Rattle.std.specs.Prelude.{ℕ, ◌+◌, ◌-◌, ◌*◌, ◌&&◌, cond, List, [], ◌∷◌, ◌++◌, map, find, Some, None, slice_index, ◌==◌, ℤ}
use Rattle.mls_model.specs.Numbers.{below}
use Rattle.mls_model.specs.Places.{gathered}
use Rattle.mls_model.specs.Studies.{Sizes}
use Rattle.mls_model.specs.Blocks.{client_of}
use Rattle.mls_model.specs.Samples.{value, shifted}
use Rattle.mls_model.specs.Frames.{Piece}
use Rattle.mls_model.specs.Completion.{Key, key_of, is_share, completes}

-- what give makes of each place that completes a key of the plane, in the order of completion
unfoldable pub completions : {B : Type 0} → Sizes → ℕ → ℕ → (List Piece → Piece → B) → List Piece → List B
completions s rank plane give pieces = gathered (λ before p. cond ((p.plane == plane) && completes s rank before p) (give before p ∷ []) []) [] pieces

-- the groups whose keys of the plane are completed, in the order of completion
unfoldable pub accepted : Sizes → ℕ → ℕ → List Piece → List ℕ
accepted s rank plane pieces = completions s rank plane (λ before p. p.group) pieces

-- the p + 2 samples of the cell at a place of a piece
abbrev pub samples_at : Piece → ℕ → List ℕ
samples_at p place = map (λ row. slice_index p.samples (row * p.count + place)) (below p.rows)

-- the samples of a cell in the first piece of a key and life from a client
abbrev pub share_row : Key → ℕ → ℕ → ℕ → List Piece → List ℕ
share_row key life x client pieces = elim (find (is_share key life client) pieces) [ None ↦ [] | Some q ↦ samples_at q (x - q.first) ]

-- the row of a cell where a place completes its key: from the client whose part holds the cell
abbrev pub row_at : Sizes → ℕ → List Piece → Piece → List ℕ
row_at s x before p = elim (client_of s x) [ None ↦ [] | Some client ↦ share_row (key_of p) p.life x client (before ++ p ∷ []) ]

-- the rows of samples of a cell of the rank's block, one for each accepted group
unfoldable pub sample_rows : Sizes → ℕ → ℕ → ℕ → List Piece → List (List ℕ)
sample_rows s rank plane x pieces = completions s rank plane (row_at s x) pieces

-- the rows as values, and as shifted values
abbrev pub rows : Sizes → ℕ → ℕ → ℕ → List Piece → List (List ℤ)
rows s rank plane x pieces = map (map (value s.signed)) (sample_rows s rank plane x pieces)

abbrev pub shifted_rows : Sizes → ℕ → ℕ → ℕ → List Piece → List (List ℕ)
shifted_rows s rank plane x pieces = map (map (shifted s.signed)) (sample_rows s rank plane x pieces)
