-- A client's share of a key: what is kept of the piece that brought it.
use Rattle.std.specs.Prelude.{◌≡◌, ℕ, ◌+◌, ◌-◌, ◌*◌, ◌<◌, Bool, true, not, ◌||◌, List, length, slice_index, Option, Some, None, is_some}
use Rattle.std.specs.List.{list_all}
use Rattle.mls_model.specs.Numbers.{below}
use Rattle.mls_model.specs.Studies.{Sizes}
use Rattle.mls_model.specs.Blocks.{block, overlap, overlaps, width, client_of}
use Rattle.mls_model.specs.Frames.{Piece}

-- rows of samples for the count cells from first on, row by row
pub record Share : Type 0 where
  pub first : ℕ
  pub count : ℕ
  pub samples : List ℕ

abbrev pub share_of : Piece → Share
share_of p = record { first = p.first; count = p.count; samples = p.samples }

-- the client sends cells of the block, and the share has p + 2 rows of samples of 16 bits for them
pub record IsShare (s : Sizes) (rank client : ℕ) (share : Share) : Type 0 where
  pub some : overlaps s rank client ≡ true
  pub first : share.first ≡ (overlap s rank client).first
  pub count : share.count ≡ width (overlap s rank client)
  pub size : length share.samples ≡ (s.parameters + 2) * share.count
  pub fits : (i : ℕ) → slice_index share.samples i < 65536

-- the sample of a row and a cell in a share, and 0 where there is none
abbrev pub share_sample : Option Share → ℕ → ℕ → ℕ
share_sample None row x = 0
share_sample (Some share) row x = slice_index share.samples (row * share.count + (x - share.first))

-- the sample of a row and a place in the block, from the share of the client whose part holds the cell
abbrev pub block_sample : Sizes → ℕ → (ℕ → Option Share) → ℕ → ℕ → ℕ
block_sample s rank shares row place =
    elim (client_of s ((block s rank).first + place)) [ None ↦ 0 | Some client ↦ share_sample (shares client) row ((block s rank).first + place) ]

-- whether each client that overlaps the block has a share
abbrev pub has_all : Sizes → ℕ → (ℕ → Option Share) → Bool
has_all s rank shares = list_all (λ client. not (overlaps s rank client) || is_some (shares client)) (below s.clients)
