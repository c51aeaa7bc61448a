-- A piece whose samples are lent from bytes.
use Rattle.std.specs.Prelude.{ℕ, ◌*◌, List}
use Rattle.mls_model.specs.Frames.{Piece, samples_in}

-- the piece of these numbers, its samples read from these bytes
abbrev pub piece_from : (life group plane client rows first count : ℕ) → List ℕ → Piece
piece_from life group plane client rows first count bytes = record { life = life; group = group; plane = plane; client = client; rows = rows; first = first; count = count; samples = samples_in (rows * count) bytes }
