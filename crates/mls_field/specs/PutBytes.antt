-- Bytes that grow by the numbers of a cell.
use Rattle.std.specs.Prelude.{◌≡◌, ℕ, List, ◌++◌, slice_index}
use Rattle.std.specs.Int.{w16, w64, w128}
use Rattle.mls_ckpt.specs.Reading.{text}
use Rattle.mls_field.specs.Kinds.{first_of, second_of, third_of, fourth_of}

-- the bytes grew by a text
abbrev pub Grown : List ℕ → List ℕ → (List ℕ → List ℕ) → Type 0
Grown old new write = (rest : List ℕ) → new ++ rest ≡ old ++ write rest

-- the sums of powers, and the least and the greatest sample, before what follows
abbrev pub powers_of_sums : ℕ → List ℕ → List ℕ → List ℕ
powers_of_sums p sums rest = text w64 (first_of sums) (text w64 (second_of sums) (text w128 (third_of p sums) (text w128 (fourth_of p sums) rest)))

abbrev pub ends_text : List ℕ → List ℕ → List ℕ
ends_text ends rest = text w16 (slice_index ends 0) (text w16 (slice_index ends 1) rest)
