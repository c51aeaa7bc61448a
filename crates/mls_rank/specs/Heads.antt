-- The parts of a checkpoint's head, and what the calls answer that read them.
use Rattle.std.specs.Prelude.{◌≡◌, ℕ, List, ◌∷◌, ◌++◌, Result, Ok, Err}
use Rattle.std.specs.Int.{Width, w32}
use Rattle.mls_model.specs.Studies.{Sizes}
use Rattle.mls_ckpt.specs.declared.faults.RecoverFault.{RecoverFault}
use Rattle.mls_ckpt.specs.Reading.{Cursor, Read, Refuses}
use Rattle.mls_ckpt.specs.Spellings.{fields_number, threshold_numbers}

-- the numbers from that of groups on, and those from that of cells on
abbrev pub sizes_numbers : Sizes → ℕ → List (Width × ℕ)
sizes_numbers s rank = (w32, s.groups) ∷ (w32, s.parameters) ∷ (w32, s.ranks) ∷ (w32, s.clients) ∷ (w32, rank) ∷ threshold_numbers s

abbrev pub mesh_numbers : ℕ → Sizes → ℕ → List (Width × ℕ)
mesh_numbers version s rank = (w32, s.cells) ∷ (w32, s.steps) ∷ (fields_number version s ++ sizes_numbers s rank)

-- An answer without a value has read what it should, and the place is behind it. A fault other than want of memory is the refusal.
abbrev pub Passes : Cursor → Result (Unit {0}) RecoverFault → Read Cursor → Type 0
Passes new (Ok done) read = read ≡ Ok new
Passes new (Err fault) read = Refuses fault read

-- the same at the end
abbrev pub Finishes : Result (Unit {0}) RecoverFault → Read (Unit {0}) → Type 0
Finishes (Ok done) read = read ≡ Ok tt
Finishes (Err fault) read = Refuses fault read
