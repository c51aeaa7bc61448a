-- What the calls answer that read a part of a state.
use Rattle.std.specs.Prelude.{◌≡◌, ℕ, List, ◌++◌, Result, Ok, Err}
use Rattle.mls_ckpt.specs.declared.faults.RecoverFault.{RecoverFault}
use Rattle.mls_ckpt.specs.Reading.{Cursor, Read, Refuses}

-- An answer's value is of what is read, and the place is behind it. A fault other than want of memory is the refusal.
abbrev pub Gives : {A B : Type 0} → (B → A) → Cursor → Result B RecoverFault → Read (A × Cursor) → Type 0
Gives of new (Ok b) read = read ≡ Ok (of b, new)
Gives of new (Err fault) read = Refuses fault read

-- the same, and a fault leaves the place unchanged
abbrev pub Recovers : {A B : Type 0} → (B → A) → Cursor → Cursor → Result B RecoverFault → Read (A × Cursor) → Type 0
Recovers of old new (Ok b) read = read ≡ Ok (of b, new)
Recovers of old new (Err fault) read = Refuses fault read × (new ≡ old)

-- a number's answer is itself what is read
abbrev pub RecoversNumber : Cursor → Cursor → Result ℕ RecoverFault → Read (ℕ × Cursor) → Type 0
RecoversNumber old new answer read = Recovers (λ (n : ℕ). n) old new answer read

-- what is read behind values that were read before
abbrev pub behind_these : {A : Type 0} → List A → Read (List A × Cursor) → Read (List A × Cursor)
behind_these before (Ok read) = Ok (before ++ read.0, read.1)
behind_these before (Err refusal) = Err refusal

-- An answer has put what is read behind the values that were there, and the place is behind it.
abbrev pub Continues : {A : Type 0} → List A → List A → Cursor → Result (Unit {0}) RecoverFault → Read (List A × Cursor) → Type 0
Continues before values new (Ok done) read = behind_these before read ≡ Ok (values, new)
Continues before values new (Err fault) read = Refuses fault read
