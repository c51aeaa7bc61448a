-- What holds of every reader, spelling and valid state.
use Rattle.std.specs.Prelude.{◌≡◌, ℕ, Bool, ◌+◌, ◌^◌, ◌<◌, ◌≤◌, List, [], ◌++◌, slice_index, true, Ok}
use Rattle.std.specs.Int.{Width, byte_len}
use Rattle.mls_model.specs.Studies.{Sizes, AreSizes, planes}
use Rattle.mls_model.specs.Completion.{Key}
use Rattle.mls_ckpt.specs.Reading.{Cursor, Read, AreBytes, number_at, text}
use Rattle.mls_ckpt.specs.States.{State, IsState, AreMarks, is_marked}
use Rattle.mls_ckpt.specs.Spellings.{is_read, spelled_state}
use Rattle.mls_ckpt.specs.Checkpoints.{checkpoint_of}
use Rattle.mls_model.specs.CellSums.{CellSums}
use Rattle.mls_ckpt.specs.CellParts.{part_at, cells_text, AreCells, IsSumsPart}
use Rattle.mls_ckpt.specs.Histories.{marks_of}

-- a number is read from its bytes, whatever follows
abbrev pub NumbersReadAgain : Type 0
NumbersReadAgain = (w : Width) (most n at : ℕ) (rest : List ℕ) → n < 256 ^ byte_len w → n ≤ most →
    number_at w most (record { at = at; left = text w n rest }) ≡ Ok (n, record { at = at + byte_len w; left = rest })

-- what is read from bytes is spelled by them
abbrev pub NumbersAreSpelled : Type 0
NumbersAreSpelled = (w : Width) (most n : ℕ) (old new : Cursor) → AreBytes old.left → number_at w most old ≡ Ok (n, new) →
    (old.left ≡ text w n new.left) × (n ≤ most)

-- The marks of a test are valid, each is what the test says, and valid marks are those of every test that says what they are.
abbrev pub MarksAreValid : Type 0
MarksAreValid = (s : Sizes) (test : Key → Bool) → AreMarks s (marks_of s test)

abbrev pub MarksAreTests : Type 0
MarksAreTests = (s : Sizes) (test : Key → Bool) (key : Key) → key.group < s.groups → key.plane < planes s →
    is_marked (marks_of s test) key ≡ test key

abbrev pub MarksAreTheirs : Type 0
MarksAreTheirs = (s : Sizes) (marks : List (List ℕ)) (test : Key → Bool) → AreMarks s marks →
    ((key : Key) → key.group < s.groups → key.plane < planes s → is_marked marks key ≡ test key) → marks ≡ marks_of s test

-- bytes of a part that are read whatever follows
abbrev pub IsReadPart : (Sizes → ℕ → List ℕ → Cursor → Read Cursor) → Sizes → ℕ → List ℕ → List ℕ → Type 0
IsReadPart read s rank marks bytes = (at : ℕ) (rest : List ℕ) →
    (place : ℕ) × (read s rank marks (record { at = at; left = bytes ++ rest }) ≡ Ok (record { at = place; left = rest }))

-- where a part is read, its bytes stand before the place behind it and are such a part
pub record IsPartIn (IsPart : List ℕ → Type 0) (old new : Cursor) : Type 0 where
  pub bytes : List ℕ
  pub stands : old.left ≡ bytes ++ new.left
  pub valid : IsPart bytes

-- no plane has more marks than groups
abbrev pub AreFew : Sizes → List ℕ → Type 0
AreFew s marks = (i : ℕ) → slice_index marks i ≤ s.groups

-- what is read as a part is read again, whatever follows
abbrev pub ReadsParts : (Sizes → ℕ → List ℕ → Cursor → Read Cursor) → Type 0
ReadsParts read = (s : Sizes) (rank : ℕ) (marks : List ℕ) (old new : Cursor) → AreSizes s → AreFew s marks → AreBytes old.left → read s rank marks old ≡ Ok new →
    IsPartIn (IsReadPart read s rank marks) old new

-- a valid state is read from its spelling in each version that is read for the study
abbrev pub StatesReadAgain : Type 0
StatesReadAgain = (read : Sizes → ℕ → List ℕ → Cursor → Read Cursor) (s : Sizes) (rank version : ℕ) (state : State) →
    AreSizes s → rank < s.ranks → is_read s version ≡ true → IsState (IsReadPart read) s rank state →
    checkpoint_of read s rank (spelled_state version s rank state) ≡ Ok state

-- the bytes are a spelling of a valid state in such a version
pub record Spells (IsPart : Sizes → ℕ → List ℕ → List ℕ → Type 0) (s : Sizes) (rank : ℕ) (bytes : List ℕ) (state : State) : Type 0 where
  pub version : ℕ
  pub is_read : is_read s version ≡ true
  pub spelled : bytes ≡ spelled_state version s rank state
  pub valid : IsState IsPart s rank state

-- what is read as a state spells it
abbrev pub StatesAreSpelled : Type 0
StatesAreSpelled = (read : Sizes → ℕ → List ℕ → Cursor → Read Cursor) → ReadsParts read → (s : Sizes) (rank : ℕ) (bytes : List ℕ) (state : State) →
    AreSizes s → AreBytes bytes → checkpoint_of read s rank bytes ≡ Ok state → Spells (IsReadPart read) s rank bytes state

-- the part that spells valid sums is read, whatever follows, and what is read is such a part
abbrev pub SumsReadAgain : Type 0
SumsReadAgain = (s : Sizes) (rank : ℕ) (marks bytes : List ℕ) → AreSizes s → AreFew s marks → IsSumsPart s rank marks bytes →
    IsReadPart part_at s rank marks bytes

abbrev pub SumsAreSpelled : Type 0
SumsAreSpelled = (s : Sizes) (rank : ℕ) (marks : List ℕ) (old new : Cursor) → AreBytes old.left → part_at s rank marks old ≡ Ok new →
    IsPartIn (IsSumsPart s rank marks) old new

-- valid sums of all cells with one spelling are the same
abbrev pub SumsAreTheirs : Type 0
SumsAreTheirs = (s : Sizes) (rank : ℕ) (marks : List ℕ) (xs ys : List (List CellSums)) → AreSizes s → AreFew s marks →
    AreCells s rank marks xs → AreCells s rank marks ys → cells_text xs [] ≡ cells_text ys [] → xs ≡ ys

-- the same of states with valid sums
abbrev pub SavedStatesReadAgain : Type 0
SavedStatesReadAgain = (s : Sizes) (rank version : ℕ) (state : State) →
    AreSizes s → rank < s.ranks → is_read s version ≡ true → IsState IsSumsPart s rank state →
    checkpoint_of part_at s rank (spelled_state version s rank state) ≡ Ok state

abbrev pub SavedStatesAreSpelled : Type 0
SavedStatesAreSpelled = (s : Sizes) (rank : ℕ) (bytes : List ℕ) (state : State) →
    AreSizes s → AreBytes bytes → checkpoint_of part_at s rank bytes ≡ Ok state → Spells IsSumsPart s rank bytes state
