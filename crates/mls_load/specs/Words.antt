-- The rule of words that both programs share, and how what was read of words agrees with it.
use Rattle.std.specs.Prelude.{◌≡◌, ℕ, Bool, false, not, List, [], ◌∷◌, Option, Some, None, Result, Ok, Err, ◌==◌}
use Rattle.mls_load.specs.declared.words.WordsFault.{WordsFault}
use Rattle.mls_load.specs.declared.words.WordsFault.TheVariants.{Usage, Memory}

-- a word that is not empty and does not begin with -
abbrev pub is_word : List ℕ → Bool
is_word [] = false
is_word (b ∷ bs) = not (b == 45)

abbrev pub IsThere : {A : Type 0} → Option A → Type 0
IsThere None = ⊥
IsThere (Some x) = Unit {0}

-- What was read, seen by view, is what the words say; usage is answered where they say nothing, and want of memory only where they do.
abbrev pub ReadsAs : {A B : Type 0} → (A → B) → Result A WordsFault → Option B → Type 0
ReadsAs view (Ok x) right = right ≡ Some (view x)
ReadsAs view (Err Usage) right = right ≡ None
ReadsAs view (Err Memory) right = IsThere right

-- A number is read as the word spells it; usage is answered exactly where it spells none.
abbrev pub ReadsNumber : Result ℕ WordsFault → Option ℕ → Type 0
ReadsNumber (Ok n) right = right ≡ Some n
ReadsNumber (Err fault) right = (fault ≡ Usage) × (right ≡ None)
