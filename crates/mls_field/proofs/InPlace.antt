-- Lists whose slices were changed in place.
use Rattle.std.proofs.Common.{◌≡◌, ℕ, List, ◌++◌, length, take, drop, replicate, ap, ◌∙◌, sym, subst}
use Rattle.std.proofs.lemmas.List.{take_at}

-- a list whose slice was changed in place
pub spliced : (items held new : List ℕ) (len : ℕ) → length held ≡ len → length new ≡ length held → take len (new ++ drop (length new) items) ≡ new
spliced items held new len size whole = take_at new (drop (length new) items) len (whole ∙ size)

pub long_as_before : (items held new : List ℕ) (len : ℕ) → held ≡ items → length held ≡ len → length new ≡ length held → length (take len (new ++ drop (length new) items)) ≡ length items
long_as_before items held new len same size whole = ap length (spliced items held new len size whole) ∙ (whole ∙ ap length same)

pub filled : (items held new : List ℕ) (len : ℕ) → held ≡ items → length held ≡ len → new ≡ replicate (length held) 0 → length new ≡ length held → take len (new ++ drop (length new) items) ≡ replicate (length items) 0
filled items held new len same size zeroed whole = spliced items held new len size whole ∙ (zeroed ∙ ap (λ (xs : List ℕ). replicate (length xs) 0) same)

pub replaced : (P : List ℕ → Type 0) (items held new : List ℕ) (len : ℕ) → length held ≡ len → length new ≡ length held → P new → P (take len (new ++ drop (length new) items))
replaced P items held new len size whole p = subst P (sym (spliced items held new len size whole)) p
