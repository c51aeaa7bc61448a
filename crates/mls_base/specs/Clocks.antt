-- The times that a clock gives.
use Rattle.std.specs.Prelude.{ℕ, List, [], ◌∷◌}

-- what follows the first of the times; the last one stays
abbrev pub after_first : List ℕ → List ℕ
after_first [] = []
after_first (time ∷ []) = time ∷ []
after_first (time ∷ next ∷ times) = next ∷ times
