-- Which names stand twice.
use Rattle.std.specs.Prelude.{ℕ, Bool, List, [], ◌∷◌, ◌++◌, length, position, bytes_eq, Option, Some, None, if◌then◌else◌}
use Rattle.std.specs.List.{list_any}
use Rattle.mls_model.specs.Studies.{Parameter as Declared}

-- whether a parameter has the name
abbrev pub is_called : List ℕ → Declared → Bool
is_called name p = bytes_eq name p.name

-- the first place whose parameter has the name
abbrev pub place_in : List ℕ → List Declared → Option ℕ
place_in name ps = position (is_called name) ps

-- the first place, after the parameters before, whose name stands at an earlier place
unfoldable pub duplicate_from : List Declared → List Declared → Option ℕ
duplicate_from before [] = None
duplicate_from before (p ∷ ps) = if list_any (is_called p.name) before then Some (length before) else duplicate_from (before ++ p ∷ []) ps
