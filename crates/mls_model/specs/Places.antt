-- A place in a list is what stands before it and the element there. Three recursions over places carry the
-- definitions of histories, survival, completion, outcomes and rows.
use Rattle.std.specs.Prelude.{Bool, true, false, ◌&&◌, ◌||◌, List, [], ◌∷◌, ◌++◌}

-- what give makes of each place, in order
unfoldable pub gathered : {A B : Type 0} → (List A → A → List B) → List A → List A → List B
gathered give before [] = []
gathered give before (x ∷ rest) = give before x ++ gathered give (before ++ x ∷ []) rest

-- whether some place passes the test
unfoldable pub any_place : {A : Type 0} → (List A → A → Bool) → List A → List A → Bool
any_place test before [] = false
any_place test before (x ∷ rest) = test before x || any_place test (before ++ x ∷ []) rest

-- whether each place does
unfoldable pub all_places : {A : Type 0} → (List A → A → Bool) → List A → List A → Bool
all_places test before [] = true
all_places test before (x ∷ rest) = test before x && all_places test (before ++ x ∷ []) rest
