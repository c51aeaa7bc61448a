-- The parts of the design text.
use Rattle.std.specs.Prelude.{ℕ, List, [], ◌∷◌, ℤ, codes, decimal}
use Rattle.std.specs.Fmt.{signed_decimal}
use Rattle.std.specs.List.{flat_map}
use Rattle.mls_model.specs.Numbers.{below, joined}
use Rattle.mls_model.specs.Studies.{Study}
use Rattle.mls_model.specs.Designs.{group_lines}

-- melissa-design 1, and the line's end
unfoldable pub title_words : List ℕ
title_words = codes "melissa-design 1\n"

-- group G sim S
unfoldable pub line_start : ℕ → ℕ → List ℕ
line_start group sim = joined (codes "group " ∷ decimal group ∷ codes " sim " ∷ decimal sim ∷ [])

-- a blank and a value
unfoldable pub value_words : ℤ → List ℕ
value_words v = joined (codes " " ∷ signed_decimal v ∷ [])

-- the lines of all groups
unfoldable pub all_lines : Study → List ℕ
all_lines study = flat_map (λ group. group_lines study group) (below study.sizes.groups)

-- end, and the line's end
unfoldable pub end_words : List ℕ
end_words = codes "end\n"
