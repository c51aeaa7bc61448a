-- Numbers of each plane of a study.
use Rattle.std.specs.Prelude.{◌≡◌, ◌==◌, ℕ, ◌+◌, List, map, cond}
use Rattle.mls_model.specs.Numbers.{below}
use Rattle.mls_model.specs.Studies.{Sizes, planes}

abbrev pub by_plane : Sizes → (ℕ → ℕ) → List ℕ
by_plane s count = map count (below (planes s))

-- one more of a plane, and as many of each other
abbrev pub IsOneMore : (ℕ → ℕ) → (ℕ → ℕ) → ℕ → Type 0
IsOneMore old new step = (plane : ℕ) → new plane ≡ cond (plane == step) (old plane + 1) (old plane)
