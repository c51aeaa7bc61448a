-- The bytes of each plane's marks, as they stand in a checkpoint.
use Rattle.std.specs.Prelude.{◌≡◌, ℕ, zero, suc, List, [], ◌∷◌, map, take, drop}
use Rattle.mls_model.specs.Studies.{Sizes, planes}
use Rattle.mls_model.specs.Completion.{Key}
use Rattle.mls_ckpt.specs.States.{row_len, AreMarks}
use Rattle.mls_ckpt.specs.States as states
use Rattle.mls_ledger.specs.MarkSets.{MarkSet, is_marked, plane_counts}

-- a list cut into so many rows of a length
abbrev pub rows_in : ℕ → ℕ → List ℕ → List (List ℕ)
rows_in size zero bytes = []
rows_in size (suc n) bytes = take size bytes ∷ rows_in size n (drop size bytes)

-- the bytes of each plane, in rising plane
abbrev pub rows_of : MarkSet → List (List ℕ)
rows_of m = rows_in (row_len m.groups) m.planes m.bytes

-- what of a study's numbers a set of its keys has
pub record IsOf (s : Sizes) (m : MarkSet) : Type 0 where
  pub groups : m.groups ≡ s.groups
  pub planes : m.planes ≡ planes s

-- A set's bytes are valid marks of each study that has its numbers. They mark the keys of the set and no other, and as many of each plane.
pub record AreRows (m : MarkSet) : Type 0 where
  pub valid : (s : Sizes) → IsOf s m → AreMarks s (rows_of m)
  pub marks : (key : Key) → states.is_marked (rows_of m) key ≡ is_marked m key.group key.plane
  pub counts : map (states.marked m.groups) (rows_of m) ≡ plane_counts m
