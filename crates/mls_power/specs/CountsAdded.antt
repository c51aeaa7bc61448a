-- A column of numbers to which counts are added, one at each place.
use Rattle.std.specs.Prelude.{◌≡◌, ℕ, ◌+◌, ◌<◌, ◌≤◌, List, slice_index}

-- The counts are added to so many numbers from `at` on. The other numbers stay.
pub record AreCountsAdded (at count : ℕ) (counts old new : List ℕ) : Type 0 where
  pub there : (k : ℕ) → k < count → slice_index new (at + k) ≡ slice_index old (at + k) + slice_index counts k
  pub before : (i : ℕ) → i < at → slice_index new i ≡ slice_index old i
  pub behind : (i : ℕ) → at + count ≤ i → slice_index new i ≡ slice_index old i
