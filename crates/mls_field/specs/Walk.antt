-- Lists of numbers in rows of so many places, to which eight rows of samples are added.
use Rattle.std.specs.Prelude.{◌≡◌, ◌≢◌, ℕ, ◌+◌, ◌*◌, ◌<◌, ◌≤◌, List, slice_index}
use Rattle.mls_power.specs.Columns.{after}

-- so many columns from a row on, at the places from `from` to before `end`, were given eight rows, and all other numbers stay
pub record Walk (row columns places from end : ℕ) (old new : List ℕ) (step : ℕ → ℕ → ℕ → ℕ → ℕ) : Type 0 where
  pub there : (c i : ℕ) → c < columns → from ≤ i → i < end → slice_index new ((row + c) * places + i) ≡ after (step c i) 8 (slice_index old ((row + c) * places + i))
  pub rest : (j : ℕ) → ((c i : ℕ) → c < columns → from ≤ i → i < end → j ≢ (row + c) * places + i) → slice_index new j ≡ slice_index old j
