-- The numbers of one cell, in the front of a list.
use Rattle.std.specs.Prelude.{◌≡◌, ℕ, ◌+◌, ◌*◌, ◌<◌, ◌≤◌, List, slice_index}

-- a row of n samples, which stand in a list from a place on, each so many places after the one before
pub record IsRowAt (n places at : ℕ) (samples row : List ℕ) : Type 0 where
  pub each : (r : ℕ) → r < n → slice_index row r ≡ slice_index samples (at + r * places)

-- two lists have the same numbers in front
pub record SameFront (size : ℕ) (xs ys : List ℕ) : Type 0 where
  pub each : (c : ℕ) → c < size → slice_index xs c ≡ slice_index ys c

-- each number in front is what a row makes of it
pub record Stepped (step : ℕ → List ℕ → ℕ → ℕ) (size : ℕ) (row old new : List ℕ) : Type 0 where
  pub each : (c : ℕ) → c < size → slice_index new c ≡ step c row (slice_index old c)

-- so many rows can be added to numbers
pub record HasRoomFor (within : ℕ → List ℕ → Type 0) (more : ℕ) (numbers : List ℕ) : Type 0 where
  pub count : ℕ
  pub few : count + more ≤ 65535
  pub range : within count numbers
