-- Numbers of up to 64 cells that were copied from the columns of a plane, in columns of 64 places.
use Rattle.std.specs.Prelude.{◌≡◌, ℕ, ◌+◌, ◌*◌, ◌<◌, ◌≤◌, List, map, slice_index}
use Rattle.mls_model.specs.Numbers.{below}

-- the numbers of the cell at a place
abbrev pub copied : ℕ → List ℕ → ℕ → List ℕ
copied size columns place = map (λ c. slice_index columns (c * 64 + place)) (below size)

-- so many columns were copied from a list where each row has a number for each place, from a row and a place on
pub record AreCopied (row size places from count : ℕ) (words columns : List ℕ) : Type 0 where
  pub each : (c k : ℕ) → c < size → k < count → slice_index columns (c * 64 + k) ≡ slice_index words ((row + c) * places + (from + k))

-- the numbers at so many places from `at` on have grown, and all others stay
pub record Added (at count : ℕ) (old new : List ℕ) (more : ℕ → ℕ) : Type 0 where
  pub there : (k : ℕ) → k < count → slice_index new (at + k) ≡ slice_index old (at + k) + more k
  pub before : (i : ℕ) → i < at → slice_index new i ≡ slice_index old i
  pub behind : (i : ℕ) → at + count ≤ i → slice_index new i ≡ slice_index old i

-- the numbers at so many places from `at` on are what a step made of them, and all others stay
pub record Changed (at count : ℕ) (old new : List ℕ) (step : ℕ → ℕ → ℕ) : Type 0 where
  pub there : (k : ℕ) → k < count → slice_index new (at + k) ≡ step k (slice_index old (at + k))
  pub before : (i : ℕ) → i < at → slice_index new i ≡ slice_index old i
  pub behind : (i : ℕ) → at + count ≤ i → slice_index new i ≡ slice_index old i

-- the numbers of a place in four columns have grown
abbrev pub FourGrown : ℕ → ℕ → List ℕ → List ℕ → (ℕ → ℕ) → Type 0
FourGrown column place old new more =
    (d : ℕ) → d < 4 → slice_index new ((column + d) * 64 + place) ≡ slice_index old ((column + d) * 64 + place) + more d

-- there is room in them for what a row adds at most
abbrev pub HaveRoom : ℕ → ℕ → List ℕ → (ℕ → ℕ) → Type 0
HaveRoom column count sums most =
    (d k : ℕ) → d < 4 → k < count → slice_index sums ((column + d) * 64 + k) + most d < 18446744073709551616

-- all numbers outside of four columns stay
pub record FourStay (column : ℕ) (old new : List ℕ) : Type 0 where
  pub before : (i : ℕ) → i < column * 64 → slice_index new i ≡ slice_index old i
  pub behind : (i : ℕ) → (column + 4) * 64 ≤ i → slice_index new i ≡ slice_index old i
