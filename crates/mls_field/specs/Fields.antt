-- How the sums of a rank's block lie in lists of numbers, a list for each kind, and what holds of them, where up to seven rows of a plane wait to be added.
use Rattle.std.specs.Prelude.{◌≡◌, ℕ, ◌+◌, ◌-◌, ◌*◌, ◌<◌, ◌≤◌, List, length, slice_index}
use Rattle.std.specs.List.{AllByRecursion}
use Rattle.mls_model.specs.Studies.{Sizes, planes}
use Rattle.mls_model.specs.Blocks.{block, width}
use Rattle.mls_model.specs.Standing.{Table}
use Rattle.mls_field.specs.Cells.{cell_of, whole_cell}
use Rattle.mls_field.specs.ColumnSums.{sums_size, sums_step}
use Rattle.mls_field.specs.OutputSteps.{ends_step, numbers_step}
use Rattle.mls_field.specs.Kinds.{SumsWithin, HoldSums, ExtremaWithin, HoldExtrema, NumbersWithin, HoldNumbers}

-- One kind of numbers of so many planes and places: the numbers of each cell may be those of the rows that were added to its plane.
pub record IsPart (within : ℕ → List ℕ → Type 0) (size planes places : ℕ) (added : ℕ → ℕ) (numbers : List ℕ) : Type 0 where
  pub long : length numbers ≡ planes * size * places
  pub range : (plane place : ℕ) → plane < planes → place < places → within (added plane) (cell_of size places numbers plane place)

-- the numbers of each cell, with the rows that wait, are those of its rows
pub record HoldsPart (holds : List ℕ → List (List ℕ) → Type 0) (planes places : ℕ) (cell : ℕ → ℕ → List ℕ) (table : Table) : Type 0 where
  pub each : (plane place : ℕ) → plane < planes → place < places → holds (cell plane place) (table plane place)

-- how many rows of a plane were added, where so many were given and so many of them wait
abbrev pub added_of : List ℕ → List ℕ → ℕ → ℕ
added_of counts waiting plane = slice_index counts plane - slice_index waiting plane

-- the numbers of a cell, with the rows that wait
abbrev pub sums_cell : Sizes → ℕ → List ℕ → List ℕ → List ℕ → ℕ → ℕ → List ℕ
sums_cell s places waiting sums samples plane place = whole_cell (sums_step s.parameters) (sums_size s.parameters) places sums (s.parameters + 2) samples (slice_index waiting plane) plane place

abbrev pub ends_cell : Sizes → ℕ → List ℕ → List ℕ → List ℕ → ℕ → ℕ → List ℕ
ends_cell s places waiting ends samples plane place = whole_cell ends_step 2 places ends (s.parameters + 2) samples (slice_index waiting plane) plane place

abbrev pub numbers_cell : Sizes → ℕ → List ℕ → List ℕ → List ℕ → ℕ → ℕ → List ℕ
numbers_cell s places waiting numbers samples plane place = whole_cell (numbers_step s.thresholds) (length s.thresholds) places numbers (s.parameters + 2) samples (slice_index waiting plane) plane place

-- what holds also where the sums stand for no rows
pub record IsField (s : Sizes) (rank places : ℕ) (counts waiting sums ends numbers samples : List ℕ) : Type 0 where
  pub rank_in : rank < s.ranks
  pub block_width : places ≡ width (block s rank)
  pub each_plane : length counts ≡ planes s
  pub each_waits : length waiting ≡ planes s
  pub few : (plane : ℕ) → slice_index counts plane ≤ 65535
  pub few_wait : (plane : ℕ) → slice_index waiting plane ≤ 7
  pub given : (plane : ℕ) → slice_index waiting plane ≤ slice_index counts plane
  pub room : length samples ≡ planes s * (8 * ((s.parameters + 2) * places))
  pub small : (i : ℕ) → slice_index samples i ≤ 65535
  pub sums_in : IsPart (SumsWithin s.parameters) (sums_size s.parameters) (planes s) places (added_of counts waiting) sums
  pub extrema_in : IsPart ExtremaWithin 2 (planes s) places (added_of counts waiting) ends
  pub numbers_in : IsPart NumbersWithin (length s.thresholds) (planes s) places (added_of counts waiting) numbers

-- Each plane has as many rows at each place as were given to it, each row has p + 2 samples, and the sums of a cell are those of its rows.
pub record HoldsTable (s : Sizes) (places : ℕ) (counts waiting sums ends numbers samples : List ℕ) (table : Table) : Type 0 where
  pub counted : (plane place : ℕ) → plane < planes s → place < places → length (table plane place) ≡ slice_index counts plane
  pub whole : (plane place : ℕ) → plane < planes s → place < places → AllByRecursion (λ row. length row ≡ s.parameters + 2) (table plane place)
  pub sums_of : HoldsPart (HoldSums s.parameters) (planes s) places (sums_cell s places waiting sums samples) table
  pub extrema_of : HoldsPart HoldExtrema (planes s) places (ends_cell s places waiting ends samples) table
  pub numbers_of : HoldsPart (HoldNumbers s.thresholds) (planes s) places (numbers_cell s places waiting numbers samples) table
