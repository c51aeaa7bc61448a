-- How the counts of a rank's block lie in a list, 64 for each place of a plane, and what holds of them where up to seven rows of a plane wait to be added.
use Rattle.std.specs.Prelude.{◌≡◌, ℕ, ◌+◌, ◌*◌, ◌<◌, ◌≤◌, List, length, map, sum, slice_index}
use Rattle.mls_model.specs.Numbers.{below}
use Rattle.mls_model.specs.Studies.{Sizes, planes}
use Rattle.mls_model.specs.Blocks.{block, width}
use Rattle.mls_model.specs.CellSums.{both}
use Rattle.mls_model.specs.Standing.{Table}
use Rattle.mls_hist.specs.Bins.{count_in}
use Rattle.mls_hist.specs.Waiting.{column, plane_start}

-- where the counts of the cell at a place of a plane begin
abbrev pub cell_start : ℕ → ℕ → ℕ → ℕ
cell_start places plane place = (plane * places + place) * 64

-- how many samples of the cell a bin holds: those that were added, and those that wait
unfoldable pub count_at : ℕ → List ℕ → List ℕ → List ℕ → ℕ → ℕ → ℕ → ℕ
count_at places waiting bins samples plane place bin =
    slice_index bins (cell_start places plane place + bin) + count_in bin (column places samples (plane_start places plane + place) (2 * slice_index waiting plane))

unfoldable pub counts_at : ℕ → List ℕ → List ℕ → List ℕ → ℕ → ℕ → List ℕ
counts_at places waiting bins samples plane place = map (count_at places waiting bins samples plane place) (below 64)

-- what holds also where the counts stand for no rows
pub record IsHist (s : Sizes) (rank places : ℕ) (counts waiting bins samples : List ℕ) : Type 0 where
  pub rank_in : rank < s.ranks
  pub block_width : places ≡ width (block s rank)
  pub each_plane : length counts ≡ planes s
  pub each_waits : length waiting ≡ planes s
  pub few : (plane : ℕ) → slice_index counts plane ≤ 65535
  pub few_wait : (plane : ℕ) → slice_index waiting plane ≤ 7
  pub long : length bins ≡ planes s * places * 64
  pub room : length samples ≡ planes s * (16 * places)
  pub small : (i : ℕ) → slice_index samples i ≤ 65535
  pub whole : (plane place : ℕ) → plane < planes s → place < places → sum (counts_at places waiting bins samples plane place) ≡ 2 * slice_index counts plane

-- Each plane has as many rows at each place as were given to it, and the counts of a cell are those of the samples A and B of its rows.
pub record HoldsTable (s : Sizes) (places : ℕ) (counts waiting bins samples : List ℕ) (table : Table) : Type 0 where
  pub counted : (plane place : ℕ) → plane < planes s → place < places → length (table plane place) ≡ slice_index counts plane
  pub each : (plane place bin : ℕ) → plane < planes s → place < places → bin < 64 → count_at places waiting bins samples plane place bin ≡ count_in bin (both (table plane place))
