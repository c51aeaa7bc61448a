-- The text of a study from the histories of its ranks.
use Rattle.std.specs.Prelude.{◌≡◌, ℕ, ◌-◌, ◌<◌, List, [], length, get_or, map, Some, None}
use Rattle.mls_model.specs.declared.lanes.LaneLine.{LaneLine}
use Rattle.mls_model.specs.Numbers.{element}
use Rattle.mls_model.specs.Studies.{Sizes, Study}
use Rattle.mls_model.specs.Blocks.{block, rank_of}
use Rattle.mls_model.specs.CellSums.{CellSums}
use Rattle.mls_model.specs.SumsText.{sums_said, text_of_sums}
use Rattle.mls_model.specs.Histories.{LaneEvent}
use Rattle.mls_field.specs.declared.fold.RowFold.{Ghosts}
use Rattle.mls_field.specs.declared.field.Field.{Field}
use Rattle.mls_field.specs.Kept.{sums_at}
use Rattle.mls_rank.specs.declared.rank_core.RankCore.{RankCore}
use Rattle.mls_rank.specs.Cores.{sizes_of, rank_of as core_rank, counts_of, fold_of}
use Rattle.mls_rank.specs.Standing.{StandsFor}

-- One core for each rank of a study, in order.
pub record AreCores {F : Type 0} {T : Ghosts F} (s : Sizes) (cores : List (RankCore F T)) : Type 0 where
  pub count : length cores ≡ s.ranks
  pub sizes : (rank : ℕ) (d : RankCore F T) → rank < length cores → sizes_of (get_or cores rank d) ≡ s
  pub ranks : (rank : ℕ) (d : RankCore F T) → rank < length cores → core_rank (get_or cores rank d) ≡ rank

-- Each core stands for its rank's history.
pub record AllStand {F : Type 0} {T : Ghosts F} (cores : List (RankCore F T)) (histories : ℕ → List LaneEvent) : Type 0 where
  pub each : (rank : ℕ) (d : RankCore F T) → rank < length cores → StandsFor (get_or cores rank d) (histories rank)

-- What the core of the rank whose block holds a cell keeps of a plane and this cell.
abbrev pub no_sums : CellSums
no_sums = record { rows = 0; p1 = 0; p2 = 0; p3 = 0; p4 = 0; least = 0; greatest = 0; above = []; products = [] }

abbrev pub core_sums : {T : Ghosts Field} → RankCore Field T → ℕ → ℕ → CellSums
core_sums core plane x = sums_at (fold_of core) plane (x - (block (sizes_of core) (core_rank core)).first)

abbrev pub kept_sums : {T : Ghosts Field} → Sizes → List (RankCore Field T) → ℕ → ℕ → CellSums
kept_sums s cores plane x = elim (rank_of s x) [ None ↦ no_sums | Some rank ↦ elim (element cores rank) [ None ↦ no_sums | Some core ↦ core_sums core plane x ] ]

-- what is said of a step, field and cell from that
abbrev pub kept_said : {T : Ghosts Field} → Study → List (RankCore Field T) → ℕ → ℕ → ℕ → List ℕ
kept_said study cores = sums_said study (kept_sums study.sizes cores)

-- The result text of what the cores keep, whether they stand for histories or not.
unfoldable pub states_text : {T : Ghosts Field} → Study → List (RankCore Field T) → List LaneLine → List ℕ
states_text study cores lines = text_of_sums study (map counts_of cores) lines (kept_sums study.sizes cores)
