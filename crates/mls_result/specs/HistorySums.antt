-- What cores keep of the histories of their ranks, in numbers.
use Rattle.std.specs.Prelude.{◌≡◌, ◌<◌, ℕ, List, map}
use Rattle.mls_model.specs.Studies.{Sizes, AreSizes, planes}
use Rattle.mls_model.specs.Histories.{LaneEvent}
use Rattle.mls_model.specs.Statistics.{outputs, total, squares}
use Rattle.mls_model.specs.SumsText.{height, first_power, second_power}
use Rattle.mls_model.specs.ResultText.{history_counts, history_rows}
use Rattle.mls_field.specs.declared.field.Field.{Field}
use Rattle.mls_field.specs.declared.fold.RowFold.{Ghosts}
use Rattle.mls_rank.specs.declared.rank_core.RankCore.{RankCore}
use Rattle.mls_rank.specs.Cores.{counts_of}
use Rattle.mls_result.specs.Histories.{AreCores, AllStand, kept_sums}

-- The counts are those of the histories, and what is kept of each plane and cell adds up the values of its rows.
pub record KeepHistories {T : Ghosts Field} (s : Sizes) (cores : List (RankCore Field T)) (histories : ℕ → List LaneEvent) : Type 0 where
  pub counts : map counts_of cores ≡ history_counts s histories
  pub first : (plane x : ℕ) → plane < planes s → x < s.cells → first_power (height s.signed) (kept_sums s cores plane x) ≡ total (outputs (history_rows s histories plane x))
  pub second : (plane x : ℕ) → plane < planes s → x < s.cells → second_power (height s.signed) (kept_sums s cores plane x) ≡ squares (outputs (history_rows s histories plane x))

-- Cores that stand for histories keep them so.
abbrev pub KeepTheirHistories : Ghosts Field → Type 0
KeepTheirHistories T = (s : Sizes) (cores : List (RankCore Field T)) (histories : ℕ → List LaneEvent) → AreSizes s → AreCores s cores → AllStand cores histories → KeepHistories s cores histories
