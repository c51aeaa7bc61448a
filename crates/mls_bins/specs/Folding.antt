-- What a fold over histograms answers of its text.
use Rattle.std.specs.Prelude.{◌≡◌, ℕ, ◌-◌, List, [], map, Option, Some, None, Result, Ok, Err}
use Rattle.mls_model.specs.declared.lanes.LaneLine.{LaneLine}
use Rattle.mls_model.specs.Numbers.{element}
use Rattle.mls_model.specs.Studies.{Study, plane_of}
use Rattle.mls_model.specs.Blocks.{block, rank_of}
use Rattle.mls_text.specs.Writing.{SinkState, Wrote, FailedAfter, sink_seen}
use Rattle.mls_field.specs.declared.fold.RowFold.{Ghosts}
use Rattle.mls_hist.specs.declared.hist.Hist.{Hist}
use Rattle.mls_hist.specs.Quartiles.{bracket_in}
use Rattle.mls_hist.specs.Stands.{row_count, bin_counts}
use Rattle.mls_hist.specs.BinsText.{cell_bins, whole_bins}
use Rattle.mls_rank.specs.declared.rank_core.RankCore.{RankCore}
use Rattle.mls_rank.specs.Cores.{sizes_of, rank_of as core_rank, counts_of, fold_of}
use Rattle.mls_result.specs.Histories.{AreCores}
use Rattle.mls_result.specs.declared.fault.FoldFault.{FoldFault}
use Rattle.mls_result.specs.declared.fault.FoldFault.TheVariants as fold

-- what is said of a step, field and cell from the counts at a plane and a place, with the brackets that they give
abbrev pub hist_said : Study → Hist → ℕ → ℕ → ℕ → ℕ → ℕ → List ℕ
hist_said study hist plane place step field x = cell_bins study step field x (row_count hist plane) (bin_counts hist plane place) (bracket_in (bin_counts hist plane place))

-- from what a core keeps of it
abbrev pub core_said : {T : Ghosts Hist} → Study → RankCore Hist T → ℕ → ℕ → ℕ → List ℕ
core_said study core step field x = hist_said study (fold_of core) (plane_of study.sizes step field) (x - (block (sizes_of core) (core_rank core)).first) step field x

-- from what the core of the rank whose block holds the cell keeps of it
abbrev pub kept_said : {T : Ghosts Hist} → Study → List (RankCore Hist T) → ℕ → ℕ → ℕ → List ℕ
kept_said study cores step field x = elim (rank_of study.sizes x) [ None ↦ [] | Some rank ↦ elim (element cores rank) [ None ↦ [] | Some core ↦ core_said study core step field x ] ]

-- The bins text of what the cores keep, whether they stand for histories or not.
unfoldable pub bins_states_text : {T : Ghosts Hist} → Study → List (RankCore Hist T) → List LaneLine → List ℕ
bins_states_text study cores lines = whole_bins study (map counts_of cores) lines (kept_said study cores)

-- A bins text of some cores of a study, one for each rank in order, and of these lines of lanes, goes out so.
pub record BinsOfCores (T : Ghosts Hist) (study : Study) (lines : List LaneLine) (goes : List ℕ → Type 0) : Type 0 where
  pub cores : List (RankCore Hist T)
  pub are : AreCores study.sizes cores
  pub goes_out : goes (bins_states_text study cores lines)

-- After Ok the text of some cores was appended, after a failed write a front of it, whether they stand for the ranks' histories or
-- not. After every other answer the sink is as before.
abbrev pub FoldsBins : (T : Ghosts Hist) → {A : Type 0} → Result A FoldFault → Study → List LaneLine → SinkState → SinkState → Type 0
FoldsBins T (Ok done) study lines old new = BinsOfCores T study lines (Wrote old new)
FoldsBins T (Err fold.WriteFault) study lines old new = BinsOfCores T study lines (FailedAfter old new)
FoldsBins T (Err fault) study lines old new = new ≡ old

-- the same of a sink, of which it is told what it holds, how many faults it had and how much it takes for sure
abbrev pub FoldsBinsTo : (T : Ghosts Hist) → {A S : Type 0} → (S → Option (List ℕ)) → (S → ℕ) → (S → ℕ) → S → S → Result A FoldFault → Study → List LaneLine → Type 0
FoldsBinsTo T told faults sure old new result study lines = FoldsBins T result study lines (sink_seen told faults sure old) (sink_seen told faults sure new)
