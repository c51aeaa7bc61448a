-- What a fold answers: of its text and of its keepers.
use Rattle.std.specs.Prelude.{◌≡◌, ℕ, false, List, take, Option, Some, Result, Ok, Err, ⊤}
use Rattle.std.specs.List.{list_any}
use Rattle.mls_model.specs.Lanes.{Lane}
use Rattle.mls_model.specs.Survival.{is_save}
use Rattle.mls_book.specs.Books.{BookView}
use Rattle.mls_base.specs.declared.outside.Keeper as keeper
use Rattle.mls_model.specs.Numbers.{element}
use Rattle.mls_rank.specs.Standing.{StandsFor}
use Rattle.mls_book.specs.declared.faults.BookFault.{BookFault}
use Rattle.mls_book.specs.declared.faults.BookFault.TheVariants as book
use Rattle.mls_book.specs.Histories.{Sure}
use Rattle.mls_text.specs.Writing.{SinkState, Wrote, FailedAfter, sink_seen}
use Rattle.mls_model.specs.declared.lanes.LaneLine.{LaneLine}
use Rattle.mls_model.specs.Studies.{Sizes, Study}
use Rattle.mls_model.specs.Histories.{LaneEvent, history}
use Rattle.mls_model.specs.Standing.{Table}
use Rattle.mls_ckpt.specs.Reading.{Cursor, Read}
use Rattle.mls_field.specs.declared.field.Field.{Field}
use Rattle.mls_field.specs.declared.fold.RowFold.{Ghosts}
use Rattle.mls_rank.specs.declared.rank_core.RankCore.{RankCore}
use Rattle.mls_result.specs.Histories.{AreCores, states_text}
use Rattle.mls_result.specs.declared.fault.FoldFault.{FoldFault}
use Rattle.mls_result.specs.declared.fault.FoldFault.TheVariants as fold
use Rattle.mls_book.specs.Keepers.{KeeperState, keeper_seen, HaveRun, EndedAt, HasRun, HasFailed, HasGivenNone}

-- After Ok the text was appended, after a failed write a front of it. After every other answer the sink is as before.
abbrev pub Folds : {A : Type 0} → Result A FoldFault → List ℕ → SinkState → SinkState → Type 0
Folds (Ok done) text old new = Wrote old new text
Folds (Err fold.WriteFault) text old new = FailedAfter old new text
Folds (Err fault) text old new = new ≡ old

-- the same of a sink, of which it is told what it holds, how many faults it had and how much it takes for sure
abbrev pub FoldsTo : {A S : Type 0} → (S → Option (List ℕ)) → (S → ℕ) → (S → ℕ) → S → S → Result A FoldFault → List ℕ → Type 0
FoldsTo told faults sure old new result text = Folds result text (sink_seen told faults sure old) (sink_seen told faults sure new)

-- A text of some cores of a study, one for each rank in order, and of these lines of lanes, goes out so.
pub record OfCores (T : Ghosts Field) (study : Study) (lines : List LaneLine) (goes : List ℕ → Type 0) : Type 0 where
  pub cores : List (RankCore Field T)
  pub are : AreCores study.sizes cores
  pub goes_out : goes (states_text study cores lines)

-- The same of a fold whose text is of some cores, whether they stand for the ranks' histories or not.
abbrev pub FoldsCores : (T : Ghosts Field) → {A : Type 0} → Result A FoldFault → Study → List LaneLine → SinkState → SinkState → Type 0
FoldsCores T (Ok done) study lines old new = OfCores T study lines (Wrote old new)
FoldsCores T (Err fold.WriteFault) study lines old new = OfCores T study lines (FailedAfter old new)
FoldsCores T (Err fault) study lines old new = new ≡ old

-- the same of a sink
abbrev pub FoldsCoresTo : (T : Ghosts Field) → {A S : Type 0} → (S → Option (List ℕ)) → (S → ℕ) → (S → ℕ) → S → S → Result A FoldFault → Study → List LaneLine → Type 0
FoldsCoresTo T told faults sure old new result study lines = FoldsCores T result study lines (sink_seen told faults sure old) (sink_seen told faults sure new)

-- Each core stands for its rank's history, where that is sure of its rank's keeper.
abbrev pub StandSure : {F K : Type 0} {T : Ghosts F} → keeper.Ghosts K → List (RankCore F T) → List K → (ℕ → List LaneEvent) → Type 0
StandSure {F} {K} {T} U cores keepers histories = (rank : ℕ) (core : RankCore F T) (keeper : K) → element cores rank ≡ Some core → element keepers rank ≡ Some keeper → Sure (U.held keeper) (histories rank) → StandsFor core (histories rank)

-- The keepers after a run that was answered so. After Ok and a failed write each has run; a rank's fault says which have, and what
-- the rank's own keeper did.
abbrev pub KeepersAfter : {A : Type 0} → Result A FoldFault → (Sizes → ℕ → Table → List ℕ) → (Sizes → ℕ → List ℕ → Cursor → Read Cursor) → Sizes → (ℕ → List LaneEvent) → List KeeperState → List KeeperState → Type 0
KeepersAfter (Ok done) part_of part_at s histories old new = HaveRun part_of s histories s.ranks old new
KeepersAfter (Err fold.WriteFault) part_of part_at s histories old new = HaveRun part_of s histories s.ranks old new
KeepersAfter (Err (fold.KeeperFault rank)) part_of part_at s histories old new = EndedAt part_of s histories rank (HasFailed (histories rank)) old new
KeepersAfter (Err (fold.CheckpointBad rank at why)) part_of part_at s histories old new = EndedAt part_of s histories rank (HasGivenNone part_at s rank at why (histories rank)) old new
KeepersAfter (Err fold.Memory) part_of part_at s histories old new = ⊤

-- The keeper of a rank after its list was run, or after the fault that ended it.
abbrev pub RankEnds : {A : Type 0} → Result A FoldFault → (Sizes → ℕ → Table → List ℕ) → (Sizes → ℕ → List ℕ → Cursor → Read Cursor) → Sizes → (rank : ℕ) → List LaneEvent → KeeperState → KeeperState → Type 0
RankEnds (Ok done) part_of part_at s rank history old new = HasRun part_of s rank history old new
RankEnds (Err (fold.KeeperFault r)) part_of part_at s rank history old new = (r ≡ rank) × HasFailed history old new
RankEnds (Err (fold.CheckpointBad r at why)) part_of part_at s rank history old new = (r ≡ rank) × HasGivenNone part_at s rank at why history old new
RankEnds (Err fold.WriteFault) part_of part_at s rank history old new = ⊥
RankEnds (Err fold.Memory) part_of part_at s rank history old new = ⊤

-- why a fold ends whose rank's book refused an event
abbrev pub fault_at : ℕ → BookFault → FoldFault
fault_at rank book.KeeperFault = fold.KeeperFault rank
fault_at rank (book.CheckpointBad at why) = fold.CheckpointBad rank at why
fault_at rank book.Memory = fold.Memory

-- A book after the first places of a rank's list: it is the one that was handed in but for what it took, and its keeper ran over
-- their events.
pub record IsUnderWay {T F K : Type 0} (R : Ghosts F) (U : keeper.Ghosts K) (lanes : List Lane) (order : List ℕ) (place : ℕ) (old new : BookView T F K) : Type 0 where
  pub same : new.lanes ≡ old.lanes
  pub sizes : new.core.sizes ≡ old.core.sizes
  pub rank : new.core.rank ≡ old.core.rank
  pub journal : new.journal ≡ take place order
  pub runs : HasRun R.part_of old.core.sizes old.core.rank (history lanes (take place order)) (keeper_seen U old.keeper) (keeper_seen U new.keeper)
  pub quiet : list_any is_save (history lanes order) ≡ false → new.keeper ≡ old.keeper
