-- What a run answers whose ranks go on from bytes: of its text and of its keepers.
use Rattle.std.specs.Prelude.{◌≡◌, ℕ, ◌+◌, ◌^◌, ◌<◌, ◌≤◌, false, cond, List, [], ◌∷◌, ◌++◌, length, get_or, slice_index, take, Option, Some, IsSome, Result, Ok, Err, ⊤}
use Rattle.std.specs.List.{list_any}
use Rattle.mls_base.specs.declared.outside.Keeper as keeper
use Rattle.mls_base.specs.Told.{replaced, StaysSound}
use Rattle.mls_model.specs.Numbers.{element, times}
use Rattle.mls_model.specs.Lanes.{Lane}
use Rattle.mls_model.specs.Studies.{Sizes, Study}
use Rattle.mls_model.specs.Histories.{LaneEvent, history}
use Rattle.mls_model.specs.Standing.{Table}
use Rattle.mls_model.specs.Survival.{is_save, before_last_save}
use Rattle.mls_model.specs.ResultText.{history_text, histories_of, lines_of}
use Rattle.mls_ckpt.specs.Reading.{Cursor, Read}
use Rattle.mls_ckpt.specs.Histories.{checkpoint}
use Rattle.mls_field.specs.declared.fold.RowFold.{Ghosts}
use Rattle.mls_rank.specs.declared.rank_core.RankCore.{RankCore}
use Rattle.mls_rank.specs.Standing.{StandsFor}
use Rattle.mls_book.specs.declared.saved_rank.SavedRank.{SavedRank}
use Rattle.mls_book.specs.SavedRanks.{study_of, number_of, total_of, saved_of, keeper_of, CarriesHistory, CountsFew}
use Rattle.mls_book.specs.Histories.{Sure}
use Rattle.mls_book.specs.Runs.{gets_over}
use Rattle.mls_book.specs.Keepers.{KeeperState, keeper_seen, AtRank, AreLeft, HasFailed, HasGivenNone}
use Rattle.mls_result.specs.declared.fault.FoldFault.{FoldFault}
use Rattle.mls_result.specs.declared.fault.FoldFault.TheVariants as fold
use Rattle.mls_resume.specs.Opening.{saved_event, OpensWith}

-- the whole history of a rank: what stood before, the save whose bytes it goes on from, and the events of this run
abbrev pub whole_of : (before run : List LaneEvent) → List LaneEvent
whole_of before run = before ++ saved_event ∷ run

-- of all ranks
abbrev pub wholes_of : (before runs : ℕ → List LaneEvent) → ℕ → List LaneEvent
wholes_of before runs rank = whole_of (before rank) (runs rank)

-- the result text over these whole histories, with the lines of the lanes of this run
abbrev pub resumed_text : Study → List Lane → List (List ℕ) → (before : ℕ → List LaneEvent) → List ℕ
resumed_text study lanes orders before = history_text study (wholes_of before (histories_of lanes orders)) (lines_of lanes)

-- each rank's list opens with its history
abbrev pub AllOpen : {F : Type 0} (T : Ghosts F) → Sizes → List (List ℕ) → ℕ → List LaneEvent → Type 0
AllOpen T s openings rank before = OpensWith T s rank (get_or openings rank []) before

-- what a keeper that tells holds after this run: the checkpoint up to its last save, and where none stands in it what it held before
abbrev pub held_on : (Sizes → ℕ → Table → List ℕ) → Sizes → ℕ → (before run : List LaneEvent) → Option (Option (List ℕ)) → Option (Option (List ℕ))
held_on part_of s rank before run held = cond (list_any is_save run) (replaced held (Some (checkpoint part_of s rank (before_last_save (whole_of before run))))) held

-- A keeper after the whole list of its rank, for each history that stood before: it was read at each crash behind a save of this run, and no call failed.
pub record HasGoneOn (part_of : Sizes → ℕ → Table → List ℕ) (s : Sizes) (rank : ℕ) (opens : List LaneEvent → Type 0) (run : List LaneEvent) (old new : KeeperState) : Type 0 where
  pub held : (before : List LaneEvent) → opens before → new.held ≡ held_on part_of s rank before run old.held
  pub told : IsSome old.held → IsSome new.held
  pub gets : new.gets ≡ gets_over run old.gets
  pub faults : new.faults ≡ old.faults
  pub sound : StaysSound old.sound new.sound

-- the keepers of the ranks below one after their whole lists
abbrev pub HaveGoneOn : (Sizes → ℕ → Table → List ℕ) → Sizes → (opens : ℕ → List LaneEvent → Type 0) → (runs : ℕ → List LaneEvent) → ℕ → List KeeperState → List KeeperState → Type 0
HaveGoneOn part_of s opens runs end old new = (rank : ℕ) → rank < end → AtRank rank old new (HasGoneOn part_of s rank (opens rank) (runs rank))

-- The run of a rank ended so. The ranks below it ran over their whole lists, and those above it didn't begin.
pub record StoppedAt (part_of : Sizes → ℕ → Table → List ℕ) (s : Sizes) (opens : ℕ → List LaneEvent → Type 0) (runs : ℕ → List LaneEvent) (rank : ℕ) (relation : KeeperState → KeeperState → Type 0) (old new : List KeeperState) : Type 0 where
  pub here : rank < s.ranks
  pub below : HaveGoneOn part_of s opens runs rank old new
  pub own : AtRank rank old new relation
  pub above : AreLeft (rank + 1) old new

-- The keepers after a run that was answered so.
abbrev pub KeepersGoOn : {A : Type 0} → Result A FoldFault → (Sizes → ℕ → Table → List ℕ) → (Sizes → ℕ → List ℕ → Cursor → Read Cursor) → Sizes → (opens : ℕ → List LaneEvent → Type 0) → (runs : ℕ → List LaneEvent) → List KeeperState → List KeeperState → Type 0
KeepersGoOn (Ok done) part_of part_at s opens runs old new = HaveGoneOn part_of s opens runs s.ranks old new
KeepersGoOn (Err fold.WriteFault) part_of part_at s opens runs old new = HaveGoneOn part_of s opens runs s.ranks old new
KeepersGoOn (Err (fold.KeeperFault rank)) part_of part_at s opens runs old new = StoppedAt part_of s opens runs rank (HasFailed (runs rank)) old new
KeepersGoOn (Err (fold.CheckpointBad rank at why)) part_of part_at s opens runs old new = StoppedAt part_of s opens runs rank (HasGivenNone part_at s rank at why (runs rank)) old new
KeepersGoOn (Err fold.Memory) part_of part_at s opens runs old new = ⊤

-- The keeper of a rank after its list was run, or after the fault that ended it.
abbrev pub RankStops : {A : Type 0} → Result A FoldFault → (Sizes → ℕ → Table → List ℕ) → (Sizes → ℕ → List ℕ → Cursor → Read Cursor) → Sizes → (rank : ℕ) → (opens : List LaneEvent → Type 0) → List LaneEvent → KeeperState → KeeperState → Type 0
RankStops (Ok done) part_of part_at s rank opens run old new = HasGoneOn part_of s rank opens run old new
RankStops (Err (fold.KeeperFault r)) part_of part_at s rank opens run old new = (r ≡ rank) × HasFailed run old new
RankStops (Err (fold.CheckpointBad r at why)) part_of part_at s rank opens run old new = (r ≡ rank) × HasGivenNone part_at s rank at why run old new
RankStops (Err fold.WriteFault) part_of part_at s rank opens run old new = ⊥
RankStops (Err fold.Memory) part_of part_at s rank opens run old new = ⊤

-- Each core stands for its rank's whole history, where that is sure of its rank's keeper.
abbrev pub StandOn : {F K : Type 0} {T : Ghosts F} → keeper.Ghosts K → List (RankCore F T) → List K → (opens : ℕ → List LaneEvent → Type 0) → (runs : ℕ → List LaneEvent) → Type 0
StandOn {F} {K} {T} U cores keepers opens runs = (rank : ℕ) (core : RankCore F T) (keeper : K) → element cores rank ≡ Some core → element keepers rank ≡ Some keeper → Sure (U.held keeper) (runs rank)
    → (before : List LaneEvent) → opens rank before → StandsFor core (whole_of before (runs rank))

-- A rank after the first places of its list, which went on from the bytes, with the keeper that it was given.
pub record IsGoingOn {F K : Type 0} (R : Ghosts F) (U : keeper.Ghosts K) (s : Sizes) (rank : ℕ) (opening : List ℕ) (lanes : List Lane) (order : List ℕ) (place : ℕ) (entry : K) (x : SavedRank F K R U) : Type 0 where
  pub sizes : study_of x ≡ s
  pub number : number_of x ≡ rank
  pub saved : saved_of x ≡ list_any is_save (history lanes (take place order))
  pub total : total_of x ≤ 2 ^ 62 + place
  pub few : CountsFew x (2 ^ 61 + place)
  pub carries : (before : List LaneEvent) → OpensWith R s rank opening before → CarriesHistory x (whole_of before (history lanes (take place order))) (history lanes (take place order))
  pub runs : HasGoneOn R.part_of s rank (OpensWith R s rank opening) (history lanes (take place order)) (keeper_seen U entry) (keeper_seen U (keeper_of x))
  pub quiet : list_any is_save (history lanes order) ≡ false → keeper_of x ≡ entry

-- so many events of each lane were taken
pub record AreTaken (lanes : List Lane) (order : List ℕ) (place : ℕ) (taken : List ℕ) : Type 0 where
  pub one_each : length taken ≡ length lanes
  pub each : (k : ℕ) → k < length lanes → slice_index taken k ≡ times k (take place order)
