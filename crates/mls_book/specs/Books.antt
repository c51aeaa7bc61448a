-- What contracts see of a book, and what its type keeps.
use Rattle.std.specs.Prelude.{◌≡◌, ℕ, ◌+◌, ◌^◌, ◌<◌, ◌≤◌, Bool, true, List, length, slice_index, Option, Some, None, IsSome, IfSome, ⊤}
use Rattle.std.specs.List.{AllByRecursion, list_any}
use Rattle.mls_model.specs.declared.lanes.LaneKind.{LaneKind}
use Rattle.mls_model.specs.Numbers.{times}
use Rattle.mls_model.specs.Frames.{Frame}
use Rattle.mls_model.specs.Histories.{LaneEvent}
use Rattle.mls_model.specs.Survival.{is_save, before_last_save}
use Rattle.mls_model.specs.Outcomes.{total_count}
use Rattle.mls_base.specs.declared.outside.Keeper as keeper
use Rattle.mls_tape.specs.declared.decoded.Lanes as lanes
use Rattle.mls_ckpt.specs.Histories.{checkpoint}
use Rattle.mls_field.specs.declared.fold.RowFold.{Ghosts}
use Rattle.mls_book.specs.declared.faults.BookFault.{BookFault}
use Rattle.mls_book.specs.declared.faults.BookFault.TheVariants.{KeeperFault, CheckpointBad, Memory}
use Rattle.mls_book.specs.declared.saved_rank.SavedRank.{SavedRank}
use Rattle.mls_book.specs.SavedRanks.{number_of, total_of, held_of, faults_of, opening_of, CarriesHistory, CountsFew}
use Rattle.mls_book.specs.Histories.{Sure}
use Rattle.mls_book.specs.Journals.{ToldLane, told_history, AllTell}
use Rattle.mls_book.specs.Cores.{CoreParts, Stands}

-- The lanes, the core with its keeper, whether this run had a save, the lanes taken in order, how many events were taken of
-- each lane, the last store fault, and how many places the journal has left before it grows.
pub record BookView (T F K : Type 0) : Type 0 where
  pub lanes : T
  pub core : CoreParts F
  pub keeper : K
  pub saved : Bool
  pub journal : List ℕ
  pub taken : List ℕ
  pub fault : Option BookFault
  pub spare : ℕ

-- the same book with another number of places left
abbrev pub with_spare : {T F K : Type 0} → BookView T F K → ℕ → BookView T F K
with_spare book places = record {
  lanes = book.lanes;
  core = book.core;
  keeper = book.keeper;
  saved = book.saved;
  journal = book.journal;
  taken = book.taken;
  fault = book.fault;
  spare = places;
}

-- the history of the journal, as the lanes tell it
abbrev pub history_of : {T F K : Type 0} (L : lanes.Ghosts T) → BookView T F K → List LaneEvent
history_of L book = told_history (L.told book.lanes) book.journal

-- A store fault that is recorded has its cause: the keeper's count isn't 0, or the keeper doesn't tell what it holds.
abbrev pub IsRecord : Option BookFault → (faults : ℕ) → (held : Option (Option (List ℕ))) → Type 0
IsRecord None faults held = ⊤
IsRecord (Some KeeperFault) faults held = 0 < faults
IsRecord (Some (CheckpointBad at why)) faults held = held ≡ None
IsRecord (Some Memory) faults held = ⊥

-- Each lane of the journal is of the rank and was taken as often as it stands there, and no oftener than it has events.
pub record IsJournal (told : ℕ → ToldLane) (belongs : ℕ → Bool) (lanes : ℕ) (journal taken : List ℕ) : Type 0 where
  pub size : length taken ≡ lanes
  pub each : (k : ℕ) → k < lanes → slice_index taken k ≡ times k journal
  pub own : AllByRecursion (λ k. belongs k ≡ true) journal
  pub within : (k : ℕ) → IfSome (told k) (λ (lane : LaneKind × List Frame). times k journal ≤ length lane.1)

-- What a book's fields keep: the rank carries the history of the journal where its lanes tell, and counted few events.
pub record BookKept {F K : Type 0} {R : Ghosts F} {U : keeper.Ghosts K} (told : ℕ → ToldLane) (belongs : ℕ → ℕ → Bool) (lanes : ℕ) (x : SavedRank F K R U) (journal taken : List ℕ) (fault : Option BookFault) : Type 0 where
  pub places : IsJournal told (belongs (number_of x)) lanes journal taken
  pub carries : AllTell told journal → CarriesHistory x (told_history told journal) (told_history told journal)
  pub opens : opening_of x ≡ None
  pub few : CountsFew x (length journal)
  pub room : total_of x ≤ 2 ^ 62 + length journal
  pub cause : IsRecord fault (faults_of x) (held_of x)

-- The journal, where its lanes tell: a save stands in it where this run had one, the core stands for its history where the
-- keeper tells too or no crash follows a save, and after a save a keeper that tells holds the checkpoint up to the last.
pub record IsCarried {T F K : Type 0} (R : Ghosts F) (U : keeper.Ghosts K) (book : BookView T F K) (history : List LaneEvent) : Type 0 where
  pub stands : Sure (U.held book.keeper) history → Stands R book.core history
  pub had : book.saved ≡ list_any is_save history
  pub kept : book.saved ≡ true → IfSome (U.held book.keeper) (λ kept. kept ≡ Some (checkpoint R.part_of book.core.sizes book.core.rank (before_last_save history)))

-- what each book keeps
pub record IsBook {T F K : Type 0} (L : lanes.Ghosts T) (R : Ghosts F) (U : keeper.Ghosts K) (book : BookView T F K) : Type 0 where
  pub places : IsJournal (L.told book.lanes) (L.belongs_to book.lanes book.core.rank) (L.lane_count book.lanes) book.journal book.taken
  pub carried : AllTell (L.told book.lanes) book.journal → IsCarried R U book (history_of L book)
  pub few : IsSome (U.held book.keeper) → total_count book.core.counts ≤ length book.journal
  pub room : total_count book.core.counts ≤ 2 ^ 62 + length book.journal
  pub cause : IsRecord book.fault (U.faults book.keeper) (U.held book.keeper)
