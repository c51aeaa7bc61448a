-- What clauses see of a run's keepers, and what a run leaves of them.
use Rattle.std.specs.Prelude.{◌≡◌, ℕ, ◌+◌, ◌<◌, ◌≤◌, Bool, true, false, List, map, Option, None, Some, Err, IfSome, ⊤}
use Rattle.std.specs.List.{list_any}
use Rattle.mls_base.specs.declared.outside.Keeper as keeper
use Rattle.mls_base.specs.Told.{Rose, StaysSound}
use Rattle.mls_model.specs.Numbers.{element}
use Rattle.mls_model.specs.Studies.{Sizes}
use Rattle.mls_model.specs.Histories.{LaneEvent}
use Rattle.mls_model.specs.Survival.{is_save, crash_after_save}
use Rattle.mls_model.specs.Standing.{Table}
use Rattle.mls_ckpt.specs.declared.faults.CkptWhy.{CkptWhy}
use Rattle.mls_ckpt.specs.Reading.{Cursor, Read}
use Rattle.mls_book.specs.declared.faults.BookFault.{BookFault}
use Rattle.mls_book.specs.declared.faults.BookFault.TheVariants.{KeeperFault, CheckpointBad, Memory}
use Rattle.mls_book.specs.Backups.{given_state}
use Rattle.mls_book.specs.Histories.{Sure}
use Rattle.mls_book.specs.Runs.{gets_over, held_over}

-- what clauses see of a keeper: nothing or the bytes that it holds, where it tells them, whether it is sound, how many of its
-- calls failed, how many gets there were, and what the last one gave, where that is told
pub record KeeperState : Type 0 where
  pub held : Option (Option (List ℕ))
  pub sound : Bool
  pub faults : ℕ
  pub gets : ℕ
  pub last_get : Option (Option (List ℕ))

abbrev pub keeper_seen : {K : Type 0} → keeper.Ghosts K → K → KeeperState
keeper_seen U k = record { held = U.held k; sound = U.sound k; faults = U.faults k; gets = U.gets k; last_get = U.last_get k }

-- of these keepers, in order
abbrev pub keepers_seen : {K : Type 0} → keeper.Ghosts K → List K → List KeeperState
keepers_seen U keepers = map (keeper_seen U) keepers

-- what each rank's run leaves is known: its keeper tells what it holds, or no crash of its history stands behind a save
abbrev pub AreSure : (ℕ → List LaneEvent) → List KeeperState → Type 0
AreSure histories keepers = (rank : ℕ) (keeper : KeeperState) → element keepers rank ≡ Some keeper → Sure keeper.held (histories rank)

-- A keeper after the whole history of its rank: it was read at each crash behind a save, and no call failed.
pub record HasRun (part_of : Sizes → ℕ → Table → List ℕ) (s : Sizes) (rank : ℕ) (history : List LaneEvent) (old new : KeeperState) : Type 0 where
  pub held : new.held ≡ held_over part_of s rank history old.held
  pub gets : new.gets ≡ gets_over history old.gets
  pub faults : new.faults ≡ old.faults
  pub sound : StaysSound old.sound new.sound

-- A keeper whose call failed: at a save, or at a crash behind one. It was not sound.
pub record HasFailed (history : List LaneEvent) (old new : KeeperState) : Type 0 where
  pub saves : list_any is_save history ≡ true
  pub rose : Rose old.faults new.faults
  pub unsound : old.sound ≡ false

-- A keeper that gave no checkpoint, at a crash behind a save. It doesn't tell what it holds. Where it tells what it gave, that is
-- refused at this place.
pub record HasGivenNone (part_at : Sizes → ℕ → List ℕ → Cursor → Read Cursor) (s : Sizes) (rank : ℕ) (at : ℕ) (why : CkptWhy) (history : List LaneEvent) (old new : KeeperState) : Type 0 where
  pub crashes : crash_after_save history ≡ true
  pub untold : old.held ≡ None
  pub read : Rose old.gets new.gets
  pub given : IfSome new.last_get (λ given. given_state part_at s rank given ≡ Err (record { at = at; why = why }))
  pub faults : new.faults ≡ old.faults

-- What a fault says of the keeper of a rank, since its history began.
abbrev pub FaultSays : (Sizes → ℕ → List ℕ → Cursor → Read Cursor) → Sizes → (rank : ℕ) → List LaneEvent → KeeperState → KeeperState → BookFault → Type 0
FaultSays part_at s rank history old new KeeperFault = HasFailed history old new
FaultSays part_at s rank history old new (CheckpointBad at why) = HasGivenNone part_at s rank at why history old new
FaultSays part_at s rank history old new Memory = ⊤

-- The keeper of a rank before and after a run, related so.
pub record AtRank (rank : ℕ) (old new : List KeeperState) (relation : KeeperState → KeeperState → Type 0) : Type 0 where
  pub before : KeeperState
  pub after : KeeperState
  pub was : element old rank ≡ Some before
  pub is : element new rank ≡ Some after
  pub related : relation before after

-- the keepers of the ranks below one after their whole histories
abbrev pub HaveRun : (Sizes → ℕ → Table → List ℕ) → Sizes → (ℕ → List LaneEvent) → ℕ → List KeeperState → List KeeperState → Type 0
HaveRun part_of s histories end old new = (rank : ℕ) → rank < end → AtRank rank old new (HasRun part_of s rank (histories rank))

-- the keepers from a rank on are as before
abbrev pub AreLeft : {A : Type 0} → ℕ → List A → List A → Type 0
AreLeft first old new = (other : ℕ) → first ≤ other → element new other ≡ element old other

-- The run of a rank ended so. The ranks below it ran over their whole histories, and those above it didn't begin.
pub record EndedAt (part_of : Sizes → ℕ → Table → List ℕ) (s : Sizes) (histories : ℕ → List LaneEvent) (rank : ℕ) (relation : KeeperState → KeeperState → Type 0) (old new : List KeeperState) : Type 0 where
  pub here : rank < s.ranks
  pub below : HaveRun part_of s histories rank old new
  pub own : AtRank rank old new relation
  pub above : AreLeft (rank + 1) old new
