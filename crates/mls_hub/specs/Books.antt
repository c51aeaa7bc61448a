-- What an event makes of a rank's book in a hub.
use Rattle.std.specs.Prelude.{◌≡◌, ◌≢◌, ℕ, ◌≤◌, true, List, [], ◌∷◌, ◌++◌, length, Some, Option}
use Rattle.mls_base.specs.declared.outside.Keeper as keeper
use Rattle.mls_base.specs.Told.{Rose, replaced}
use Rattle.mls_model.specs.Numbers.{element}
use Rattle.mls_model.specs.Histories.{LaneEvent}
use Rattle.mls_model.specs.Survival.{is_save}
use Rattle.mls_tape.specs.declared.wire.Wire.{Wire}
use Rattle.mls_tape.specs.Wires.{wire_of}
use Rattle.mls_field.specs.declared.fold.RowFold.{Ghosts}
use Rattle.mls_book.specs.Books.{BookView}
use Rattle.mls_book.specs.Cores.{StandsAlso, StandsAfter, parts_bytes}
use Rattle.mls_book.specs.Keepers.{KeeperState}
use Rattle.mls_held.specs.Begun.{HasBegun}
use Rattle.mls_hub.specs.declared.faults.Refusal.{Refusal}
use Rattle.mls_hub.specs.declared.faults.Refusal.TheVariants as refusals
use Rattle.mls_hub.specs.declared.faults.Fault.{Fault}
use Rattle.mls_hub.specs.declared.faults.Fault.TheVariants as faults

-- a rank's book over lanes that come over connections
abbrev pub WireBook : Type 0 → Type 0 → Type 0
WireBook F K = BookView Wire F K

-- The same book after some offers: its lanes, study and rank are as before, so is whatever holds since its run began, and its
-- keeper's count of faults never fell.
pub record GoesOn {F K : Type 0} (U : keeper.Ghosts K) (old new : WireBook F K) : Type 0 where
  pub lanes : new.lanes ≡ old.lanes
  pub sizes : new.core.sizes ≡ old.core.sizes
  pub rank : new.core.rank ≡ old.core.rank
  pub begun : (start : KeeperState) → HasBegun U start old → HasBegun U start new
  pub later : U.faults old.keeper ≤ U.faults new.keeper

-- The book took the next event of a lane, and no call of its keeper failed. After a save the keeper, where it tells, holds the
-- state of the core.
pub record Took {F K : Type 0} (T : Ghosts F) (U : keeper.Ghosts K) (lane : ℕ) (e : LaneEvent) (old new : WireBook F K) : Type 0 where
  pub goes_on : GoesOn U old new
  pub journal : new.journal ≡ old.journal ++ lane ∷ []
  pub stands : StandsAfter T old.core new.core e
  pub put : is_save e ≡ true → U.held new.keeper ≡ replaced (U.held old.keeper) (Some (parts_bytes T new.core))

-- a keeper's fault has its count
abbrev pub CountsRefusal : Refusal → (before now : ℕ) → Type 0
CountsRefusal refusals.Keeper before now = Rose before now
CountsRefusal refusals.Memory before now = now ≡ before

-- The book didn't take an event.
pub record Refused {F K : Type 0} (T : Ghosts F) (U : keeper.Ghosts K) (refusal : Refusal) (old new : WireBook F K) : Type 0 where
  pub goes_on : GoesOn U old new
  pub journal : new.journal ≡ old.journal
  pub stands : StandsAlso T old.core new.core
  pub counts : CountsRefusal refusal (U.faults old.keeper) (U.faults new.keeper)

-- A book at a place of a list is the one that stood there, after some offers.
pub record Follows {F K : Type 0} (U : keeper.Ghosts K) (books : List (WireBook F K)) (rank : ℕ) (new : WireBook F K) : Type 0 where
  pub old : WireBook F K
  pub was : element books rank ≡ Some old
  pub goes_on : GoesOn U old new

-- The books after some offers: as many as before, each the one that stood at its place.
pub record GoOn {F K : Type 0} (U : keeper.Ghosts K) (old new : List (WireBook F K)) : Type 0 where
  pub count : length new ≡ length old
  pub each : (rank : ℕ) (book : WireBook F K) → element new rank ≡ Some book → Follows U old rank book

-- The count of a rank's keeper rose.
pub record KeeperRose {F K : Type 0} (U : keeper.Ghosts K) (rank : ℕ) (old new : List (WireBook F K)) : Type 0 where
  pub before : WireBook F K
  pub now : WireBook F K
  pub was : element old rank ≡ Some before
  pub is : element new rank ≡ Some now
  pub rose : Rose (U.faults before.keeper) (U.faults now.keeper)

-- a fault of a rank's keeper has its count, and want of memory has no cause
abbrev pub IsCaused : {F K : Type 0} → keeper.Ghosts K → Fault → (old new : List (WireBook F K)) → Type 0
IsCaused {F} U (faults.Keeper rank) old new = KeeperRose {F = F} U rank old new
IsCaused U faults.Memory old new = Unit {0}

-- nothing of a list but one element changed
pub record OneMoved {A : Type 0} (i : ℕ) (old new : List A) : Type 0 where
  pub count : length new ≡ length old
  pub others : (j : ℕ) → j ≢ i → element new j ≡ element old j

-- The book of a rank took the next event of a lane.
pub record TookAt {F K : Type 0} (T : Ghosts F) (U : keeper.Ghosts K) (rank lane : ℕ) (e : LaneEvent) (old new : List (WireBook F K)) : Type 0 where
  pub moved : OneMoved rank old new
  pub before : WireBook F K
  pub now : WireBook F K
  pub was : element old rank ≡ Some before
  pub is : element new rank ≡ Some now
  pub took : Took T U lane e before now

-- the fault that a refusal of a rank's book is
abbrev pub fault_of : (rank : ℕ) → Refusal → Fault
fault_of rank refusals.Keeper = faults.Keeper rank
fault_of rank refusals.Memory = faults.Memory

-- The book of a rank didn't take an event.
pub record RefusedAt {F K : Type 0} (T : Ghosts F) (U : keeper.Ghosts K) (rank : ℕ) (fault : Fault) (old new : List (WireBook F K)) : Type 0 where
  pub moved : OneMoved rank old new
  pub before : WireBook F K
  pub now : WireBook F K
  pub was : element old rank ≡ Some before
  pub is : element new rank ≡ Some now
  pub refusal : Refusal
  pub is_fault : fault ≡ fault_of rank refusal
  pub refused : Refused T U refusal before now

-- each book is over so many lanes
abbrev pub AreWired : {F K : Type 0} → ℕ → List (WireBook F K) → Type 0
AreWired {F} {K} lanes books = (rank : ℕ) (book : WireBook F K) → element books rank ≡ Some book → book.lanes ≡ wire_of lanes
