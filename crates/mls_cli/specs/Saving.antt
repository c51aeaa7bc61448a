-- What a command saves of a tape and a schedule under two names, the tape first, and what that leaves of the files.
use Rattle.std.specs.Prelude.{◌≡◌, ◌≢◌, ℕ, Bool, List, Option, Some, None, Result, Ok, Err, IfErr, IsTrue, ◌⊎◌, ⊤}
use Rattle.mls_base.specs.Told.{Names, Saved, MaySpoil, CountsStore}
use Rattle.mls_base.specs.declared.faults.StoreFault.{StoreFault}
use Rattle.mls_base.specs.declared.faults.StoreFault.TheVariants as store
use Rattle.mls_result.specs.declared.status.Status.{Status}
use Rattle.mls_result.specs.declared.status.Status.TheVariants as status
use Rattle.mls_cli.specs.declared.words.NamePair.{NamePair}
use Rattle.mls_export.specs.Files.{FileState}

-- The schedule is held under its name, and the tape under its own where that is another. All other names are held as before.
pub record HoldsPair (names : NamePair) (tape schedule : List ℕ) (old new : Names) : Type 0 where
  pub schedule_is : new names.schedule ≡ Some schedule
  pub tape_is : names.tape ≢ names.schedule → new names.tape ≡ Some tape
  pub others : (other : List ℕ) → other ≢ names.tape → other ≢ names.schedule → new other ≡ old other

-- files that told tell so, and files that didn't tell nothing
abbrev pub SavedPair : NamePair → (tape schedule : List ℕ) → Option Names → Option Names → Type 0
SavedPair names tape schedule None None = ⊤
SavedPair names tape schedule None (Some new) = ⊥
SavedPair names tape schedule (Some old) None = ⊥
SavedPair names tape schedule (Some old) (Some new) = HoldsPair names tape schedule old new

-- the tape was saved, and the save of the schedule failed
pub record ScheduleSpoiled (names : NamePair) (tape : List ℕ) (old new : Option Names) : Type 0 where
  pub between : Option Names
  pub saved : Saved names.tape tape old between
  pub spoiled : MaySpoil names.schedule between new

-- A save failed: the tape's, or the schedule's behind it. The failed one's name may be held with any bytes or none.
abbrev pub StoppedSaving : NamePair → (tape : List ℕ) → Option Names → Option Names → Type 0
StoppedSaving names tape old new = MaySpoil names.tape old new ⊎ ScheduleSpoiled names tape old new

-- nothing was saved, or the tape alone
abbrev pub SavedTapeAtMost : NamePair → (tape : List ℕ) → Option Names → Option Names → Type 0
SavedTapeAtMost names tape old new = (new ≡ old) ⊎ Saved names.tape tape old new

-- what is held after both were to be saved
abbrev pub SavingLeaves : {A : Type 0} → NamePair → (tape schedule : List ℕ) → Result A StoreFault → Option Names → Option Names → Type 0
SavingLeaves names tape schedule (Ok done) old new = SavedPair names tape schedule old new
SavingLeaves names tape schedule (Err store.Failed) old new = StoppedSaving names tape old new
SavingLeaves names tape schedule (Err store.Memory) old new = SavedTapeAtMost names tape old new

-- a save of sound files doesn't fail
abbrev pub IsOfUnsound : (sound : Bool) → StoreFault → Type 0
IsOfUnsound sound store.Failed = IsTrue sound → ⊥
IsOfUnsound sound store.Memory = ⊤

-- How the saving of both was answered.
pub record SavesPair {A : Type 0} (names : NamePair) (tape schedule : List ℕ) (result : Result A StoreFault) (old new : FileState) : Type 0 where
  pub leaves : SavingLeaves names tape schedule result old.held new.held
  pub counts : CountsStore result old.save_faults new.save_faults
  pub unsound : IfErr result (IsOfUnsound old.sound)

-- where there are no names nothing is saved
abbrev pub SavesNone : {A : Type 0} → Result A StoreFault → FileState → FileState → Type 0
SavesNone (Ok done) old new = new ≡ old
SavesNone (Err fault) old new = ⊥

abbrev pub SavesNamed : {A : Type 0} → Option NamePair → (tape schedule : List ℕ) → Result A StoreFault → FileState → FileState → Type 0
SavesNamed None tape schedule result old new = SavesNone result old new
SavesNamed (Some names) tape schedule result old new = SavesPair names tape schedule result old new

-- what is answered after a save that did not succeed
abbrev pub save_status : StoreFault → Status
save_status store.Failed = status.WriteFault
save_status store.Memory = status.Memory
