-- What an export answers: of the files that it saves, and of the keepers that it asks.
use Rattle.std.specs.Prelude.{◌≡◌, ℕ, ◌+◌, ◌<◌, false, List, length, Option, Some, None, IfSome, Result, Ok, Err}
use Rattle.std.specs.Global.{Vec}
use Rattle.std.specs.Option.{option_map}
use Rattle.mls_base.specs.Told.{MayCease, MaySpoil, Rose, Saved, StaysSound, raised, replaced}
use Rattle.mls_base.specs.declared.faults.StoreFault.{StoreFault}
use Rattle.mls_base.specs.declared.faults.StoreFault.TheVariants as store
use Rattle.mls_model.specs.Numbers.{element}
use Rattle.mls_book.specs.Keepers.{KeeperState, AtRank, AreLeft}
use Rattle.mls_export.specs.declared.faults.ExportFault.{ExportFault}
use Rattle.mls_export.specs.declared.faults.ExportFault.TheVariants as fault
use Rattle.mls_export.specs.Files.{FileState, AreKept, AreSaved, SaveFailedBehind, file_name}

-- A keeper whose get gave this, nothing or bytes: what it holds, where it tells that. It holds the same after it.
pub record HasGiven (given : Option (List ℕ)) (old new : KeeperState) : Type 0 where
  pub told : IfSome old.held (λ held. held ≡ given)
  pub held : new.held ≡ old.held
  pub sound : StaysSound old.sound new.sound
  pub faults : new.faults ≡ old.faults
  pub gets : new.gets ≡ raised old.gets
  pub last : new.last_get ≡ replaced old.last_get given

-- of some bytes
pub record HasGivenBytes (old new : KeeperState) : Type 0 where
  pub bytes : List ℕ
  pub given : HasGiven (Some bytes) old new

-- A keeper whose get failed. It was not sound.
pub record GetFailed (old new : KeeperState) : Type 0 where
  pub held : MayCease old.held new.held
  pub unsound : old.sound ≡ false
  pub rose : Rose old.faults new.faults
  pub gets : new.gets ≡ raised old.gets
  pub last : new.last_get ≡ old.last_get

-- A keeper that holds the same and no call of which failed, whether it was asked or not.
pub record IsKept (old new : KeeperState) : Type 0 where
  pub held : new.held ≡ old.held
  pub sound : StaysSound old.sound new.sound
  pub faults : new.faults ≡ old.faults

-- what a get leaves of its keeper
abbrev pub Gets : Result (Option (Vec ℕ)) StoreFault → KeeperState → KeeperState → Type 0
Gets (Ok given) old new = HasGiven (option_map (λ bytes. bytes.items) given) old new
Gets (Err store.Failed) old new = GetFailed old new
Gets (Err store.Memory) old new = IsKept old new

-- the keepers of the first ranks gave these lists
abbrev pub HaveGiven : List (List ℕ) → List KeeperState → List KeeperState → Type 0
HaveGiven lists old new = (rank : ℕ) (bytes : List ℕ) → element lists rank ≡ Some bytes → AtRank rank old new (HasGiven (Some bytes))

-- The first ranks were exported: what their keepers gave is saved. The other keepers are as before.
pub record ExportedTo (ranks : ℕ) (prefix : List ℕ) (files files' : FileState) (keepers keepers' : List KeeperState) : Type 0 where
  pub lists : List (List ℕ)
  pub one_each : length lists ≡ ranks
  pub saved : AreSaved prefix lists files files'
  pub given : HaveGiven lists keepers keepers'
  pub above : AreLeft ranks keepers keepers'

-- An export that came as far as a rank. The ranks below were exported, and of the files and of the rank's own keeper this is so.
-- The keepers above are as before.
pub record StoppedAt (rank ranks : ℕ) (left : List (List ℕ) → Type 0) (own : KeeperState → KeeperState → Type 0) (keepers keepers' : List KeeperState) : Type 0 where
  pub here : rank < ranks
  pub lists : List (List ℕ)
  pub as_far : length lists ≡ rank
  pub files : left lists
  pub given : HaveGiven lists keepers keepers'
  pub asked : AtRank rank keepers keepers' own
  pub above : AreLeft (rank + 1) keepers keepers'

-- at some rank
pub record Stopped (ranks : ℕ) (left : List (List ℕ) → Type 0) (own : KeeperState → KeeperState → Type 0) (keepers keepers' : List KeeperState) : Type 0 where
  pub rank : ℕ
  pub at : StoppedAt rank ranks left own keepers keepers'

-- How an export of so many ranks was answered. A get that failed and a keeper that gave nothing are answered for their rank, and
-- a save that failed; where memory ran out nothing failed.
abbrev pub Exports : {A : Type 0} → Result A ExportFault → ℕ → (prefix : List ℕ) → (files files' : FileState) → (keepers keepers' : List KeeperState) → Type 0
Exports (Ok done) ranks prefix files files' keepers keepers' = ExportedTo ranks prefix files files' keepers keepers'
Exports (Err (fault.KeeperFault rank)) ranks prefix files files' keepers keepers' = StoppedAt rank ranks (λ lists. AreSaved prefix lists files files') GetFailed keepers keepers'
Exports (Err (fault.Absent rank)) ranks prefix files files' keepers keepers' = StoppedAt rank ranks (λ lists. AreSaved prefix lists files files') (HasGiven None) keepers keepers'
Exports (Err fault.WriteFault) ranks prefix files files' keepers keepers' = Stopped ranks (λ lists. SaveFailedBehind prefix lists files files') HasGivenBytes keepers keepers'
Exports (Err fault.Memory) ranks prefix files files' keepers keepers' = Stopped ranks (λ lists. AreSaved prefix lists files files') IsKept keepers keepers'

-- how a save under a name was answered
pub record SaveSpoiled (name : List ℕ) (files files' : FileState) : Type 0 where
  pub spoiled : MaySpoil name files.held files'.held
  pub unsound : files.sound ≡ false
  pub loads : files'.load_faults ≡ files.load_faults
  pub rose : Rose files.save_faults files'.save_faults

pub record SaveDone (name bytes : List ℕ) (files files' : FileState) : Type 0 where
  pub saved : Saved name bytes files.held files'.held
  pub sound : StaysSound files.sound files'.sound
  pub loads : files'.load_faults ≡ files.load_faults
  pub saves : files'.save_faults ≡ files.save_faults

abbrev pub Saves : {A : Type 0} → Result A ExportFault → (name bytes : List ℕ) → (files files' : FileState) → Type 0
Saves (Ok done) name bytes files files' = SaveDone name bytes files files'
Saves (Err fault.WriteFault) name bytes files files' = SaveSpoiled name files files'
Saves (Err fault.Memory) name bytes files files' = AreKept files files'
Saves (Err (fault.KeeperFault rank)) name bytes files files' = ⊥
Saves (Err (fault.Absent rank)) name bytes files files' = ⊥

-- What a rank's keeper gave is saved under its name.
pub record RankSaved (rank : ℕ) (prefix : List ℕ) (files files' : FileState) (keepers keepers' : List KeeperState) : Type 0 where
  pub bytes : List ℕ
  pub saved : SaveDone (file_name prefix rank) bytes files files'
  pub asked : AtRank rank keepers keepers' (HasGiven (Some bytes))

-- The save of what a rank's keeper gave failed.
pub record RankSpoiled (rank : ℕ) (prefix : List ℕ) (files files' : FileState) (keepers keepers' : List KeeperState) : Type 0 where
  pub spoiled : SaveSpoiled (file_name prefix rank) files files'
  pub asked : AtRank rank keepers keepers' HasGivenBytes

-- Nothing was saved, and of the rank's keeper this is so.
pub record RankUnsaved (rank : ℕ) (own : KeeperState → KeeperState → Type 0) (files files' : FileState) (keepers keepers' : List KeeperState) : Type 0 where
  pub kept : AreKept files files'
  pub asked : AtRank rank keepers keepers' own

-- how the export of one rank's state was answered
abbrev pub ExportsRank : {A : Type 0} → Result A ExportFault → (rank : ℕ) → (prefix : List ℕ) → (files files' : FileState) → (keepers keepers' : List KeeperState) → Type 0
ExportsRank (Ok done) rank prefix files files' keepers keepers' = RankSaved rank prefix files files' keepers keepers'
ExportsRank (Err (fault.KeeperFault r)) rank prefix files files' keepers keepers' = (r ≡ rank) × RankUnsaved rank GetFailed files files' keepers keepers'
ExportsRank (Err (fault.Absent r)) rank prefix files files' keepers keepers' = (r ≡ rank) × RankUnsaved rank (HasGiven None) files files' keepers keepers'
ExportsRank (Err fault.WriteFault) rank prefix files files' keepers keepers' = RankSpoiled rank prefix files files' keepers keepers'
ExportsRank (Err fault.Memory) rank prefix files files' keepers keepers' = RankUnsaved rank IsKept files files' keepers keepers'
