-- The files that hold the checkpoints of the ranks: their names, and what saving them leaves.
use Rattle.std.specs.Prelude.{◌≡◌, ◌≢◌, ℕ, ◌<◌, Bool, List, ◌++◌, codes, decimal, length, Option, Some, None, IsTrue, ⊤}
use Rattle.mls_base.specs.Told.{Names, MaySpoil, Rose, StaysSound}
use Rattle.mls_model.specs.Numbers.{element}

-- the name of a rank's file: the prefix, a point and the rank in decimal
abbrev pub file_name : List ℕ → ℕ → List ℕ
file_name prefix rank = prefix ++ (codes "." ++ decimal rank)

-- what a command sees of its files: what they hold, where they tell it, whether they are sound, and how many loads and saves failed
pub record FileState : Type 0 where
  pub held : Option Names
  pub sound : Bool
  pub load_faults : ℕ
  pub save_faults : ℕ

-- of these files
abbrev pub seen : {F : Type 0} → (F → Option Names) → (F → Bool) → (F → ℕ) → (F → ℕ) → F → FileState
seen held sound load_faults save_faults files = record { held = held files; sound = sound files; load_faults = load_faults files; save_faults = save_faults files }

-- The files of the first ranks are held with these lists, one each. All other names are held as before.
pub record HoldsFiles (prefix : List ℕ) (lists : List (List ℕ)) (old new : Names) : Type 0 where
  pub own : (rank : ℕ) (bytes : List ℕ) → element lists rank ≡ Some bytes → new (file_name prefix rank) ≡ Some bytes
  pub others : (name : List ℕ) → ((rank : ℕ) → rank < length lists → name ≢ file_name prefix rank) → new name ≡ old name

-- files that told tell so, and files that didn't tell nothing
abbrev pub SavedFiles : List ℕ → List (List ℕ) → Option Names → Option Names → Type 0
SavedFiles prefix lists None None = ⊤
SavedFiles prefix lists None (Some new) = ⊥
SavedFiles prefix lists (Some old) None = ⊥
SavedFiles prefix lists (Some old) (Some new) = HoldsFiles prefix lists old new

-- These files were saved, and no save failed.
pub record AreSaved (prefix : List ℕ) (lists : List (List ℕ)) (old new : FileState) : Type 0 where
  pub saved : SavedFiles prefix lists old.held new.held
  pub sound : StaysSound old.sound new.sound
  pub loads : new.load_faults ≡ old.load_faults
  pub saves : new.save_faults ≡ old.save_faults

-- The save of the next rank's file failed, whose name may be held with any bytes or none. The files were not sound.
pub record SaveFailedBehind (prefix : List ℕ) (lists : List (List ℕ)) (old new : FileState) : Type 0 where
  pub between : Option Names
  pub saved : SavedFiles prefix lists old.held between
  pub spoiled : MaySpoil (file_name prefix (length lists)) between new.held
  pub unsound : IsTrue old.sound → ⊥
  pub loads : new.load_faults ≡ old.load_faults
  pub rose : Rose old.save_faults new.save_faults

-- The files hold the same, and no call of them failed.
pub record AreKept (old new : FileState) : Type 0 where
  pub held : new.held ≡ old.held
  pub sound : StaysSound old.sound new.sound
  pub loads : new.load_faults ≡ old.load_faults
  pub saves : new.save_faults ≡ old.save_faults
