-- What the steps of a keeper do to a disk, and what a crash in them leaves.
use Rattle.std.specs.Prelude.{◌≡◌, ◌≢◌, ◌⊎◌, ℕ, ◌<◌, ◌≤◌, List, [], ◌∷◌, length, Option, Some, Bool, true, IsTrue}
use Rattle.mls_slot.specs.Disks.{Areas, View, IsLeft, IsAtRest, Only}
use Rattle.mls_slot.specs.Slots.{gate, value}
use Rattle.mls_slot.specs.Known.{IsHead, AreHeads}
use Rattle.mls_base.specs.declared.faults.StoreFault.{StoreFault}
use Rattle.mls_base.specs.declared.faults.StoreFault.TheVariants as store
use Rattle.mls_slot.specs.declared.heads.Head.{Head}
use Rattle.mls_slot.specs.declared.heads.Heads.{Heads}

-- A crash at any moment since old leaves an image that has P.
pub record LeavesOnly (old new : View) (P : Areas → Type 0) : Type 0 where
  pub later : old.moment ≤ new.moment
  pub now : (image : Areas) → IsLeft new image → P image
  pub each : (image : Areas) → new.left_since old.moment image → P image
  -- for a run that began earlier
  pub before : (t : ℕ) (image : Areas) → t ≤ old.moment → new.left_since t image → old.left_since t image ⊎ P image

-- all areas but one have the same bytes
abbrev pub SameBut : ℕ → Areas → Areas → Type 0
SameBut area old new = (other : ℕ) → other < 2 → other ≢ area → new other ≡ old other

-- in one area the image has R, in the other the bytes that were there
pub record Changed (area : ℕ) (R : List ℕ → Type 0) (old image : Areas) : Type 0 where
  pub there : R (image area)
  pub elsewhere : SameBut area old image

-- the area has these bytes, the other what it had, and all of it is on the disk
pub record Settled (area : ℕ) (bytes : List ℕ) (old new : View) : Type 0 where
  pub rest : IsAtRest new
  pub there : new.seen area ≡ bytes
  pub elsewhere : SameBut area old.seen new.seen

-- an area was synced and its head was read
pub record ReadsHead (area : ℕ) (read : Head) (old new : View) : Type 0 where
  pub seen : (other : ℕ) → other < 2 → new.seen other ≡ old.seen other
  pub only : Only (new.seen area) (new.may_leave area)
  pub fewer : (other : ℕ) (c : List ℕ) → other < 2 → new.may_leave other c → old.may_leave other c
  pub head : IsHead (new.seen area) read

-- both areas were synced and their heads were read
pub record Begins (read : Heads) (old new : View) : Type 0 where
  pub seen : (other : ℕ) → other < 2 → new.seen other ≡ old.seen other
  pub rest : IsAtRest new
  pub heads : AreHeads new.seen read

-- an area's gate stands and isn't 1, the other is as it was, and all of it is on the disk
pub record Shuts (area : ℕ) (old new : View) : Type 0 where
  pub rest : IsAtRest new
  pub stands : 1 ≤ length (new.seen area)
  pub shut : gate (new.seen area) ≢ 1
  pub elsewhere : SameBut area old.seen new.seen

-- all that a read gives is on the disk, and the heads are known
pub record Knows (known : Heads) (view : View) : Type 0 where
  pub rest : IsAtRest view
  pub heads : AreHeads view.seen known

-- the disk's value is this, on the disk, and the heads are known
pub record Stores (bytes : List ℕ) (known : Heads) (new : View) : Type 0 where
  pub rest : IsAtRest new
  pub heads : AreHeads new.seen known
  pub is : value new.seen ≡ Some bytes

-- one of the list
abbrev pub IsOneOf : {A : Type 0} → A → List A → Type 0
IsOneOf x [] = ⊥
IsOneOf x (y ∷ ys) = (x ≡ y) ⊎ IsOneOf x ys

-- whatever a crash now leaves, the disk's value is one of these
abbrev pub GivesOnly : View → List (Option (List ℕ)) → Type 0
GivesOnly view values = (image : Areas) → IsLeft view image → IsOneOf (value image) values

-- a read gives the same of both areas
abbrev pub SameSeen : View → View → Type 0
SameSeen old new = (area : ℕ) → area < 2 → new.seen area ≡ old.seen area

-- a call that failed leaves its mark, and one that wanted memory doesn't
abbrev pub FaultedBy : StoreFault → Bool → Bool → Type 0
FaultedBy store.Failed old new = new ≡ true
FaultedBy store.Memory old new = new ≡ old

-- a disk may cease to tell after a call that failed, and doesn't for want of memory
abbrev pub TellsAfter : StoreFault → Bool → Bool → Type 0
TellsAfter store.Failed old new = IsTrue new → IsTrue old
TellsAfter store.Memory old new = new ≡ old
