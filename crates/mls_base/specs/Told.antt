-- What the objects of the outside tell of themselves, and their counts of faults.
use Rattle.std.specs.Prelude.{◌≡◌, ◌≢◌, ℕ, Bool, false, ◌+◌, ◌<◌, ◌≤◌, min, max, List, ◌++◌, length, Option, Some, None, IfSome, IsSomeAnd, IsTrue, ⊤, Result, MatchResult}
use Rattle.mls_base.specs.declared.faults.LoadFault.{LoadFault}
use Rattle.mls_base.specs.declared.faults.LoadFault.TheVariants as load
use Rattle.mls_base.specs.declared.faults.StoreFault.{StoreFault}
use Rattle.mls_base.specs.declared.faults.StoreFault.TheVariants as store

-- what is told after bytes were appended to what was told
abbrev pub appended : Option (List ℕ) → List ℕ → Option (List ℕ)
appended None bytes = None
appended (Some before) bytes = Some (before ++ bytes)

-- what is told after a value took the place of the one that was told
abbrev pub replaced : {A : Type 0} → Option A → A → Option A
replaced None value = None
replaced (Some before) value = Some value

-- the same is told as before, or nothing any more
abbrev pub MayCease : {A : Type 0} → Option A → Option A → Type 0
MayCease old new = IfSome new (λ value. old ≡ Some value)

-- the last value of a count
abbrev pub last_count : ℕ
last_count = 18446744073709551615

-- A count rose, or stands at its last value. It didn't fall.
pub record Rose (before now : ℕ) : Type 0 where
  pub later : before ≤ now
  pub higher : min (before + 1) last_count ≤ now

-- the count after the next one, which stands still at the last value
abbrev pub raised : ℕ → ℕ
raised count = max count (min (count + 1) last_count)

-- A front of the text was written. What is told may have ceased.
pub record WroteFront (old new : Option (List ℕ)) (text : List ℕ) : Type 0 where
  pub front : List ℕ
  pub rest : List ℕ
  pub is_text : front ++ rest ≡ text
  pub written : MayCease (appended old front) new

-- which bytes each name is held with, if it is
abbrev pub Names : Type 0
Names = List ℕ → Option (List ℕ)

-- all names but one are held as before
abbrev pub SameBut : List ℕ → Names → Names → Type 0
SameBut name old new = (other : List ℕ) → other ≢ name → new other ≡ old other

-- the name is held with these bytes, and all others are held as before
pub record Holds (name bytes : List ℕ) (old new : Names) : Type 0 where
  pub own : new name ≡ Some bytes
  pub others : SameBut name old new

-- files that told tell the name with these bytes, and files that didn't tell nothing
abbrev pub Saved : List ℕ → List ℕ → Option Names → Option Names → Type 0
Saved name bytes None None = Unit {0}
Saved name bytes None (Some new) = ⊥
Saved name bytes (Some old) None = ⊥
Saved name bytes (Some old) (Some new) = Holds name bytes old new

-- where something is still told, all names but one are held as before
abbrev pub MaySpoil : List ℕ → Option Names → Option Names → Type 0
MaySpoil name old new = IfSome new (λ after. IsSomeAnd old (λ before. SameBut name before after))

-- what a load that is refused says of the bytes that its name is held with
abbrev pub LoadRefused : LoadFault → ℕ → Option (List ℕ) → Type 0
LoadRefused load.Failed max held = ⊤
LoadRefused load.TooLong max held = IsSomeAnd held (λ bytes. max < length bytes)
LoadRefused load.Memory max held = IsSomeAnd held (λ bytes. length bytes ≤ max)

-- what a load that is refused leaves of what was told
abbrev pub LoadLeaves : {A : Type 0} → LoadFault → Option A → Option A → Type 0
LoadLeaves load.Failed old new = MayCease old new
LoadLeaves load.TooLong old new = new ≡ old
LoadLeaves load.Memory old new = new ≡ old

-- the count of failed loads after one that is refused
abbrev pub LoadCounts : LoadFault → ℕ → ℕ → Type 0
LoadCounts load.Failed before now = Rose before now
LoadCounts load.TooLong before now = now ≡ before
LoadCounts load.Memory before now = now ≡ before

-- the count of failed loads after one that answered this
abbrev pub CountsLoad : {A : Type 0} → Result A LoadFault → ℕ → ℕ → Type 0
CountsLoad result before now = MatchResult result (λ _. now ≡ before) (λ fault. LoadCounts fault before now)

-- what a get that is refused leaves of what was told
abbrev pub GetLeaves : {A : Type 0} → StoreFault → Option A → Option A → Type 0
GetLeaves store.Failed old new = MayCease old new
GetLeaves store.Memory old new = new ≡ old

-- what a save that is refused leaves of the files
abbrev pub SaveLeaves : StoreFault → List ℕ → Option Names → Option Names → Type 0
SaveLeaves store.Failed name old new = MaySpoil name old new
SaveLeaves store.Memory name old new = new ≡ old

-- the count of failed calls after one that is refused
abbrev pub StoreCounts : StoreFault → ℕ → ℕ → Type 0
StoreCounts store.Failed before now = Rose before now
StoreCounts store.Memory before now = now ≡ before

-- the count of failed calls after one that answered this
abbrev pub CountsStore : {A : Type 0} → Result A StoreFault → ℕ → ℕ → Type 0
CountsStore result before now = MatchResult result (λ _. now ≡ before) (λ fault. StoreCounts fault before now)

-- what was sound is sound
abbrev pub StaysSound : Bool → Bool → Type 0
StaysSound old new = IsTrue old → IsTrue new

-- A load of sound files fails only where they tell and don't hold the name.
abbrev pub SoundLoad : LoadFault → Bool → Option Names → List ℕ → Type 0
SoundLoad load.Failed sound held name = IsTrue sound → IsSomeAnd held (λ names. names name ≡ None)
SoundLoad load.TooLong sound held name = ⊤
SoundLoad load.Memory sound held name = ⊤

-- a call on what is sound doesn't fail
abbrev pub SoundStore : StoreFault → Bool → Type 0
SoundStore store.Failed sound = sound ≡ false
SoundStore store.Memory sound = ⊤
