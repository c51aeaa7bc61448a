-- What a fault of an event says of the keeper.
use Rattle.std.specs.Prelude.{◌≡◌, ℕ, Bool, true, false, Option, Result, Err, MatchResult, ⊤}
use Rattle.mls_base.specs.Told.{MayCease, Rose}
use Rattle.mls_ckpt.specs.Reading.{Read}
use Rattle.mls_book.specs.declared.faults.BookFault.{BookFault}
use Rattle.mls_book.specs.declared.faults.BookFault.TheVariants.{KeeperFault, CheckpointBad, Memory}

-- what a fault leaves of what a keeper tells: after a failed call it may cease to tell
abbrev pub Leaves : {A : Type 0} → BookFault → Option A → Option A → Type 0
Leaves KeeperFault old new = MayCease old new
Leaves (CheckpointBad at why) old new = new ≡ old
Leaves Memory old new = new ≡ old

-- the keeper's count of faults after a fault of an event
abbrev pub CountsFault : BookFault → ℕ → ℕ → Type 0
CountsFault KeeperFault before now = Rose before now
CountsFault (CheckpointBad at why) before now = now ≡ before
CountsFault Memory before now = now ≡ before

-- and after one that was answered so
abbrev pub CountsFaults : {A : Type 0} → Result A BookFault → ℕ → ℕ → Type 0
CountsFaults answer before now = MatchResult answer (λ _. now ≡ before) (λ fault. CountsFault fault before now)

-- a keeper that is sound doesn't fail
abbrev pub SoundFault : BookFault → Bool → Type 0
SoundFault KeeperFault sound = sound ≡ false
SoundFault (CheckpointBad at why) sound = ⊤
SoundFault Memory sound = ⊤

-- a keeper's fault comes only of an event that calls the keeper, and a bad checkpoint only of one that reads it
abbrev pub HasCause : BookFault → (calls reads : Bool) → Type 0
HasCause KeeperFault calls reads = calls ≡ true
HasCause (CheckpointBad at why) calls reads = reads ≡ true
HasCause Memory calls reads = ⊤

-- what holds where a checkpoint is bad
abbrev pub IfBad : BookFault → (fact : Type 0) → Type 0
IfBad KeeperFault fact = ⊤
IfBad (CheckpointBad at why) fact = fact
IfBad Memory fact = ⊤

-- a bad checkpoint is what is read, at the first place that is wrong
abbrev pub IsRefusal : {A : Type 0} → BookFault → Read A → Type 0
IsRefusal KeeperFault read = ⊤
IsRefusal (CheckpointBad at why) read = read ≡ Err (record { at = at; why = why })
IsRefusal Memory read = ⊤
