-- What the answers of polls say.
use Rattle.std.specs.Prelude.{◌≡◌, ℕ, ◌+◌, Result, Ok, Err, ⊤}
use Rattle.mls_base.specs.Told.{Rose}
use Rattle.futures.specs.declared.task.Poll.{Poll}
use Rattle.futures.specs.declared.task.Poll.TheVariants.{Ready, Pending}

-- of what a poll gave that was ready and didn't fail
abbrev pub IfGiven : {A E : Type 0} → Poll (Result A E) → (A → Type 0) → Type 0
IfGiven (Ready (Ok x)) P = P x
IfGiven (Ready (Err e)) P = ⊤
IfGiven Pending P = ⊤

-- where a poll was ready and failed
abbrev pub OnFailed : {A E : Type 0} → Poll (Result A E) → Type 0 → Type 0
OnFailed (Ready (Ok x)) P = ⊤
OnFailed (Ready (Err e)) P = P
OnFailed Pending P = ⊤

-- the count of faults rose where the poll failed, and else stands
abbrev pub CountsFault : {A E : Type 0} → Poll (Result A E) → ℕ → ℕ → Type 0
CountsFault (Ready (Ok x)) before now = now ≡ before
CountsFault (Ready (Err e)) before now = Rose before now
CountsFault Pending before now = now ≡ before

-- the count of pending polls rose where the poll was pending, and else stands
abbrev pub CountsWait : {A : Type 0} → Poll A → ℕ → ℕ → Type 0
CountsWait (Ready x) before now = now ≡ before
CountsWait Pending before now = Rose before now

-- the count of what was given rose by one where something was given, and else stands
abbrev pub CountsAccept : {A E : Type 0} → Poll (Result A E) → ℕ → ℕ → Type 0
CountsAccept (Ready (Ok x)) before now = now ≡ before + 1
CountsAccept (Ready (Err e)) before now = now ≡ before
CountsAccept Pending before now = now ≡ before
