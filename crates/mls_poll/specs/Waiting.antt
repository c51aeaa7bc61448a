-- How often polls are pending before they are ready.
use Rattle.std.specs.Prelude.{◌≡◌, ℕ, ◌+◌, List, [], ◌∷◌, Bool, true, false, nat_lt}
use Rattle.mls_poll.specs.declared.waits.Waits.{Waits}

-- the next poll is pending
abbrev pub is_waiting : Waits → Bool
is_waiting waits = nat_lt 0 waits.ahead

-- a poll that is ready goes on to the next number of waits, which is 0 where there is none
abbrev pub GoesOn : List ℕ → ℕ → List ℕ → Type 0
GoesOn [] ahead later = (ahead ≡ 0) × (later ≡ [])
GoesOn (first ∷ rest) ahead later = (ahead ≡ first) × (later ≡ rest)

-- after a poll that was pending or not there is one wait less, or those before the next ready poll
abbrev pub AfterWait : Bool → Waits → Waits → Type 0
AfterWait true old new = (new.ahead + 1 ≡ old.ahead) × (new.later ≡ old.later)
AfterWait false old new = GoesOn old.later.items new.ahead new.later.items

-- the waits are these numbers, from the first ready poll on
abbrev pub AreWaits : List ℕ → Waits → Type 0
AreWaits numbers waits = GoesOn numbers waits.ahead waits.later.items
