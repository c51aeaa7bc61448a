-- Numbered calls, of which some are to fail, and what a fault says of them.
use Rattle.std.specs.Prelude.{◌≡◌, ℕ, Bool, true, false, List, [], ◌∷◌, Option, None, Result, Ok, Err, nat_lt, ◌==◌}
use Rattle.std.specs.List.{list_any, list_all}
use Rattle.mls_base.specs.Told.{raised}
use Rattle.mls_base.specs.declared.calls.Calls.{Calls}
use Rattle.mls_base.specs.declared.faults.LoadFault.{LoadFault}
use Rattle.mls_base.specs.declared.faults.LoadFault.TheVariants as load
use Rattle.mls_base.specs.declared.faults.StoreFault.{StoreFault}
use Rattle.mls_base.specs.declared.faults.StoreFault.TheVariants as store

-- the call of a number is to fail
abbrev pub is_failing : List ℕ → ℕ → Bool
is_failing fails number = list_any (λ n. n == number) fails

-- no call from a number on is to fail
abbrev pub none_from : List ℕ → ℕ → Bool
none_from fails number = list_all (λ n. nat_lt n number) fails

-- the next call is to fail
abbrev pub next_fails : Calls → Bool
next_fails calls = is_failing calls.fails.items calls.made

-- no call that is to fail is still to come
abbrev pub none_ahead : Calls → Bool
none_ahead calls = none_from calls.fails.items calls.made

-- no call is to fail
abbrev pub are_none : List ℕ → Bool
are_none [] = true
are_none (n ∷ fails) = false

-- one call more was made
pub record Counted (old new : Calls) : Type 0 where
  pub made : new.made ≡ raised old.made
  pub fails : new.fails ≡ old.fails

-- a load that is refused by the next call, where that is to fail or not
abbrev pub LoadFails : LoadFault → Bool → Option (List ℕ) → Type 0
LoadFails load.Failed fails held = fails ≡ false → held ≡ None
LoadFails load.TooLong fails held = fails ≡ false
LoadFails load.Memory fails held = fails ≡ false

-- a call that stores fails exactly where it is to fail
abbrev pub FailsWhereDue : {A : Type 0} → Result A StoreFault → Bool → Type 0
FailsWhereDue (Ok done) due = due ≡ false
FailsWhereDue (Err store.Failed) due = due ≡ true
FailsWhereDue (Err store.Memory) due = due ≡ false
