-- What a door tells of itself.
use Rattle.std.specs.Prelude.{◌≡◌, ℕ, zero, suc, ◌≤◌, Bool, List, [], ◌∷◌, ◌++◌, Option, Some, None, IsTrue, IsSome, ⊤}
use Rattle.mls_base.specs.Told.{raised}
use Rattle.mls_wire.specs.Links.{Talk}

-- a link that was closed: what had been read, left and written, and its count of faults
pub record Closed : Type 0 where
  pub talk : Talk
  pub faults : ℕ

-- a link that is handed out for sure: whether it is sound, and how many bytes it takes for sure
pub record Awaited : Type 0 where
  pub sound : Bool
  pub sure : ℕ

-- what is told after a link was closed
abbrev pub after_close : Option (List Closed) → Option Talk → ℕ → Option (List Closed)
after_close (Some closed) (Some talk) faults = Some (closed ++ record { talk = talk; faults = faults } ∷ [])
after_close (Some closed) None faults = None
after_close None talk faults = None

-- the number of closed links with a fault, after one with so many was closed
abbrev pub after_fault : ℕ → ℕ → ℕ
after_fault zero count = count
after_fault (suc faults) count = raised count

-- where the door tells, the link tells
abbrev pub Tells : Option (List Closed) → Option Talk → Type 0
Tells None told = ⊤
Tells (Some closed) told = IsSome told

-- where links were awaited, they still are
abbrev pub StaysAwaited : List Awaited → List Awaited → Type 0
StaysAwaited [] new = ⊤
StaysAwaited (first ∷ rest) new = new ≡ first ∷ rest

-- where links were awaited, the link that is handed out is the first of them
abbrev pub HandsOut : List Awaited → List Awaited → Bool → ℕ → Type 0
HandsOut [] new sound sure = ⊤
HandsOut (first ∷ rest) new sound sure = (new ≡ rest) × (IsTrue first.sound → IsTrue sound) × (first.sure ≤ sure)
