-- A run of a keeper over a disk that tells: puts, gets and crashes, and which values each of them may give.
use Rattle.std.specs.Prelude.{◌≡◌, ℕ, ◌<◌, List, [], ◌∷◌, ◌++◌, Option, None, Some, IfSome, Bool, true, false, IsTrue}
use Rattle.mls_slot.specs.Disks.{Areas, View, IsLeft, IsAtRest}
use Rattle.mls_slot.specs.Slots.{value}
use Rattle.mls_slot.specs.Runs.{LeavesOnly, IsOneOf, GivesOnly}

-- nothing, or the bytes of a put
abbrev pub Value : Type 0
Value = Option (List ℕ)

-- A put of these bytes, and whether it answered Ok; a get, and what it gave where it answered Ok; a crash in a put of
-- these bytes, in a get, or between two calls, and the image that it left. After a crash a new keeper goes on.
pub data Step : Type 0 where
  Put : (bytes : List ℕ) (is_ok : Bool) → Step
  Get : (given : Option Value) → Step
  CutPut : (bytes : List ℕ) (image : Areas) → Step
  CutGet : (image : Areas) → Step
  Crash : (image : Areas) → Step

-- in a put a crash gives what it gave before, or these bytes
abbrev pub CrashInPut : List ℕ → View → View → Type 0
CrashInPut bytes old new = (values : List Value) → GivesOnly old values → LeavesOnly old new (λ image. IsOneOf (value image) (values ++ Some bytes ∷ []))

-- in a get a crash gives what it gave before
abbrev pub CrashInGet : View → View → Type 0
CrashInGet old new = (values : List Value) → GivesOnly old values → LeavesOnly old new (λ image. IsOneOf (value image) values)

-- a get gives what a crash might have given
abbrev pub Gives : Value → View → Type 0
Gives given old = (values : List Value) → GivesOnly old values → IsOneOf given values

-- the disk after a crash that left this image
pub record Restarts (image : Areas) (new : View) : Type 0 where
  pub rest : IsAtRest new
  pub seen : (area : ℕ) → area < 2 → new.seen area ≡ image area

-- What a step does to the disk: what the clauses of the keeper's calls say, and what a crash is.
abbrev pub Does : {D : Type 0} → (D → View) → Step → D → D → Type 0
Does view (Put bytes is_ok) old new = CrashInPut bytes (view old) (view new) × (IsTrue is_ok → GivesOnly (view new) (Some bytes ∷ []))
Does view (Get given) old new = CrashInGet (view old) (view new) × IfSome given (λ v. Gives v (view old) × GivesOnly (view new) (v ∷ []))
Does {D} view (CutPut bytes image) old new = (end : D) × CrashInPut bytes (view old) (view end) × (view end).left_since ((view old).moment) image × Restarts image (view new)
Does {D} view (CutGet image) old new = (end : D) × CrashInGet (view old) (view end) × (view end).left_since ((view old).moment) image × Restarts image (view new)
Does view (Crash image) old new = IsLeft (view old) image × Restarts image (view new)

-- the steps lead from one disk to another
abbrev pub IsRun : {D : Type 0} → (D → View) → D → List Step → D → Type 0
IsRun view old [] new = old ≡ new
IsRun {D} view old (step ∷ steps) new = (mid : D) × Does view step old mid × IsRun view mid steps new

-- Which values may be given after a step: after a put that answered Ok its bytes alone, after one that failed or was
-- under way its bytes too.
abbrev pub after_step : List Value → Step → List Value
after_step values (Put bytes true) = Some bytes ∷ []
after_step values (Put bytes false) = values ++ Some bytes ∷ []
after_step values (Get given) = values
after_step values (CutPut bytes image) = values ++ Some bytes ∷ []
after_step values (CutGet image) = values
after_step values (Crash image) = values

abbrev pub after_steps : List Value → List Step → List Value
after_steps values [] = values
after_steps values (step ∷ steps) = after_steps (after_step values step) steps

-- what is given in a step: by a get that answered Ok, or by a new keeper after a crash
abbrev pub given_in : Step → Option Value
given_in (Put bytes is_ok) = None
given_in (Get given) = given
given_in (CutPut bytes image) = Some (value image)
given_in (CutGet image) = Some (value image)
given_in (Crash image) = Some (value image)

-- all that is given in these steps is what may be given there
abbrev pub GiveOnly : List Value → List Step → Type 0
GiveOnly values [] = Unit {0}
GiveOnly values (step ∷ steps) = IfSome (given_in step) (λ v. IsOneOf v (after_step values step)) × GiveOnly (after_step values step) steps

-- After a crash at any moment of the run, in a call or between two, `new` and `get` give what the last put that
-- answered Ok wrote, or what a put that failed or was under way since then was writing, or before the first such put
-- one of the values at the beginning. So does a get in the run, and a crash at its end.
pub record Survives (values : List Value) (steps : List Step) (end : View) : Type 0 where
  pub inside : GiveOnly values steps
  pub after : GivesOnly end (after_steps values steps)

-- an empty disk
pub record IsEmpty (view : View) : Type 0 where
  pub rest : IsAtRest view
  pub none : (area : ℕ) → area < 2 → view.seen area ≡ []
