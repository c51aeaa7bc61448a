-- A keeper's run survives crashes: by the steps, one after another.
use Rattle.std.proofs.Common.{◌≡◌, ◌<◌, List, [], ◌∷◌, ◌++◌, None, Some, IfSome, true, false, refl, sym, ◌∙◌, subst, arith, inl}
use Rattle.mls_slot.specs.Disks.{Areas, View, IsLeft}
use Rattle.mls_slot.specs.Slots.{value}
use Rattle.mls_slot.specs.Runs.{IsOneOf, GivesOnly}
use Rattle.mls_slot.specs.WholeRuns.{Value, Step, Restarts, Does, IsRun, after_step, given_in, Survives, IsEmpty}
use Rattle.mls_slot.specs.WholeRuns.Step.{Put, Get, CutPut, CutGet, Crash}
use Rattle.mls_slot.proofs.Values.{value_same}

-- after a crash another one gives the same
restarted : (image : Areas) (new : View) → Restarts image new → (other : Areas) → IsLeft new other → value other ≡ value image
restarted image new start other left =
    let first : 0 < 2 = omega arith in
    let second : 1 < 2 = omega arith in
    value_same other image (start.rest 0 first (other 0) (left 0 first) ∙ start.seen 0 first) (start.rest 1 second (other 1) (left 1 second) ∙ start.seen 1 second)

gives_again : (image : Areas) (new : View) (values : List Value) → Restarts image new → IsOneOf (value image) values → GivesOnly new values
gives_again image new values start one other left = subst (λ (v : Value). IsOneOf v values) (sym (restarted image new start other left)) one

module _ {D : Type 0} (view : D → View) where
  abbrev Kept : List Value → Step → D → Type 0
  Kept values step new = IfSome (given_in step) (λ v. IsOneOf v (after_step values step)) × GivesOnly (view new) (after_step values step)

  one_step : (values : List Value) (step : Step) (old new : D) → GivesOnly (view old) values → Does view step old new → Kept values step new
  one_step values (Put bytes true) old new gives does = (tt, does.1 refl)
  one_step values (Put bytes false) old new gives does = (tt, (does.0 values gives).now)
  one_step values (Get None) old new gives does = (tt, (does.0 values gives).now)
  one_step values (Get (Some v)) old new gives does = (does.1.0 values gives, (does.0 values gives).now)
  one_step values (CutPut bytes image) old new gives does =
      let one = (does.1 values gives).each image does.2 in
      (one, gives_again image (view new) (values ++ Some bytes ∷ []) does.3 one)
  one_step values (CutGet image) old new gives does =
      let one = (does.1 values gives).each image does.2 in
      (one, gives_again image (view new) values does.3 one)
  one_step values (Crash image) old new gives does =
      let one = gives image does.0 in
      (one, gives_again image (view new) values does.1 one)

  pub survives : (values : List Value) (steps : List Step) (old new : D) → GivesOnly (view old) values → IsRun view old steps new → Survives values steps (view new)
  survives values [] old new gives run = record { inside = tt; after = subst (λ (d : D). GivesOnly (view d) values) run gives }
  survives values (step ∷ steps) old new gives run =
      let here = one_step values step old run.0 gives run.1 in
      let there = survives (after_step values step) steps run.0 new here.1 run.2 in
      record { inside = (here.0, there.inside); after = there.after }

-- an empty disk gives nothing
pub empty_gives : (view : View) → IsEmpty view → GivesOnly view (None ∷ [])
empty_gives view empty image left =
    let first : 0 < 2 = omega arith in
    let second : 1 < 2 = omega arith in
    inl (value_same image (λ area. []) (empty.rest 0 first (image 0) (left 0 first) ∙ empty.none 0 first) (empty.rest 1 second (image 1) (left 1 second) ∙ empty.none 1 second))
