-- How a connection begins.
use Rattle.std.proofs.Common.{◌≡◌, ℕ, ◌+◌, ◌-◌, ◌≤◌, List, ◌++◌, length, drop, map, Option, Some, None, IfSome, IfNone, refl, sym, ap, subst, ◌∙◌, length-append, arith}
use Rattle.mls_model.specs.declared.lanes.LaneEnd.{LaneEnd}
use Rattle.mls_model.specs.Studies.{Sizes}
use Rattle.mls_model.specs.Numbers.{joined}
use Rattle.mls_model.specs.Frames.{Frame, spelling, Sight, whole, more, sight}
use Rattle.mls_model.specs.Lanes.{lane_rest}
use Rattle.mls_frame.specs.Feeding.{Fed, after_next, after_sight, IsNoFrame}
use Rattle.mls_frame.proofs.Takes.{seen_takes}
use Rattle.mls_tape.proofs.LaneLemmas.{lane_stop}
use Rattle.mls_wire.specs.Links.{Talk}
use Rattle.mls_wire.specs.declared.greeting.Greeting.{Greeting}
use Rattle.mls_serve.specs.Readings.{HasRead, EndsFed, taken_of, most_bytes}
use Rattle.mls_serve.specs.Openings.{SawFirst, Greeted, EndedEarly}
use Rattle.mls_serve.proofs.Lanes.{is_none}
use Rattle.mls_serve.proofs.Steps.{ends_same}

pub greeted : (given : Greeting) (s : Sizes) (old now : Option Talk) (fed after : Fed) → HasRead fed.rest old now → fed.offset ≡ 0 → length fed.rest ≤ most_bytes → after ≡ after_next fed → SawFirst given s (sight fed.rest) → Greeted given s old now after
greeted given s old now fed after read start few is saw =
    let f = saw.frame in
    let used = saw.used in
    let t = seen_takes fed.rest f used read.are_bytes saw.is_seen in
    let step : after ≡ after_sight (whole f used) fed = is ∙ ap (λ (x : Sight). after_sight x fed) saw.is_seen in
    let left : drop used fed.rest ≡ after.rest = sym (ap (λ (x : Fed). x.rest) step) in
    let here : after.offset ≡ fed.offset + used = ap (λ (x : Fed). x.offset) step in
    let split : fed.rest ≡ spelling f ++ after.rest = t.split ∙ ap (λ (xs : List ℕ). spelling f ++ xs) left in
    record {
      frame = f;
      is_greeting = saw.is_greeting;
      read = subst (λ (xs : List ℕ). HasRead xs old now) split read;
      offset = omega (arith, here, start, t.taken);
      few = omega (arith, here, start, t.taken, ap length split, length-append (spelling f) after.rest, few);
    }

pub early : (end : LaneEnd) (old now next : Option Talk) (fed : Fed) (before mid after : ℕ) → HasRead fed.rest old now → fed.offset ≡ 0 → mid ≡ before → IsNoFrame (sight fed.rest) → EndsFed end 0 fed now next mid after → EndedEarly end old next before after
early end old now next fed before mid after read start same none h =
    let stop = lane_stop fed.rest (sight fed.rest) refl (is_none (sight fed.rest) none) in
    let nothing : taken_of fed.rest ≡ 0 = ap (λ (fs : List Frame). length (joined (map spelling fs))) stop.0 in
    record {
      bytes = fed.rest;
      said = now;
      read = read;
      none = none;
      ended = ends_same end (fed.offset - 0) (taken_of fed.rest) ((fed.offset + length fed.rest) - 0) (length fed.rest) fed.rest (lane_rest fed.rest) now next mid before after (omega (arith, start, nothing)) (sym stop.1) (omega (arith, start)) same h;
    }

-- too little to tell changes nothing
pub more_same : (fed after : Fed) → after ≡ after_next fed → sight fed.rest ≡ more → after ≡ fed
more_same fed after is e =
    let zero : fed.offset + 0 ≡ fed.offset = omega arith in
    let step : after ≡ after_sight more fed = is ∙ ap (λ (x : Sight). after_sight x fed) e in
    let same : after_sight more fed ≡ fed = ap (λ (n : ℕ). record { offset = n; rest = fed.rest }) zero in
    step ∙ same

pub some_end : (o : Option LaneEnd) (end : LaneEnd) (P : LaneEnd → Type 0) → o ≡ Some end → IfSome o P → P end
some_end o end P e h = subst (λ (x : Option LaneEnd). IfSome x P) e h

pub no_end : (o : Option LaneEnd) (A : Type 0) → ((end : LaneEnd) → o ≡ Some end → ⊥) → IfNone o A → A
no_end None A h x = x
no_end (Some end) A h x = absurd (h end refl)
