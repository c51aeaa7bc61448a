-- A connection that ends before its first frame isn't too long.
use Rattle.std.proofs.Common.{◌≡◌, ℕ, ◌<◌, List, [], ◌∷◌, length, Option, Result, Ok, Err, IfOk, refl, sym, subst, arith}
use Rattle.mls_model.specs.declared.lanes.FrameFault.TheVariants.{BadKind, BadLength}
use Rattle.mls_model.specs.declared.lanes.LaneEnd.{LaneEnd}
use Rattle.mls_model.specs.declared.lanes.LaneEnd.TheVariants as ends
use Rattle.mls_model.specs.Frames.{Sight, whole, more, bad, sight}
use Rattle.mls_model.specs.Lanes.{end_by, end_at, lane_rest}
use Rattle.mls_frame.specs.Feeding.{IsNoFrame}
use Rattle.mls_tape.proofs.LaneLemmas.{lane_stop}
use Rattle.mls_wire.specs.Links.{Talk}
use Rattle.mls_wire.specs.declared.greeting.Greeting.{Greeting}
use Rattle.mls_serve.specs.declared.served.LaneFault.{LaneFault}
use Rattle.mls_serve.specs.declared.served.Served.{Served}
use Rattle.mls_serve.specs.declared.served.Served.TheVariants as served
use Rattle.mls_serve.specs.Readings.{IsGood, taken_of}
use Rattle.mls_serve.specs.Steps.{Moving}
use Rattle.mls_serve.specs.Openings.{EndedEarly}
use Rattle.mls_serve.specs.Lanes.{GreetedServed, IsShort, IsShortIfEarly}
use Rattle.mls_serve.proofs.Lanes.{is_none}
use Rattle.mls_serve.proofs.Short.{IsMore, short}

-- what is no frame and not bad is too little to tell
good_is_more : (taken : ℕ) (s : Sight) → IsNoFrame s → IsGood (end_by taken s) → IsMore s
good_is_more taken (whole frame used) none good = absurd none
good_is_more taken more none good = tt
good_is_more taken (bad BadKind) none good = absurd good
good_is_more taken (bad BadLength) none good = absurd good

good_is_short : (taken : ℕ) (rest : List ℕ) → IsNoFrame (sight rest) → IsGood (end_at taken rest) → length rest < 67108868
unfolding end_at
good_is_short taken [] none good = omega arith
good_is_short taken (b ∷ rest) none good = short (b ∷ rest) (good_is_more taken (sight (b ∷ rest)) none good)

pub early_short : (end : LaneEnd) (old new : Option Talk) (before after : ℕ) → EndedEarly end old new before after → IsShort end
early_short ends.Clean old new before after h = tt
early_short (ends.Cut at) old new before after h = tt
early_short (ends.BadKind at) old new before after h = tt
early_short (ends.BadLength at) old new before after h = tt
early_short (ends.Fault at) old new before after h = tt
early_short (ends.Full at) old new before after h =
    let rest_is : lane_rest h.bytes ≡ h.bytes = (lane_stop h.bytes (sight h.bytes) refl (is_none (sight h.bytes) h.none)).1 in
    let good : IsGood (end_at (taken_of h.bytes) h.bytes) = subst (λ (xs : List ℕ). IsGood (end_at (taken_of h.bytes) xs)) rest_is h.ended.good in
    let less : length h.bytes < 67108868 = good_is_short (taken_of h.bytes) h.bytes h.none good in
    let full : length h.bytes ≡ 1073741824 = h.ended.full in
    omega (arith, less, full)

-- where the answer to the first frame couldn't be written, the end is a fault
greeted_short : (result : Served) (given : Greeting) (lane : ℕ) (first : List ℕ) (old new : Moving) → GreetedServed result given lane first old new → IsShortIfEarly result
greeted_short (served.Lane line) given lane first old new h = tt
greeted_short (served.Refused reason value) given lane first old new h = tt
greeted_short (served.Early end) given lane first old new h = subst IsShort (sym h.is_end) tt

pub all_short : (r : Result Served LaneFault) (given : Greeting) (lane : ℕ) (first : List ℕ) (old new : Moving) → IfOk r (λ (x : Served). GreetedServed x given lane first old new) → IfOk r (λ (x : Served). IsShortIfEarly x)
all_short (Ok x) given lane first old new h = greeted_short x given lane first old new h
all_short (Err e) given lane first old new h = tt
