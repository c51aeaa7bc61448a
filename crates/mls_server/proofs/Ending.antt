-- What a server ends with: its door, its keepers, and the fault that is answered.
use Rattle.std.proofs.Common.{◌≡◌, ℕ, ◌+◌, ◌≤◌, Bool, true, false, ◌&&◌, leb as nat_le, List, length, Option, Some, None, IfSome, IsTrue, refl, sym, ap, subst, ◌∙◌, inl, arith}
use Rattle.std.proofs.lemmas.Bool.{true≢false, leb-true, le-leb}
use Rattle.std.proofs.lemmas.List.{length-map}
use Rattle.mls_base.specs.declared.outside.Keeper as keeper
use Rattle.mls_base.specs.Told.{Rose, last_count}
use Rattle.mls_model.specs.Studies.{Sizes}
use Rattle.mls_book.specs.Keepers.{KeeperState, keeper_seen, keepers_seen}
use Rattle.mls_book.proofs.KeeperPlaces.{element_in}
use Rattle.mls_wire.specs.Doors.{Awaited}
use Rattle.mls_held.specs.declared.run.Run as run
use Rattle.mls_desk.specs.Books.{WireBook}
use Rattle.mls_desk.specs.Ends.{IsSince, FieldCore, AreDeskEnds, EndsBooks}
use Rattle.mls_server.specs.declared.faults.ServeFault.{ServeFault}
use Rattle.mls_server.specs.declared.faults.ServeFault.TheVariants.{DoorFault, Rank, Memory}
use Rattle.mls_server.specs.Doorways.{DoorwayView, IsDoorway, IsDoorRun, is_sure}
use Rattle.mls_server.specs.Settled.{IsShown}
use Rattle.mls_server.specs.Ends.{IsSureDoor, AreSince, DoorSince, HasFailed, ServeFaultSays}

-- ---- the door

pub door_failed : {D R : Type 0} {N : run.Ghosts R} (enough : Bool) (accepts faults : D → ℕ) (awaited : D → List Awaited) (door : D) (connections : ℕ) (way : DoorwayView D)
    → IsDoorRun N enough accepts faults awaited door connections → IsDoorway N enough accepts faults awaited way → (IsSureDoor (accepts door) (awaited door) connections → IsTrue enough)
    → way.failed ≡ true → HasFailed accepts faults awaited connections door way.door
door_failed enough accepts faults awaited door connections way names is sure failed = record {
  rose = subst (λ n. Rose n (faults way.door)) names.faulted (is.rose failed);
  unsure = λ enough_links. absurd (true≢false (sym failed ∙ is.blameless (sure enough_links)));
}

pub door_since : {D R : Type 0} {N : run.Ghosts R} (enough : Bool) (accepts faults : D → ℕ) (awaited : D → List Awaited) (door : D) (connections : ℕ) (way : DoorwayView D)
    → IsDoorRun N enough accepts faults awaited door connections → IsDoorway N enough accepts faults awaited way → DoorSince accepts faults connections door way.door
door_since enough accepts faults awaited door connections way names is =
    let counted = is.counted in
    let numbered = is.numbered in
    let client = is.client in
    let count = names.count in
    let accepted = names.accepted in
    let lanes = names.lanes in
    let later = is.later in
    let faulted = names.faulted in
    record {
      later = omega (arith, counted, numbered, client, count, accepted, lanes);
      few = omega (arith, counted, count, accepted);
      counted = omega (arith, later, faulted);
    }

pub all_accepted : {D R : Type 0} {N : run.Ghosts R} (enough : Bool) (accepts faults : D → ℕ) (awaited : D → List Awaited) (door : D) (connections : ℕ) (way : DoorwayView D)
    → IsDoorRun N enough accepts faults awaited door connections → IsDoorway N enough accepts faults awaited way → way.left ≡ 0 → accepts way.door ≡ accepts door + connections
all_accepted enough accepts faults awaited door connections way names is whole =
    let counted = is.counted in
    let count = names.count in
    let accepted = names.accepted in
    omega (arith, counted, count, accepted, whole)

-- an untouched door
pub door_same : {D : Type 0} (accepts faults : D → ℕ) (connections : ℕ) (door : D) → DoorSince accepts faults connections door door
door_same accepts faults connections door = record { later = omega arith; few = omega arith; counted = omega arith }

both : (a b : Bool) → (a && b) ≡ true → (a ≡ true) × (b ≡ true)
both true b e = (refl, e)
both false b e = absurd (true≢false (sym e))

pub sure_is : (accepts : ℕ) (awaited : List Awaited) (connections : ℕ) → IsTrue (is_sure accepts awaited connections) → IsSureDoor accepts awaited connections
sure_is accepts awaited connections sure =
    let parts = both (nat_le connections (length awaited)) (nat_le (accepts + connections) last_count) sure in
    record { awaits = leb-true connections (length awaited) parts.0; countable = leb-true (accepts + connections) last_count parts.1 }

pub is_sure_where : (accepts : ℕ) (awaited : List Awaited) (connections : ℕ) → IsSureDoor accepts awaited connections → IsTrue (is_sure accepts awaited connections)
is_sure_where accepts awaited connections sure =
    let first = le-leb connections (length awaited) sure.awaits in
    let second = le-leb (accepts + connections) last_count sure.countable in
    ap (λ b. b && nat_le (accepts + connections) last_count) first ∙ second

-- ---- the keepers

since_same : (k : KeeperState) → IsSince k k
since_same k = record {
  counted = omega arith;
  tells = λ told. inl told;
  untold = λ told. told;
  sound = λ sound. sound;
  tells_on = λ sound told. told;
  faultless = λ sound. refl;
}

-- untouched keepers
pub all_same : (ranks : ℕ) (ks : List KeeperState) → ranks ≤ length ks → AreSince ranks ks ks
all_same ranks ks enough = record {
  count = refl;
  each = λ rank here.
      let at = element_in ks rank (omega (arith, here, enough)) in
      record { before = at.0; after = at.0; was = at.1; is = at.1; related = since_same at.0 };
  left = λ other here. refl;
}

pub desk_since : (s : Sizes) (cores : List FieldCore) (old new : List KeeperState) → AreDeskEnds s cores old new → AreSince s.ranks old new
desk_since s cores old new ends = record { count = ends.count; each = ends.each; left = ends.left }

pub seen_length : {K : Type 0} (U : keeper.Ghosts K) (ks : List K) → length (keepers_seen U ks) ≡ length ks
seen_length U ks = length-map ks (keeper_seen U)

-- ---- the fault

pub fault_says : {K D : Type 0} {U : keeper.Ghosts K} (accepts faults : D → ℕ) (awaited : D → List Awaited) (connections : ℕ) (door door' : D) (s : Sizes) (books : List (WireBook K)) (cores : List FieldCore) (keepers back : List K) (failed : Bool) (fault : Option ServeFault)
    → IfSome fault (IsShown books failed) → EndsBooks U s books cores keepers back → (failed ≡ true → HasFailed accepts faults awaited connections door door')
    → IfSome fault (ServeFaultSays accepts faults awaited connections door door' s (keepers_seen U keepers) (keepers_seen U back))
fault_says accepts faults awaited connections door door' s books cores keepers back failed None shown ends has = shown
fault_says accepts faults awaited connections door door' s books cores keepers back failed (Some DoorFault) shown ends has = has shown
fault_says accepts faults awaited connections door door' s books cores keepers back failed (Some (Rank fault)) shown ends has = ends.fault fault shown
fault_says accepts faults awaited connections door door' s books cores keepers back failed (Some Memory) shown ends has = shown
