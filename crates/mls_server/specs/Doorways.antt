-- A server's door under its lock: what its type keeps since the run began.
use Rattle.std.specs.Prelude.{◌≡◌, ℕ, ◌+◌, ◌<◌, ◌≤◌, ◌^◌, Bool, true, false, ◌&&◌, nat_le, List, length, IsTrue}
use Rattle.mls_base.specs.Told.{Rose, last_count}
use Rattle.mls_wire.specs.Doors.{Awaited}
use Rattle.mls_held.specs.declared.run.Run as run

-- the door, the number of the next lane, how many accepts are left, and whether an accept failed
pub record DoorwayView (D : Type 0) : Type 0 where
  pub door : D
  pub next : ℕ
  pub left : ℕ
  pub failed : Bool

-- The accepts made since the run began and those that are left are its connections, and so are the lanes that were drawn and those
-- that are left; the lanes drawn are client lanes. The door's count of faults never fell, and where an accept failed it rose. Where
-- the door was sure to hand out a link for each connection, it is for each that is left, and no accept failed.
pub record IsDoorway {D R : Type 0} (N : run.Ghosts R) (enough : Bool) (accepts faults : D → ℕ) (awaited : D → List Awaited) (way : DoorwayView D) : Type 0 where
  pub counted : accepts way.door + way.left ≡ N.accepts + N.connections
  pub numbered : way.next + way.left ≡ N.lane_count
  pub small : way.next + way.left < 2 ^ 32
  pub client : N.sizes.ranks ≤ way.next
  pub later : N.door_faults ≤ faults way.door
  pub rose : way.failed ≡ true → Rose N.door_faults (faults way.door)
  pub awaits : IsTrue enough → way.left ≤ length (awaited way.door)
  pub countable : IsTrue enough → accepts way.door + way.left ≤ last_count
  pub blameless : IsTrue enough → way.failed ≡ false

-- The names of a run that begins with this door, for so many connections.
pub record IsDoorRun {D R : Type 0} (N : run.Ghosts R) (enough : Bool) (accepts faults : D → ℕ) (awaited : D → List Awaited) (door : D) (connections : ℕ) : Type 0 where
  pub count : N.connections ≡ connections
  pub accepted : N.accepts ≡ accepts door
  pub faulted : N.door_faults ≡ faults door
  pub lanes : N.lane_count ≡ N.sizes.ranks + connections
  pub awaits : IsTrue enough → connections ≤ length (awaited door)
  pub countable : IsTrue enough → accepts door + connections ≤ last_count

-- A link was accepted for the next lane.
pub record IsDrawn {D : Type 0} (accepts : D → ℕ) (old new : DoorwayView D) (lane : ℕ) : Type 0 where
  pub own : lane ≡ old.next
  pub next : new.next ≡ old.next + 1
  pub left : new.left + 1 ≡ old.left
  pub accepted : accepts new.door ≡ accepts old.door + 1
  pub failed : new.failed ≡ old.failed

-- the same place in the run: only the door was used
pub record SamePlace {D : Type 0} (old new : DoorwayView D) : Type 0 where
  pub next : new.next ≡ old.next
  pub left : new.left ≡ old.left

-- whether the door awaits a link for each of so many connections, and counts so many accepts more
abbrev pub is_sure : (accepts : ℕ) → List Awaited → (connections : ℕ) → Bool
is_sure accepts awaited connections = nat_le connections (length awaited) && nat_le (accepts + connections) last_count
