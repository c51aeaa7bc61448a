-- What is seen of a door.
use Rattle.std.specs.Prelude.{ℕ, Bool, List, Option}
use Rattle.mls_wire.specs.Doors.{Closed, Awaited}

-- the links that were closed, where the door tells them, its counts, whether it is sound, and the links that it hands out for sure
pub record DoorState : Type 0 where
  pub closed : Option (List Closed)
  pub faults : ℕ
  pub link_faults : ℕ
  pub accepts : ℕ
  pub sound : Bool
  pub awaited : List Awaited

-- of this door
abbrev pub door_seen : {D : Type 0} → (D → Option (List Closed)) → (D → ℕ) → (D → ℕ) → (D → ℕ) → (D → Bool) → (D → List Awaited) → D → DoorState
door_seen closed faults link_faults accepts sound awaited door = record { closed = closed door; faults = faults door; link_faults = link_faults door; accepts = accepts door; sound = sound door; awaited = awaited door }
