-- What a server ends with.
use Rattle.std.specs.Prelude.{◌≡◌, ℕ, ◌+◌, ◌<◌, ◌≤◌, List, length, ⊤}
use Rattle.mls_base.specs.Told.{Rose, last_count}
use Rattle.mls_model.specs.Studies.{Sizes}
use Rattle.mls_book.specs.Keepers.{KeeperState, AtRank, AreLeft}
use Rattle.mls_wire.specs.Doors.{Awaited}
use Rattle.mls_desk.specs.Ends.{IsSince, IsLaneFault}
use Rattle.mls_server.specs.declared.faults.ServeFault.{ServeFault}
use Rattle.mls_server.specs.declared.faults.ServeFault.TheVariants.{DoorFault, Rank, Memory}

-- The door hands out a link for each of so many connections for sure, and counts so many accepts more.
pub record IsSureDoor (accepts : ℕ) (awaited : List Awaited) (connections : ℕ) : Type 0 where
  pub awaits : connections ≤ length awaited
  pub countable : accepts + connections ≤ last_count

-- The keepers stand in their places, and each rank's is what it was since the server began. Those that no rank has are as before.
pub record AreSince (ranks : ℕ) (old new : List KeeperState) : Type 0 where
  pub count : length new ≡ length old
  pub each : (rank : ℕ) → rank < ranks → AtRank rank old new IsSince
  pub left : AreLeft ranks old new

-- The door accepted at most so many links, and its counts never fell.
pub record DoorSince {D : Type 0} (accepts faults : D → ℕ) (connections : ℕ) (old new : D) : Type 0 where
  pub later : accepts old ≤ accepts new
  pub few : accepts new ≤ accepts old + connections
  pub counted : faults old ≤ faults new

-- An accept failed: the door's count of faults rose, and the door wasn't sure.
pub record HasFailed {D : Type 0} (accepts faults : D → ℕ) (awaited : D → List Awaited) (connections : ℕ) (old new : D) : Type 0 where
  pub rose : Rose (faults old) (faults new)
  pub unsure : IsSureDoor (accepts old) (awaited old) connections → ⊥

-- What a fault says of the door, or of the keeper of its rank.
abbrev pub ServeFaultSays : {D : Type 0} → (accepts faults : D → ℕ) → (awaited : D → List Awaited) → (connections : ℕ) → D → D → Sizes → (old new : List KeeperState) → ServeFault → Type 0
ServeFaultSays accepts faults awaited connections door door' s old new DoorFault = HasFailed accepts faults awaited connections door door'
ServeFaultSays accepts faults awaited connections door door' s old new (Rank fault) = IsLaneFault s old new fault
ServeFaultSays accepts faults awaited connections door door' s old new Memory = ⊤
