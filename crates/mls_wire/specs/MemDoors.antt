-- What a door in memory holds.
use Rattle.std.specs.Prelude.{List, [], map, if◌then◌else◌}
use Rattle.mls_base.specs.Calls.{none_ahead}
use Rattle.mls_wire.specs.Doors.{Awaited}
use Rattle.mls_wire.specs.MemLinks.{awaited_of}
use Rattle.mls_wire.specs.declared.mem_door.MemDoor.{MemDoor}

-- the links that a door hands out for sure
abbrev pub awaited_at : MemDoor → List Awaited
awaited_at door = if none_ahead door.calls then map awaited_of door.links.items else []
