-- A keeper over a disk.
use Rattle.std.specs.Prelude.{ℕ, List, Option, None, Some, Bool, true, false}
use Rattle.mls_slot.specs.Disks.{Areas}
use Rattle.mls_slot.specs.Slots.{value}
use Rattle.mls_slot.specs.declared.disk.Disk.{Ghosts}
use Rattle.mls_slot.specs.declared.keeper.SlotKeeper.{SlotKeeper}

-- the disk of a keeper
abbrev pub disk_of : {D : Type 0} {T : Ghosts D} → SlotKeeper D T → D
disk_of keeper = keeper.disk

-- what is told of a disk's value
abbrev pub told_value : Bool → Bool → Areas → Option (Option (List ℕ))
told_value true false seen = Some (value seen)
told_value true true seen = None
told_value false faulted seen = None
