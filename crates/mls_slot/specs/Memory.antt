-- A disk in memory as a disk.
use Rattle.mls_slot.specs.Disks.{View}
use Rattle.mls_slot.specs.Traces.{told}
use Rattle.mls_slot.specs.declared.memory.MemDisk.{MemDisk}

abbrev pub mem_view : MemDisk → View
mem_view disk = told disk.zero disk.one disk.past.items
