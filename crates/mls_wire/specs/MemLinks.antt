-- What a link in memory holds.
use Rattle.std.specs.Prelude.{ℕ, ◌-◌, Bool, ◌&&◌, ◌==◌, take, drop, if◌then◌else◌, vec_len}
use Rattle.mls_base.specs.Calls.{none_ahead}
use Rattle.mls_wire.specs.Links.{Talk}
use Rattle.mls_wire.specs.Doors.{Closed, Awaited}
use Rattle.mls_wire.specs.declared.mem_link.MemLink.{MemLink}

-- what was read, what is left and what was written
abbrev pub talk_of : MemLink → Talk
talk_of link = record { read = take link.at link.bytes.items; left = drop link.at link.bytes.items; written = link.written.items }

-- how many more bytes it takes for sure
abbrev pub sure_of : MemLink → ℕ
sure_of link = if none_ahead link.calls then link.room - vec_len link.written else 0

-- nothing was read of it, nothing was written to it, and no call failed
abbrev pub is_unused : MemLink → Bool
is_unused link = (link.at == 0) && (vec_len link.written == 0) && (link.faults == 0)

-- what is told of a closed link
abbrev pub closed_of : MemLink → Closed
closed_of link = record { talk = talk_of link; faults = link.faults }

-- what is sure of a link that is handed out
abbrev pub awaited_of : MemLink → Awaited
awaited_of link = record { sound = none_ahead link.calls; sure = sure_of link }
