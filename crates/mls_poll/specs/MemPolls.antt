-- What a polled link in memory holds.
use Rattle.std.specs.Prelude.{◌≡◌, ℕ, ◌-◌, Bool, ◌&&◌, ◌==◌, take, drop, if◌then◌else◌, vec_len}
use Rattle.mls_base.specs.Calls.{none_ahead}
use Rattle.mls_wire.specs.Links.{Talk}
use Rattle.mls_poll.specs.declared.mem_link.MemPollLink.{MemPollLink}

-- what was read, what is left and what was written
abbrev pub talk_of : MemPollLink → Talk
talk_of link = record { read = take link.at link.bytes.items; left = drop link.at link.bytes.items; written = link.written.items }

-- how many more bytes it takes for sure
abbrev pub sure_of : MemPollLink → ℕ
sure_of link = if none_ahead link.calls then link.room - vec_len link.written else 0

-- nothing was read of it, nothing was written to it, and no call failed
abbrev pub is_unused : MemPollLink → Bool
is_unused link = (link.at == 0) && (vec_len link.written == 0) && (link.faults == 0)

-- the cut and the room are as before
pub record SameSizes (old new : MemPollLink) : Type 0 where
  pub cut : new.cut ≡ old.cut
  pub room : new.room ≡ old.room

-- what is to wait, and how many reads were pending, is as before
pub record SameWaits (old new : MemPollLink) : Type 0 where
  pub waits : new.waits ≡ old.waits
  pub pending : new.pending ≡ old.pending
