-- What one poll of a stream does to its link and to the bytes that it holds.
use Rattle.std.specs.Prelude.{◌≡◌, ℕ, ◌+◌, ◌<◌, ◌≤◌, List, ◌++◌, length, map, Bool, true, false, Option, Some, None}
use Rattle.futures.specs.declared.task.Poll.{Poll}
use Rattle.futures.specs.declared.task.Poll.TheVariants.{Ready, Pending}
use Rattle.mls_model.specs.declared.lanes.LaneEnd.{LaneEnd}
use Rattle.mls_model.specs.Numbers.{joined}
use Rattle.mls_model.specs.Frames.{Frame, IsFrame, spelling, Sight, whole, more, bad, sight}
use Rattle.mls_model.specs.Lanes.{end_by}
use Rattle.mls_model.specs.declared.lanes.FrameFault.{FrameFault}
use Rattle.mls_frame.specs.Views.{AreBytes}
use Rattle.mls_frame.specs.Feeding.{IsNoFrame}
use Rattle.mls_wire.specs.Links.{Talk}
use Rattle.mls_poll.specs.Reads.{HasRead}
use Rattle.mls_poll.specs.Streams.{most_bytes, frames_of, is_fault, EndsBy, CountsEnd, Leaves}
use Rattle.mls_poll.specs.declared.stream.StreamItem.{StreamItem}
use Rattle.mls_poll.specs.declared.stream.StreamItem.TheVariants as items

-- a whole frame of so many bytes is seen
abbrev pub SeesWhole : ℕ → Sight → Type 0
SeesWhole n (whole frame used) = n ≡ used
SeesWhole n more = ⊥
SeesWhole n (bad fault) = ⊥

-- The frame's spelling was cut off the front of the bytes.
pub record Cuts (frame : Frame) (old new : List ℕ) : Type 0 where
  pub fits : IsFrame frame
  pub split : old ≡ spelling frame ++ new

-- The bytes are bad.
pub record SeesBad (end : LaneEnd) (offset : ℕ) (old new : List ℕ) : Type 0 where
  pub fault : FrameFault
  pub seen : sight old ≡ bad fault
  pub is_end : end ≡ end_by offset (bad fault)
  pub held : new ≡ old

-- what is taken off the bytes that are held where there is enough to tell
abbrev pub Takes : StreamItem → ℕ → (old new : List ℕ) → Type 0
Takes (items.Event frame) offset old new = Cuts frame old new
Takes (items.End end) offset old new = SeesBad end offset old new
Takes items.Memory offset old new = new ≡ old

-- What moves: what the link tells, its count of faults, and the bytes that are held.
pub record Moving : Type 0 where
  pub told : Option Talk
  pub faults : ℕ
  pub held : List ℕ

-- Bytes were read and held behind the others, no more than a stream may have.
pub record Gathers (offset : ℕ) (old new : Moving) : Type 0 where
  pub piece : List ℕ
  pub are_bytes : AreBytes piece
  pub read : HasRead piece old.told new.told
  pub held : new.held ≡ old.held ++ piece
  pub faults : new.faults ≡ old.faults
  pub few : offset + length new.held ≤ most_bytes

-- a frame was cut off
pub record GivesFrame (frame : Frame) (old new : Moving) : Type 0 where
  pub cuts : Cuts frame old.held new.held
  pub told : new.told ≡ old.told
  pub faults : new.faults ≡ old.faults

-- the end was found
pub record GivesEnd (end : LaneEnd) (offset : ℕ) (old new : Moving) : Type 0 where
  pub none : IsNoFrame (sight old.held)
  pub ends : EndsBy end offset old.held (offset + length old.held) new.told old.faults new.faults
  pub held : new.held ≡ old.held
  pub told : Leaves (is_fault (items.End end)) old.told new.told
  pub faults : CountsEnd (is_fault (items.End end)) old.faults new.faults

-- nothing moved
pub record Stays (old new : Moving) : Type 0 where
  pub told : new.told ≡ old.told
  pub faults : new.faults ≡ old.faults
  pub held : new.held ≡ old.held

-- what an item leaves, once bytes were gathered
abbrev pub Gives : StreamItem → (offset : ℕ) → (old new : Moving) → Type 0
Gives (items.Event frame) offset old new = GivesFrame frame old new
Gives (items.End end) offset old new = GivesEnd end offset old new
Gives items.Memory offset old new = Stays old new

-- bytes were gathered, and then the item was given
pub record Comes (item : StreamItem) (offset : ℕ) (old new : Moving) : Type 0 where
  pub mid : Moving
  pub gathers : Gathers offset old mid
  pub gives : Gives item offset mid new

-- bytes were gathered, and then a read was pending
pub record Waits (offset : ℕ) (old new : Moving) : Type 0 where
  pub gathers : Gathers offset old new
  pub few : offset + length new.held < most_bytes

-- some bytes were gathered
pub record Grows (offset : ℕ) (old new : Moving) : Type 0 where
  pub gathers : Gathers offset old new
  pub some : length old.held < length new.held

-- what one read does
abbrev pub Reads : Poll (Option StreamItem) → (offset : ℕ) → (old new : Moving) → Type 0
Reads (Ready None) offset old new = Grows offset old new
Reads (Ready (Some item)) offset old new = Comes item offset old new
Reads Pending offset old new = Waits offset old new

-- what reads up to an item do
abbrev pub Advances : Poll StreamItem → (offset : ℕ) → (old new : Moving) → Type 0
Advances (Ready item) offset old new = Comes item offset old new
Advances Pending offset old new = Waits offset old new

-- A poll of a stream that took so many bytes off as frames, and whose end was given or not, leaves so many taken off.
abbrev pub Goes : (ended : Bool) → Poll (Option StreamItem) → (offset after : ℕ) → (old new : Moving) → Type 0
Goes true answer offset after old new = (answer ≡ Ready None) × (Stays old new × (after ≡ offset))
Goes false (Ready None) offset after old new = ⊥
Goes false (Ready (Some item)) offset after old new = Comes item offset old new × (after ≡ offset + length (joined (map spelling (frames_of item))))
Goes false Pending offset after old new = Waits offset old new × (after ≡ offset)
