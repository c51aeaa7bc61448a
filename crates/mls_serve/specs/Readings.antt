-- What was read of a link, and how reading ends.
use Rattle.std.specs.Prelude.{◌≡◌, ℕ, ◌+◌, ◌-◌, ◌<◌, ◌≤◌, List, [], length, take, map, Option, IfSome, ⊤}
use Rattle.mls_base.specs.Told.{MayCease, Rose}
use Rattle.mls_model.specs.declared.lanes.LaneEnd.{LaneEnd}
use Rattle.mls_model.specs.declared.lanes.LaneEnd.TheVariants as ends
use Rattle.mls_model.specs.Numbers.{joined}
use Rattle.mls_model.specs.Frames.{spelling}
use Rattle.mls_model.specs.Lanes.{end_at, lane_frames, lane_rest}
use Rattle.mls_frame.specs.Views.{AreBytes}
use Rattle.mls_frame.specs.Feeding.{Fed, after_feed}
use Rattle.mls_wire.specs.Links.{Talk, after_read}

-- the most bytes of a lane
abbrev pub most_bytes : ℕ
most_bytes = 1073741824

-- These bytes were read, the first of those that were left.
pub record HasRead (bytes : List ℕ) (old now : Option Talk) : Type 0 where
  pub told : now ≡ after_read (length bytes) old
  pub front : IfSome old (λ talk. take (length bytes) talk.left ≡ bytes)
  pub are_bytes : AreBytes bytes

-- More bytes were read and fed.
pub record ReadMore (old now : Option Talk) (before after : Fed) (head : ℕ) : Type 0 where
  pub piece : List ℕ
  pub read : HasRead piece old now
  pub some : 0 < length piece
  pub few : before.offset + (length before.rest + length piece) ≤ head + most_bytes
  pub fed : after ≡ after_feed piece before

-- More bytes were read, for which there was no memory.
pub record ReadLost (old now : Option Talk) : Type 0 where
  pub piece : List ℕ
  pub read : HasRead piece old now

-- The input ended: nothing is left of a link that tells.
pub record IsInputEnd (end : LaneEnd) (taken : ℕ) (rest : List ℕ) (size : ℕ) (told now : Option Talk) (before after : ℕ) : Type 0 where
  pub is_end : end ≡ end_at taken rest
  pub few : size < most_bytes
  pub nothing : IfSome told (λ talk. talk.left ≡ [])
  pub link : now ≡ told
  pub faultless : after ≡ before

-- The bytes are bad.
pub record IsBadEnd (end : LaneEnd) (taken : ℕ) (rest : List ℕ) (told now : Option Talk) (before after : ℕ) : Type 0 where
  pub is_end : end ≡ end_at taken rest
  pub link : now ≡ told
  pub faultless : after ≡ before

-- A read failed.
pub record IsFaultEnd (at taken size : ℕ) (told now : Option Talk) (before after : ℕ) : Type 0 where
  pub here : at ≡ taken
  pub few : size < most_bytes
  pub ceased : MayCease told now
  pub rose : Rose before after

-- an end that is not bad
abbrev pub IsGood : LaneEnd → Type 0
IsGood ends.Clean = ⊤
IsGood (ends.Cut at) = ⊤
IsGood (ends.BadKind at) = ⊥
IsGood (ends.BadLength at) = ⊥
IsGood (ends.Fault at) = ⊥
IsGood (ends.Full at) = ⊥

-- As many bytes came as a lane may give, and they aren't bad.
pub record IsFullEnd (at taken : ℕ) (rest : List ℕ) (size : ℕ) (told now : Option Talk) (before after : ℕ) : Type 0 where
  pub here : at ≡ taken
  pub full : size ≡ most_bytes
  pub good : IsGood (end_at taken rest)
  pub link : now ≡ told
  pub faultless : after ≡ before

-- How reading ends where so many bytes came, of which some were taken off as frames and these are the rest.
abbrev pub EndsReading : LaneEnd → (taken : ℕ) → (rest : List ℕ) → (size : ℕ) → (told now : Option Talk) → (before after : ℕ) → Type 0
EndsReading ends.Clean taken rest size told now before after = IsInputEnd ends.Clean taken rest size told now before after
EndsReading (ends.Cut at) taken rest size told now before after = IsInputEnd (ends.Cut at) taken rest size told now before after
EndsReading (ends.BadKind at) taken rest size told now before after = IsBadEnd (ends.BadKind at) taken rest told now before after
EndsReading (ends.BadLength at) taken rest size told now before after = IsBadEnd (ends.BadLength at) taken rest told now before after
EndsReading (ends.Fault at) taken rest size told now before after = IsFaultEnd at taken size told now before after
EndsReading (ends.Full at) taken rest size told now before after = IsFullEnd at taken rest size told now before after

-- the same of what a feeder holds whose first bytes up to a place were a Hello
abbrev pub EndsFed : LaneEnd → (head : ℕ) → Fed → (told now : Option Talk) → (before after : ℕ) → Type 0
EndsFed end head fed told now before after = EndsReading end (fed.offset - head) fed.rest ((fed.offset + length fed.rest) - head) told now before after

-- how many of a lane's bytes are those of its events
abbrev pub taken_of : List ℕ → ℕ
taken_of bytes = length (joined (map spelling (lane_frames bytes)))

-- how reading ends of a lane with these bytes
abbrev pub EndsLane : LaneEnd → (bytes : List ℕ) → (told now : Option Talk) → (before after : ℕ) → Type 0
EndsLane end bytes told now before after = EndsReading end (taken_of bytes) (lane_rest bytes) (length bytes) told now before after
