-- What a stream of frames gives, and how it ends.
use Rattle.std.specs.Prelude.{◌≡◌, ℕ, ◌<◌, List, [], ◌∷◌, ◌++◌, length, map, Bool, true, false, Option, Some, None, IfSome, ⊤}
use Rattle.std.specs.List.{AllByRecursion}
use Rattle.futures.specs.declared.task.Poll.{Poll}
use Rattle.futures.specs.declared.task.Poll.TheVariants.{Ready, Pending}
use Rattle.mls_base.specs.Told.{MayCease, Rose}
use Rattle.mls_model.specs.declared.lanes.LaneEnd.{LaneEnd}
use Rattle.mls_model.specs.declared.lanes.LaneEnd.TheVariants as ends
use Rattle.mls_model.specs.Numbers.{joined}
use Rattle.mls_model.specs.Frames.{Frame, IsFrame, spelling}
use Rattle.mls_model.specs.Lanes.{end_at, lane_frames, lane_rest}
use Rattle.mls_frame.specs.Views.{AreBytes}
use Rattle.mls_wire.specs.Links.{Talk}
use Rattle.mls_poll.specs.Reads.{HasRead}
use Rattle.mls_poll.specs.declared.stream.StreamItem.{StreamItem}
use Rattle.mls_poll.specs.declared.stream.StreamItem.TheVariants as items

-- What contracts see of a stream: its link, the number of bytes that were taken off as frames, the bytes that it holds, and
-- whether its end was given.
pub record StreamView (L : Type 0) : Type 0 where
  pub link : L
  pub offset : ℕ
  pub held : List ℕ
  pub ended : Bool

-- the most bytes of a stream
abbrev pub most_bytes : ℕ
most_bytes = 1073741824

-- These frames were given: their spellings, followed by the bytes that are held, are the bytes that were read.
pub record HasGiven (told : Option Talk) (offset : ℕ) (held : List ℕ) (frames : List Frame) : Type 0 where
  pub each : AllByRecursion IsFrame frames
  pub taken : offset ≡ length (joined (map spelling frames))
  pub bytes : AreBytes (joined (map spelling frames) ++ held)
  pub kept : IfSome told (λ talk. talk.read ≡ joined (map spelling frames) ++ held)

-- the frames of an item
abbrev pub frames_of : StreamItem → List Frame
frames_of (items.Event frame) = frame ∷ []
frames_of (items.End end) = []
frames_of items.Memory = []

-- the frames of an answer of poll_next
abbrev pub frames_given : Poll (Option StreamItem) → List Frame
frames_given (Ready (Some item)) = frames_of item
frames_given (Ready None) = []
frames_given Pending = []

-- of the end that is given
abbrev pub OnEnd : StreamItem → (LaneEnd → Type 0) → Type 0
OnEnd (items.Event frame) P = ⊤
OnEnd (items.End end) P = P end
OnEnd items.Memory P = ⊤

abbrev pub IfEnd : Poll (Option StreamItem) → (LaneEnd → Type 0) → Type 0
IfEnd (Ready (Some item)) P = OnEnd item P
IfEnd (Ready None) P = ⊤
IfEnd Pending P = ⊤

-- whether an item is the end
abbrev pub is_end : StreamItem → Bool
is_end (items.Event frame) = false
is_end (items.End end) = true
is_end items.Memory = false

-- whether the end was given, after this answer
abbrev pub ended_by : Bool → Poll (Option StreamItem) → Bool
ended_by before (Ready (Some item)) = is_end item
ended_by before (Ready None) = true
ended_by before Pending = false

-- a stream whose end was given gives None, and no other does
abbrev pub GivesNone : Bool → Poll (Option StreamItem) → Type 0
GivesNone true answer = answer ≡ Ready None
GivesNone false (Ready None) = ⊥
GivesNone false (Ready (Some item)) = ⊤
GivesNone false Pending = ⊤

-- an end that isn't bad
abbrev pub IsGood : LaneEnd → Type 0
IsGood ends.Clean = ⊤
IsGood (ends.Cut at) = ⊤
IsGood (ends.BadKind at) = ⊥
IsGood (ends.BadLength at) = ⊥
IsGood (ends.Fault at) = ⊥
IsGood (ends.Full at) = ⊥

-- The input ended: nothing is left of a link that tells.
pub record InputEnded (end : LaneEnd) (taken : ℕ) (rest : List ℕ) (size : ℕ) (told : Option Talk) : Type 0 where
  pub is_end : end ≡ end_at taken rest
  pub few : size < most_bytes
  pub nothing : IfSome told (λ talk. talk.left ≡ [])

-- A read failed.
pub record ReadFailed (at taken size before now : ℕ) : Type 0 where
  pub here : at ≡ taken
  pub few : size < most_bytes
  pub rose : Rose before now

-- As many bytes came as a stream may have, and they aren't bad.
pub record IsFull (at taken : ℕ) (rest : List ℕ) (size : ℕ) : Type 0 where
  pub here : at ≡ taken
  pub full : size ≡ most_bytes
  pub good : IsGood (end_at taken rest)

-- How a stream ends that read so many bytes, of which so many were taken off as frames and these are the rest. The count of
-- faults stood at before and stands at now.
abbrev pub EndsBy : LaneEnd → (taken : ℕ) → (rest : List ℕ) → (size : ℕ) → Option Talk → (before now : ℕ) → Type 0
EndsBy ends.Clean taken rest size told before now = InputEnded ends.Clean taken rest size told
EndsBy (ends.Cut at) taken rest size told before now = InputEnded (ends.Cut at) taken rest size told
EndsBy (ends.BadKind at) taken rest size told before now = ends.BadKind at ≡ end_at taken rest
EndsBy (ends.BadLength at) taken rest size told before now = ends.BadLength at ≡ end_at taken rest
EndsBy (ends.Fault at) taken rest size told before now = ReadFailed at taken size before now
EndsBy (ends.Full at) taken rest size told before now = IsFull at taken rest size

-- how many of a lane's bytes are those of its events
abbrev pub taken_of : List ℕ → ℕ
taken_of bytes = length (joined (map spelling (lane_frames bytes)))

-- The frames are the events of the lane with these bytes, and it ends so.
pub record EndsLane (end : LaneEnd) (frames : List Frame) (told : Option Talk) (before now : ℕ) (bytes : List ℕ) : Type 0 where
  pub events : lane_frames bytes ≡ frames
  pub ends : EndsBy end (taken_of bytes) (lane_rest bytes) (length bytes) told before now

-- where the link tells, this holds of the bytes that were read
abbrev pub OfRead : Option Talk → (List ℕ → Type 0) → Type 0
OfRead told P = IfSome told (λ talk. P talk.read)

-- whether an item is a fault of the link
abbrev pub is_fault : StreamItem → Bool
is_fault (items.Event frame) = false
is_fault (items.End ends.Clean) = false
is_fault (items.End (ends.Cut at)) = false
is_fault (items.End (ends.BadKind at)) = false
is_fault (items.End (ends.BadLength at)) = false
is_fault (items.End (ends.Fault at)) = true
is_fault (items.End (ends.Full at)) = false
is_fault items.Memory = false

abbrev pub is_fault_given : Poll (Option StreamItem) → Bool
is_fault_given (Ready (Some item)) = is_fault item
is_fault_given (Ready None) = false
is_fault_given Pending = false

-- the count of faults rose with a fault, and else stands
abbrev pub CountsEnd : Bool → ℕ → ℕ → Type 0
CountsEnd true before now = Rose before now
CountsEnd false before now = now ≡ before

-- what is told may cease with a fault, and else stands
abbrev pub Leaves : Bool → Option Talk → Option Talk → Type 0
Leaves true mid new = MayCease mid new
Leaves false mid new = new ≡ mid

-- Some bytes were read, and nothing else of what is told changed. With a fault it may have ceased.
pub record ReadsOn (fault : Bool) (old new : Option Talk) : Type 0 where
  pub piece : List ℕ
  pub mid : Option Talk
  pub read : HasRead piece old mid
  pub leaves : Leaves fault mid new
