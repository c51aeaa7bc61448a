-- A lane's bytes as frames, and a tape's bytes as lanes.
use Rattle.std.specs.Prelude.{◌≡◌, ℕ, zero, suc, ◌+◌, ◌^◌, ◌<◌, ◌≤◌, Bool, true, not, ◌&&◌, ◌||◌, cond, List, [], ◌∷◌, ◌++◌, length, take, drop, map, Result, Ok, Err, nat_lt, ◌==◌, codes}
use Rattle.std.specs.List.{AllByRecursion, flat_map}
use Rattle.std.specs.Int.{Width, w8, w16, w32, byte_len, from_be_bytes}
use Rattle.mls_model.specs.declared.lanes.LaneKind.{LaneKind}
use Rattle.mls_model.specs.declared.lanes.LaneKind.TheVariants as kinds
use Rattle.mls_model.specs.declared.lanes.LaneEnd.{LaneEnd}
use Rattle.mls_model.specs.declared.lanes.LaneEnd.TheVariants as ends
use Rattle.mls_model.specs.declared.lanes.LaneLine.{LaneLine}
use Rattle.mls_model.specs.declared.lanes.FrameFault.TheVariants.{BadKind, BadLength}
use Rattle.mls_model.specs.declared.lanes.TapeWhy.{TapeWhy}
use Rattle.mls_model.specs.declared.lanes.TapeWhy.TheVariants as why
use Rattle.mls_model.specs.Numbers.{joined, same_bytes}
use Rattle.mls_model.specs.Frames.{Frame, IsFrame, spelling, u16, u32, Sight, whole, more, bad, sight}

-- The events of a lane: the longest list of frames whose joined spellings are a prefix of its bytes. rest is what is left.
pub record AreLaneEvents (bytes : List ℕ) (frames : List Frame) (rest : List ℕ) : Type 0 where
  pub split : bytes ≡ joined (map spelling frames) ++ rest
  pub each : AllByRecursion IsFrame frames
  pub longest : (frame : Frame) (tail : List ℕ) → IsFrame frame → rest ≡ spelling frame ++ tail → ⊥

-- how a lane ends whose rest begins at a place
abbrev pub end_by : ℕ → Sight → LaneEnd
end_by place (whole frame used) = ends.Clean
end_by place more = ends.Cut place
end_by place (bad BadKind) = ends.BadKind place
end_by place (bad BadLength) = ends.BadLength place

unfoldable pub end_at : ℕ → List ℕ → LaneEnd
end_at place [] = ends.Clean
end_at place (b ∷ rest) = end_by place (sight (b ∷ rest))

-- the frames and the rest of a list of bytes, by the sight of its front, for as many frames as are asked for
unfoldable pub frames_in : ℕ → List ℕ → List Frame × List ℕ
frames_in zero bytes = ([], bytes)
frames_in (suc n) bytes =
    elim (sight bytes) [
      | whole frame used ↦ (frame ∷ (frames_in n (drop used bytes)).0, (frames_in n (drop used bytes)).1)
      | more ↦ ([], bytes)
      | bad fault ↦ ([], bytes)
    ]

-- those of all the bytes: no lane has more frames than bytes
abbrev pub lane_frames : List ℕ → List Frame
lane_frames bytes = (frames_in (length bytes) bytes).0

abbrev pub lane_rest : List ℕ → List ℕ
lane_rest bytes = (frames_in (length bytes) bytes).1

-- a lane with its events and its end
pub record Lane : Type 0 where
  pub rank : ℕ
  pub kind : LaneKind
  pub frames : List Frame
  pub end : LaneEnd

-- the lane of a rank and kind with these bytes
unfoldable pub lane_of : ℕ → LaneKind → List ℕ → Lane
lane_of rank kind bytes = record {
  rank = rank;
  kind = kind;
  frames = lane_frames bytes;
  end = end_at (length (joined (map spelling (lane_frames bytes)))) (lane_rest bytes);
}

-- what the result text says of a lane
abbrev pub line_of : ℕ → Lane → LaneLine
line_of k lane = record { lane = k; rank = lane.rank; kind = lane.kind; events = length lane.frames; end = lane.end }

-- The tape's table. Fields are read in order; a field is its value and the bytes after it, and a refusal has a place.
pub record TapeRefusal : Type 0 where
  pub at : ℕ
  pub why : TapeWhy

abbrev pub Read : Type 0 → Type 0
Read A = Result A TapeRefusal

abbrev pub refused : {A : Type 0} → ℕ → TapeWhy → Read A
refused at why = Err (record { at = at; why = why })

infixl 10 ◌>>=◌
abbrev pub ◌>>=◌ : {A B : Type 0} → Read A → (A → Read B) → Read B
(Ok x) >>= f = f x
(Err e) >>= f = Err e

-- the bytes of a field of n bytes at a place
abbrev pub bytes_at : ℕ → ℕ → List ℕ → Read (List ℕ × List ℕ)
bytes_at n at bytes = cond (nat_lt (length bytes) n) (refused at why.Cut) (Ok (take n bytes, drop n bytes))

abbrev pub number_at : Width → ℕ → List ℕ → Read (ℕ × List ℕ)
number_at w at bytes = cond (nat_lt (length bytes) (byte_len w)) (refused at why.Cut) (Ok (from_be_bytes w (take (byte_len w) bytes), drop (byte_len w) bytes))

-- the lane before its events are told: at is where its bytes begin
pub record LaneBytes : Type 0 where
  pub rank : ℕ
  pub kind : LaneKind
  pub at : ℕ
  pub bytes : List ℕ

abbrev pub kind_of : ℕ → LaneKind
kind_of code = cond (code == 0) kinds.Client kinds.Control

-- a lane at a place: kind, rank, length, bytes
unfoldable pub lane_at : ℕ → ℕ → List ℕ → Read (LaneBytes × List ℕ)
lane_at ranks at bytes = do
  kind ← number_at w8 at bytes
  known ← cond (nat_lt 1 kind.0) (refused at why.LaneKind) (Ok kind)
  rank ← number_at w16 (at + 1) known.1
  held ← cond (nat_lt rank.0 ranks) (Ok rank) (refused (at + 1) why.LaneRank)
  size ← number_at w32 (at + 3) held.1
  lane ← bytes_at size.0 (at + 7) size.1
  Ok (record { rank = held.0; kind = kind_of known.0; at = at + 7; bytes = lane.0 }, lane.1)

-- n lanes, one after another, and then nothing
unfoldable pub lanes_at : ℕ → ℕ → ℕ → List ℕ → Read (List LaneBytes)
lanes_at zero ranks at bytes = cond (length bytes == 0) (Ok []) (refused at why.Trailing)
lanes_at (suc n) ranks at bytes = do
  lane ← lane_at ranks at bytes
  others ← lanes_at n ranks (at + (7 + length lane.0.bytes)) lane.1
  Ok (lane.0 ∷ others)

-- the samples byte, which version 2 alone has
unfoldable pub samples_byte : Bool → ℕ → List ℕ → Read (ℕ × List ℕ)
samples_byte signed version bytes = cond (version == 1) (Ok (6, bytes)) (do
  kind ← number_at w8 6 bytes
  cond (kind.0 == cond signed 1 0) (Ok (7, kind.1)) (refused 6 why.Samples))

-- the lanes of a tape for so many ranks and a sample kind, before their events are with_events
unfoldable pub lane_bytes_of : ℕ → Bool → List ℕ → Read (List LaneBytes)
lane_bytes_of ranks signed bytes = do
  magic ← bytes_at 4 0 bytes
  marked ← cond (same_bytes magic.0 (codes "MTAP")) (Ok magic) (refused 0 why.Magic)
  version ← number_at w16 4 marked.1
  known ← cond ((version.0 == 2) || ((version.0 == 1) && not signed)) (Ok version) (refused 4 why.Version)
  head ← samples_byte signed known.0 known.1
  count ← number_at w32 head.0 head.1
  some ← cond (nat_lt 65535 count.0) (refused head.0 why.TooManyLanes) (Ok count)
  lanes_at some.0 ranks (head.0 + 4) some.1

-- the most events of a tape
abbrev pub most_events : ℕ
most_events = 16777216

-- the lanes with their events, of which there are at most so many; before counts those of earlier lanes
unfoldable pub with_events : ℕ → List LaneBytes → Read (List Lane)
with_events before [] = Ok []
with_events before (lane ∷ lanes) =
    cond (nat_lt most_events (before + length (lane_frames lane.bytes))) (refused lane.at why.TooManyEvents) (do
      others ← with_events (before + length (lane_frames lane.bytes)) lanes
      Ok (lane_of lane.rank lane.kind lane.bytes ∷ others))

-- the tape that the bytes are, or the first fault
unfoldable pub tape_of : ℕ → Bool → List ℕ → Read (List Lane)
tape_of ranks signed bytes = do
  lanes ← lane_bytes_of ranks signed bytes
  with_events 0 lanes

-- A tape's spelling, beside the reader. A lane is spelled from its rank, kind and bytes.
pub record SpelledLane : Type 0 where
  pub rank : ℕ
  pub kind : LaneKind
  pub bytes : List ℕ

abbrev pub kind_code : LaneKind → ℕ
kind_code kinds.Client = 0
kind_code kinds.Control = 1

-- kind, rank, length, bytes
unfoldable pub lane_spelling : SpelledLane → List ℕ
lane_spelling lane = kind_code lane.kind ∷ (u16 lane.rank ++ (u32 (length lane.bytes) ++ lane.bytes))

-- the samples byte, which version 2 alone has
abbrev pub samples_spelling : Bool → ℕ → List ℕ
samples_spelling signed version = cond (version == 1) [] (cond signed 1 0 ∷ [])

-- the spelling of a tape of a sample kind and version with these lanes
unfoldable pub tape_bytes : Bool → ℕ → List SpelledLane → List ℕ
tape_bytes signed version lanes = codes "MTAP" ++ (u16 version ++ (samples_spelling signed version ++ (u32 (length lanes) ++ flat_map lane_spelling lanes)))

-- the versions of a sample kind: 1 and 2 under u16, 2 alone under i16
abbrev pub is_tape_version : Bool → ℕ → Bool
is_tape_version signed version = (version == 2) || ((version == 1) && not signed)

-- a lane of one of so many ranks, whose numbers fit their fields
pub record IsSpelledLane (ranks : ℕ) (lane : SpelledLane) : Type 0 where
  pub rank : lane.rank < ranks
  pub rank_fits : lane.rank < 2 ^ 16
  pub size_fits : length lane.bytes < 2 ^ 32
  pub bytes : AllByRecursion (λ b. b < 256) lane.bytes

-- the number of all lanes' events
abbrev pub event_sum : List SpelledLane → ℕ
event_sum [] = 0
event_sum (lane ∷ lanes) = length (lane_frames lane.bytes) + event_sum lanes

-- a spelled lane with its events and its end
abbrev pub lane_spelled : SpelledLane → Lane
lane_spelled lane = lane_of lane.rank lane.kind lane.bytes

-- The bytes spell a tape of so many ranks and a sample kind that has these lanes.
pub record SpellsTape (ranks : ℕ) (signed : Bool) (bytes : List ℕ) (lanes : List Lane) : Type 0 where
  pub version : ℕ
  pub spelled : List SpelledLane
  pub version_is : is_tape_version signed version ≡ true
  pub is_spelling : bytes ≡ tape_bytes signed version spelled
  pub few_lanes : length spelled ≤ 65535
  pub each : AllByRecursion (IsSpelledLane ranks) spelled
  pub few_events : event_sum spelled ≤ most_events
  pub are_lanes : lanes ≡ map lane_spelled spelled
