-- What a feeder holds, and what a list of its calls makes of it.
use Rattle.std.specs.Prelude.{◌≡◌, ℕ, ◌+◌, List, [], ◌∷◌, ◌++◌, length, drop, map}
use Rattle.std.specs.List.{AllByRecursion}
use Rattle.mls_model.specs.Numbers.{joined}
use Rattle.mls_model.specs.Frames.{Frame, IsFrame, spelling, Sight, whole, more, bad, sight}

-- the number of bytes that were taken off, and the bytes that are left
pub record Fed : Type 0 where
  pub offset : ℕ
  pub rest : List ℕ

-- the number of bytes that a look takes off: those of a whole frame
abbrev pub bytes_taken : Sight → ℕ
bytes_taken (whole frame used) = used
bytes_taken more = 0
bytes_taken (bad fault) = 0

-- after a look at what is left
abbrev pub after_sight : Sight → Fed → Fed
after_sight seen fed = record { offset = fed.offset + bytes_taken seen; rest = drop (bytes_taken seen) fed.rest }

abbrev pub after_next : Fed → Fed
after_next fed = after_sight (sight fed.rest) fed

-- after a piece was fed
abbrev pub after_feed : List ℕ → Fed → Fed
after_feed piece fed = record { offset = fed.offset; rest = fed.rest ++ piece }

-- a call of a feeder
pub data Call : Type 0 where
  feed : (piece : List ℕ) → Call
  next : Call

-- the bytes that calls feed
abbrev pub bytes_fed : List Call → List ℕ
bytes_fed [] = []
bytes_fed (feed piece ∷ calls) = piece ++ bytes_fed calls
bytes_fed (next ∷ calls) = bytes_fed calls

-- the frame that a look gives
abbrev pub frame_taken : Sight → List Frame
frame_taken (whole frame used) = frame ∷ []
frame_taken more = []
frame_taken (bad fault) = []

-- the frames that calls take off
abbrev pub frames_taken : Fed → List Call → List Frame
frames_taken fed [] = []
frames_taken fed (feed piece ∷ calls) = frames_taken (after_feed piece fed) calls
frames_taken fed (next ∷ calls) = frame_taken (sight fed.rest) ++ frames_taken (after_next fed) calls

-- what the feeder holds after calls
abbrev pub after_calls : Fed → List Call → Fed
after_calls fed [] = fed
after_calls fed (feed piece ∷ calls) = after_calls (after_feed piece fed) calls
after_calls fed (next ∷ calls) = after_calls (after_next fed) calls

-- no whole frame is seen
abbrev pub IsNoFrame : Sight → Type 0
IsNoFrame (whole frame used) = ⊥
IsNoFrame more = Unit {0}
IsNoFrame (bad fault) = Unit {0}

-- Nothing of what was there and was fed is lost: the spellings of the frames taken, in order, and what is left.
pub record LosesNothing (before : Fed) (calls : List Call) : Type 0 where
  pub kept : before.rest ++ bytes_fed calls ≡ joined (map spelling (frames_taken before calls)) ++ (after_calls before calls).rest
  pub counted : (after_calls before calls).offset ≡ before.offset + length (joined (map spelling (frames_taken before calls)))
  pub each : AllByRecursion IsFrame (frames_taken before calls)
