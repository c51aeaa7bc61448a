-- The frame that bytes begin with.
use Rattle.std.specs.Prelude.{ℕ, List}
use Rattle.mls_model.specs.Frames.{Frame, save, Sight, whole, more, bad, sight}

-- the frame that is seen, and Save where none is
abbrev pub frame_seen : Sight → Frame
frame_seen (whole frame used) = frame
frame_seen more = save
frame_seen (bad fault) = save

-- the frame that the bytes begin with
abbrev pub frame_in : List ℕ → Frame
frame_in bytes = frame_seen (sight bytes)
