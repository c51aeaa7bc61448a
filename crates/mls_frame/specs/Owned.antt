-- The frame that an owned one is.
use Rattle.mls_model.specs.Frames.{Frame, Piece, piece, beat, bye, save, crash, hello, welcome, refuse}
use Rattle.mls_frame.specs.declared.frames.Frame.{Frame as Owned}
use Rattle.mls_frame.specs.declared.frames.Frame.TheVariants as owned
use Rattle.mls_frame.specs.declared.frames.Piece.{Piece as OwnedPiece}

abbrev pub owned_piece : OwnedPiece → Piece
owned_piece p = record { life = p.life; group = p.group; plane = p.step; client = p.client; rows = p.rows; first = p.first; count = p.count; samples = p.samples }

abbrev pub owned_frame : Owned → Frame
owned_frame (owned.Piece p) = piece (owned_piece p)
owned_frame (owned.Beat group life) = beat group life
owned_frame (owned.Bye group life) = bye group life
owned_frame owned.Save = save
owned_frame owned.Crash = crash
owned_frame (owned.Hello version group life client rank) = hello version group life client rank
owned_frame (owned.Welcome lane) = welcome lane
owned_frame (owned.Refuse reason value) = refuse reason value
