-- The frame that a view is of, and the sight that an answer of view is.
use Rattle.std.specs.Prelude.{ℕ, List, ◌<◌, ◌≤◌, slice_index}
use Rattle.mls_model.specs.Frames.{Piece, Frame, piece, beat, bye, save, crash, hello, welcome, refuse, Sight, whole, more, bad}
use Rattle.mls_frame.specs.Lent.{piece_from}
use Rattle.mls_frame.specs.declared.piece_view.PieceView.{PieceView}
use Rattle.mls_frame.specs.declared.frame_view.FrameView.{FrameView}
use Rattle.mls_frame.specs.declared.frame_view.FrameView.TheVariants as views
use Rattle.mls_frame.specs.declared.frame_view.Seen.{Seen}
use Rattle.mls_frame.specs.declared.frame_view.Seen.TheVariants as seen

-- the piece
abbrev pub piece_of : PieceView → Piece
piece_of p = piece_from p.life p.group p.plane p.client p.rows p.first p.count p.samples.now

-- the frame
abbrev pub frame_of : FrameView → Frame
frame_of (views.Piece p) = piece (piece_of p)
frame_of (views.Beat group life) = beat group life
frame_of (views.Bye group life) = bye group life
frame_of views.Save = save
frame_of views.Crash = crash
frame_of (views.Hello version group life client rank) = hello version group life client rank
frame_of (views.Welcome lane) = welcome lane
frame_of (views.Refuse reason value) = refuse reason value

-- what was seen
abbrev pub sight_of : Seen → Sight
sight_of (seen.Whole frame used) = whole (frame_of frame) used
sight_of seen.More = more
sight_of (seen.Bad fault) = bad fault

-- each is a byte
abbrev pub AreBytes : List ℕ → Type 0
AreBytes bytes = (i : ℕ) → slice_index bytes i < 256

-- a whole frame that was seen in so many bytes has at least five of them, and no more than there are
abbrev pub IsWithin : ℕ → Seen → Type 0
IsWithin size (seen.Whole frame used) = (5 ≤ used) × (used ≤ size)
IsWithin size seen.More = Unit {0}
IsWithin size (seen.Bad fault) = Unit {0}
