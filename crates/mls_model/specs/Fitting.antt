-- Which events are pieces that a rank takes, and why others are foreign to it.
use Rattle.std.specs.Prelude.{◌≡◌, ℕ, ◌+◌, ◌<◌, Bool, true, not, ◌&&◌, cond, List, Option, Some, None, nat_lt, ◌==◌}
use Rattle.std.specs.List.{filter_map}
use Rattle.mls_model.specs.declared.lanes.LaneKind.{LaneKind}
use Rattle.mls_model.specs.declared.lanes.LaneKind.TheVariants.{Client, Control}
use Rattle.mls_model.specs.declared.outcomes.Reason.{Reason}
use Rattle.mls_model.specs.declared.outcomes.Reason.TheVariants as reason
use Rattle.mls_model.specs.Studies.{Sizes, planes}
use Rattle.mls_model.specs.Blocks.{overlap, overlaps, width}
use Rattle.mls_model.specs.Frames.{Frame, Piece, piece, save, crash}
use Rattle.mls_model.specs.Histories.{LaneEvent}

-- the piece's cells are those of the rank's block that its client sends, and there are some
abbrev pub has_its_cells : Sizes → ℕ → Piece → Bool
has_its_cells s rank p = overlaps s rank p.client && (p.first == (overlap s rank p.client).first) && (p.count == width (overlap s rank p.client))

-- the first reason for which a piece on a client lane is foreign to a rank
abbrev pub piece_reason : Sizes → ℕ → Piece → Option Reason
piece_reason s rank p =
    cond (not (p.rows == s.parameters + 2)) (Some reason.Rows)
    (cond (not (nat_lt p.group s.groups)) (Some reason.Group)
    (cond (not (nat_lt p.plane (planes s))) (Some reason.Step)
    (cond (not (nat_lt p.client s.clients)) (Some reason.Client)
    (cond (not (has_its_cells s rank p)) (Some reason.Cells)
    None))))

-- the first reason for which an event is foreign to a rank
abbrev pub frame_reason : Sizes → ℕ → LaneKind → Frame → Option Reason
frame_reason s rank Client (piece p) = piece_reason s rank p
frame_reason s rank Client save = Some reason.LaneKind
frame_reason s rank Client crash = Some reason.LaneKind
frame_reason s rank Control (piece p) = Some reason.LaneKind
frame_reason s rank _ _ = None

abbrev pub foreign_reason : Sizes → ℕ → LaneEvent → Option Reason
foreign_reason s rank e = frame_reason s rank e.kind e.frame

-- the piece of an event, where it is one on a client lane and none of the reasons holds
abbrev pub frame_piece : Sizes → ℕ → LaneKind → Frame → Option Piece
frame_piece s rank Client (piece p) = elim (piece_reason s rank p) [ None ↦ Some p | Some r ↦ None ]
frame_piece s rank _ _ = None

abbrev pub fitting_piece : Sizes → ℕ → LaneEvent → Option Piece
fitting_piece s rank e = frame_piece s rank e.kind e.frame

-- the fitting pieces among events, in order
unfoldable pub fitting : Sizes → ℕ → List LaneEvent → List Piece
fitting s rank events = filter_map (fitting_piece s rank) events

-- none of the reasons holds of a piece
pub record Fits (s : Sizes) (rank : ℕ) (p : Piece) : Type 0 where
  pub rows : p.rows ≡ s.parameters + 2
  pub group : p.group < s.groups
  pub plane : p.plane < planes s
  pub client : p.client < s.clients
  pub some : overlaps s rank p.client ≡ true
  pub first : p.first ≡ (overlap s rank p.client).first
  pub count : p.count ≡ width (overlap s rank p.client)
