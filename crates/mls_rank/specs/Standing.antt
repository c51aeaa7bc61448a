-- Which history a core stands for.
use Rattle.std.specs.Prelude.{◌≡◌, ℕ, ◌<◌, Bool, false, List, [], ◌∷◌, ◌++◌, length, Some, None}
use Rattle.std.specs.List.{AllByRecursion}
use Rattle.std.specs.Option.{option_to_list}
use Rattle.mls_model.specs.declared.lanes.LaneKind.{LaneKind}
use Rattle.mls_model.specs.declared.outcomes.Outcome.{Outcome}
use Rattle.mls_model.specs.declared.outcomes.Outcome.TheVariants.{Foreign}
use Rattle.mls_model.specs.Blocks.{block, width}
use Rattle.mls_model.specs.Studies.{Sizes}
use Rattle.mls_model.specs.Frames.{Frame, Piece}
use Rattle.mls_model.specs.Histories.{LaneEvent}
use Rattle.mls_model.specs.Survival.{is_crash, surviving}
use Rattle.mls_model.specs.Fitting.{Fits, fitting, frame_reason, frame_piece}
use Rattle.mls_model.specs.Completion.{is_completed}
use Rattle.mls_model.specs.Outcomes.{native_outcome, piece_outcome, outcome, counts}
use Rattle.mls_model.specs.AcceptedRows.{accepted}
use Rattle.mls_model.specs.Standing.{Table, rank_table}
use Rattle.mls_field.specs.declared.fold.RowFold.{Ghosts}
use Rattle.mls_rank.specs.declared.rank_core.RankCore.{RankCore}
use Rattle.mls_assembly.specs.Pendings.{Pends}
use Rattle.mls_assembly.specs.Held.{life_of, share_at}
use Rattle.mls_rank.specs.Cores.{sizes_of, rank_of, counts_of, has_mark, mark_count, fold_of, pending_of}

-- marks, counts of marks and what a fold stands for are those of these fitting pieces
pub record KeepsRows (s : Sizes) (rank : ℕ) (marks : ℕ → ℕ → Bool) (groups : ℕ → ℕ) (stands : Table → Type 0) (pieces : List Piece) : Type 0 where
  pub marked : (group plane : ℕ) → marks group plane ≡ is_completed s rank (record { group = group; plane = plane }) pieces
  pub accepted : (plane : ℕ) → groups plane ≡ length (accepted s rank plane pieces)
  pub rows : stands (rank_table s rank pieces)

-- the core's are those
abbrev pub Holds : {F : Type 0} {T : Ghosts F} → RankCore F T → List Piece → Type 0
Holds {F} {T} core pieces = KeepsRows (sizes_of core) (rank_of core) (has_mark core) (mark_count core) (T.stands (fold_of core)) pieces

-- the core's pending pieces are those of these fitting pieces
abbrev pub Waits : {F : Type 0} {T : Ghosts F} → RankCore F T → List Piece → Type 0
Waits core pieces = Pends (sizes_of core) (rank_of core) (life_of (pending_of core)) (share_at (pending_of core)) pieces

pub record Keeps {F : Type 0} {T : Ghosts F} (core : RankCore F T) (pieces : List Piece) : Type 0 where
  pub holds : Holds core pieces
  pub waits : Waits core pieces

-- The core is what a history leaves: its counts are those of the surviving events, and its marks, rows and pending pieces those of the fitting pieces among them.
pub record StandsFor {F : Type 0} {T : Ghosts F} (core : RankCore F T) (history : List LaneEvent) : Type 0 where
  pub counts : counts_of core ≡ counts (sizes_of core) (rank_of core) (surviving history)
  pub holds : Holds core (fitting (sizes_of core) (rank_of core) (surviving history))
  pub waits : Waits core (fitting (sizes_of core) (rank_of core) (surviving history))

-- the outcome of an event after these fitting pieces
abbrev pub outcome_after : Sizes → ℕ → List Piece → LaneKind → Frame → Outcome
outcome_after s rank pieces kind frame = elim (frame_reason s rank kind frame) [ Some r ↦ Foreign r | None ↦ native_outcome s rank pieces kind frame ]

abbrev pub as_event : LaneKind → Frame → LaneEvent
as_event kind frame = record { kind = kind; frame = frame }

-- the fitting piece of an event, where it is one
abbrev pub pieces_of : {F : Type 0} {T : Ghosts F} → RankCore F T → LaneKind → Frame → List Piece
pieces_of core kind frame = option_to_list (frame_piece (sizes_of core) (rank_of core) kind frame)

-- after all pieces that the core keeps, the outcome of a fitting piece, and of an event, is right
abbrev pub IsPieceOutcome : {F : Type 0} {T : Ghosts F} → RankCore F T → Piece → Outcome → Type 0
IsPieceOutcome core p o =
    (pieces : List Piece) → AllByRecursion (Fits (sizes_of core) (rank_of core)) pieces → Keeps core pieces
    → o ≡ piece_outcome (sizes_of core) (rank_of core) pieces p

abbrev pub IsEventOutcome : {F : Type 0} {T : Ghosts F} → RankCore F T → LaneKind → Frame → Outcome → Type 0
IsEventOutcome core kind frame o =
    (pieces : List Piece) → AllByRecursion (Fits (sizes_of core) (rank_of core)) pieces → Keeps core pieces
    → o ≡ outcome_after (sizes_of core) (rank_of core) pieces kind frame

-- a core keeps more pieces than the one of before
abbrev pub KeepsMore : {F : Type 0} {T : Ghosts F} → RankCore F T → RankCore F T → List Piece → Type 0
KeepsMore old new more =
    (pieces : List Piece) → AllByRecursion (Fits (sizes_of old) (rank_of old)) pieces → Keeps old pieces → Keeps new (pieces ++ more)

-- the outcome of an event after each history that the core stands for is right
abbrev pub IsOutcome : {F : Type 0} {T : Ghosts F} → RankCore F T → LaneEvent → Outcome → Type 0
IsOutcome core e o = (history : List LaneEvent) → StandsFor core history → o ≡ outcome (sizes_of core) (rank_of core) (surviving history) e

-- a core stands for the histories of the one of before with one more event, which is no crash
abbrev pub StandsOn : {F : Type 0} {T : Ghosts F} → RankCore F T → RankCore F T → LaneEvent → Type 0
StandsOn old new e = (history : List LaneEvent) → StandsFor old history → is_crash e ≡ false → StandsFor new (history ++ e ∷ [])

-- a piece has fewer cells than the rank's block
abbrev pub IsSmall : {F : Type 0} {T : Ghosts F} → RankCore F T → Piece → Type 0
IsSmall core p = p.count < width (block (sizes_of core) (rank_of core))

-- the event is a fitting piece with fewer cells than the rank's block
abbrev pub IsPart : Sizes → ℕ → LaneKind → Frame → Type 0
IsPart s rank kind frame = (p : Piece) × (frame_piece s rank kind frame ≡ Some p) × (p.count < width (block s rank))
