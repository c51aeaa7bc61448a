use Rattle.std.proofs.Common.{◌≡◌, ◌<◌, ℕ, Option, None, Some, Result, Ok, Err, OnErr, ap, sym, ◌∙◌}
use Rattle.mls_model.specs.declared.lanes.LaneKind.{LaneKind}
use Rattle.mls_model.specs.declared.lanes.LaneKind.TheVariants.{Client}
use Rattle.mls_model.specs.declared.outcomes.Reason.{Reason}
use Rattle.mls_model.specs.Studies.{Sizes}
use Rattle.mls_model.specs.Blocks.{block, width}
use Rattle.mls_model.specs.Frames.{Frame, Piece, piece}
use Rattle.mls_model.specs.Fitting.{piece_reason, frame_piece}
use Rattle.mls_frame.specs.Views.{frame_of, piece_of}
use Rattle.mls_rank.specs.Standing.{IsPart}
use Rattle.mls_rank.proofs.rank_core.RankCore.take.Goals as goal

on_err : {A E : Type 0} {P Q : Type 0} (r : Result A E) → (P → Q) → OnErr r P → OnErr r Q
on_err (Ok x) f h = h
on_err (Err e) f h = f h

-- a piece on a client lane that fits and has fewer cells than the block
is_part : (s : Sizes) (rank : ℕ) (kind : LaneKind) (frame : Frame) (p : Piece) → kind ≡ Client → frame ≡ piece p → piece_reason s rank p ≡ None → p.count < width (block s rank) → IsPart s rank kind frame
is_part s rank kind frame p kind_is frame_is fits small =
    let there : frame_piece s rank kind frame ≡ Some p =
    ap (λ k. frame_piece s rank k frame) kind_is
    ∙ (ap (frame_piece s rank Client) frame_is
    ∙ ap (λ (o : Option Reason). elim o [ None ↦ Some p | Some r ↦ None ]) fits) in
    (p, there, small)

pub returns-in-None-clause-memory : goal.returns-in-None-clause-memory
returns-in-None-clause-memory g c =
    let core = c.args.self.now in
    on_err c.take_piece.result
    (is_part core.shape core.rank c.args.kind (frame_of c.args.view.now) (piece_of c.in-Client-Piece.piece) c.in-Client-Piece.is-0 (ap frame_of c.in-Client-Piece.is-1) (sym c.reason_of.ensures ∙ c.in-None.is))
    c.take_piece.ensures.memory
