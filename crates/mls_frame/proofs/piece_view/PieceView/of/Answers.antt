use Rattle.std.proofs.Common.{◌≡◌, ℕ, ◌+◌, ◌*◌, ◌-◌, drop, sym, subst, refl, arith}
use Rattle.std.specs.Int.{w16, w32}
use Rattle.std.proofs.lemmas.List.{length-take, length-drop}
use Rattle.mls_model.specs.Frames.{Piece, IsPiece, number}
use Rattle.mls_frame.proofs.Pieces.{piece_made, piece_in_is_piece}
use Rattle.mls_frame.proofs.piece_view.PieceView.of.Goals as goal

pub returns : goal.returns
returns c = piece_made c.args.fields.now _ _ _ _ _ _ _ (24 + 2 * (c.number_16-rows.result * c.number_32-count.result) - 24) c.number_32.ensures c.number_32-2.ensures c.number_32-3.ensures c.number_16.ensures c.number_16-rows.ensures c.number_32-4.ensures c.number_32-count.ensures (omega arith)

pub invariant_of-result : goal.invariant_of-result
invariant_of-result c =
    let fields = c.args.fields.now in
    let rows : ◌≡◌ {A = ℕ} c.number_16-rows.result (number w16 14 fields) = c.number_16-rows.ensures in
    let count : ◌≡◌ {A = ℕ} c.number_32-count.result (number w32 20 fields) = c.number_32-count.ensures in
    let size : 2 * (c.number_16-rows.result * c.number_32-count.result) ≡ 2 * (number w16 14 fields * number w32 20 fields) = rw (rows, count) refl in
    let n = 2 * (c.number_16-rows.result * c.number_32-count.result) in
    let made = piece_made fields c.number_32.result c.number_32-2.result c.number_32-3.result c.number_16.result c.number_16-rows.result c.number_32-4.result c.number_32-count.result (24 + n - 24) c.number_32.ensures c.number_32-2.ensures c.number_32-3.ensures c.number_16.ensures c.number_16-rows.ensures c.number_32-4.ensures c.number_32-count.ensures (omega arith) in record {
      size = omega (arith, length-take (24 + n - 24) (drop 24 fields), length-drop 24 fields, c.requires.samples);
      fits = subst (λ (p : Piece). IsPiece p) (sym made) (piece_in_is_piece fields (λ i. omega (arith, c.type_inv.fields i)) c.requires.body);
    }
