use Rattle.std.proofs.Common.{◌<◌, ◌+◌, ◌*◌, sym, ◌∙◌, arith}
use Rattle.std.proofs.lemmas.Nat.{mul-add-lt}
use Rattle.mls_frame.proofs.Places.{number_16-is}
use Rattle.mls_frame.proofs.Pieces.{samples_in-at}
use Rattle.mls_frame.proofs.piece_view.PieceViewRows.at.Goals as goal

pub returns : goal.returns
returns c =
    let piece = c.args.self.now in
    let place = c.args.row * piece.count + c.args.cell in
    let in_samples : place < piece.rows * piece.count = omega (arith, mul-add-lt c.args.row piece.count c.args.cell piece.rows c.requires.row_in c.requires.cell_in) in
    c.from_be_bytes.ensures ∙ sym (number_16-is (2 * place) piece.samples.now) ∙ sym (samples_in-at (piece.rows * piece.count) place piece.samples.now in_samples)
