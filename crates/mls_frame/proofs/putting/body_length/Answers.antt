use Rattle.std.proofs.Common.{◌*◌, ap, arith}
use Rattle.mls_frame.specs.Owned.{owned_piece}
use Rattle.mls_frame.proofs.Pieces.{piece_body-length}
use Rattle.mls_frame.proofs.putting.body_length.Goals as goal

pub returns-in-Piece-clause-exact : goal.returns-in-Piece-clause-exact
returns-in-Piece-clause-exact c = rw c.in-Piece.is (omega (arith, piece_body-length (owned_piece c.in-Piece.piece), ap (λ n. 2 * n) c.in-Piece.piece.size))
