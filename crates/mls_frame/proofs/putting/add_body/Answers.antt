use Rattle.std.proofs.Common.{arith}
use Rattle.mls_frame.specs.Owned.{owned_piece}
use Rattle.mls_frame.proofs.Pieces.{piece_body-length}
use Rattle.mls_frame.proofs.putting.add_body.Goals as goal

pub add_piece-requires : goal.add_piece-requires
add_piece-requires c =
    let room = rw c.in-Piece.is at c.requires in
    omega (arith, room, piece_body-length (owned_piece c.in-Piece.piece))
