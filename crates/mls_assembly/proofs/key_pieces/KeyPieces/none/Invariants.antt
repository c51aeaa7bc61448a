use Rattle.std.proofs.Common.{◌≡◌, replicate, None}
use Rattle.mls_assembly.proofs.key_pieces.KeyPieces.none.Given as goal

abbrev pub invariant-loop-client : goal.invariant-loop-client
invariant-loop-client l = l.pieces.items ≡ replicate l._client None
