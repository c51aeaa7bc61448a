use Rattle.std.proofs.Common.{◌≡◌, ◌-◌}
use Rattle.mls_ckpt.specs.Checkpoints.{share_at}
use Rattle.mls_ckpt.specs.Places.{cursor_of}
use Rattle.mls_ckpt.specs.Reading.{many}
use Rattle.mls_ckpt.specs.States.{client_after}
use Rattle.mls_assembly.proofs.TakingKeys.{IsTaken}
use Rattle.mls_assembly.proofs.key_pieces.KeyPieces.take.Given as goal

abbrev pub invariant-loop-piece : goal.invariant-loop-piece
invariant-loop-piece l =
    IsTaken l.shape l.rank l.taken l.least (l.count - l._piece) (cursor_of l.from) (many (share_at l.shape l.rank) client_after l.count 0 (cursor_of l.fn.from))
    × (l.taken.life ≡ l.life)
