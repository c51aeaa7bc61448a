use Rattle.std.proofs.Common.{◌≡◌, ◌++◌, [], drop}
use Rattle.mls_ckpt.specs.Reading.{texts}
use Rattle.mls_ckpt.specs.Spellings.{share_text}
use Rattle.mls_assembly.specs.Saved.{shares_from}
use Rattle.mls_assembly.proofs.key_pieces.KeyPieces.put_all.Given as goal

abbrev pub invariant-loop-client : goal.invariant-loop-client
invariant-loop-client l =
    l.out ++ texts share_text (shares_from l.client (drop l.client l.self.shares)) [] ≡ l.fn.out ++ texts share_text (shares_from 0 l.self.shares) []
