use Rattle.std.proofs.Common.{◌≡◌, ◌++◌, [], drop}
use Rattle.std.specs.Int.{w16}
use Rattle.mls_ckpt.specs.Reading.{text, texts}
use Rattle.mls_assembly.proofs.kept_piece.KeptPiece.put.Given as goal

abbrev pub invariant-loop-sample : goal.invariant-loop-sample
invariant-loop-sample l = l.out ++ texts (text w16) (drop l.sample-index l.sample-items) [] ≡ l.fn.out ++ texts (text w16) l.self.samples []
