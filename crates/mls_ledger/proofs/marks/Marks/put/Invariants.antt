use Rattle.std.proofs.Common.{◌≡◌, ◌++◌, [], drop}
use Rattle.std.specs.Int.{w8}
use Rattle.mls_ckpt.specs.Reading.{text, texts}
use Rattle.mls_ledger.proofs.marks.Marks.put.Given as goal

abbrev pub invariant-loop-byte : goal.invariant-loop-byte
invariant-loop-byte l = l.out ++ texts (text w8) (drop l.byte-index l.byte-items) [] ≡ l.fn.out ++ texts (text w8) l.self.bytes []
