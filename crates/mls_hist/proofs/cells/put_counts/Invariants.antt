use Rattle.std.proofs.Common.{take}
use Rattle.std.specs.Int.{w32}
use Rattle.mls_ckpt.specs.Reading.{text, texts}
use Rattle.mls_field.specs.PutBytes.{Grown}
use Rattle.mls_hist.proofs.cells.put_counts.Given as goal

abbrev pub invariant-loop-bin : goal.invariant-loop-bin
invariant-loop-bin l = Grown l.fn.out l.out (texts (text w32) (take l.bin l.counts))
