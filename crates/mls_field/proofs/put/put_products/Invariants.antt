use Rattle.std.proofs.Common.{◌+◌, ◌*◌, take}
use Rattle.std.specs.Int.{w64}
use Rattle.mls_ckpt.specs.Reading.{text, texts}
use Rattle.mls_field.specs.Copied.{copied}
use Rattle.mls_field.specs.PutBytes.{Grown}
use Rattle.mls_field.proofs.put.put_products.Given as goal

abbrev pub invariant-loop-c : goal.invariant-loop-c
invariant-loop-c l = Grown (take l.at l.fn.bytes) (take (l.at + 8 * l.c) l.bytes) (texts (text w64) (copied l.c l.sums l.place))
