use Rattle.std.proofs.Common.{◌+◌, ◌*◌, take, slice_index, arith}
use Rattle.std.specs.Int.{w32}
use Rattle.mls_ckpt.specs.Reading.{text}
use Rattle.mls_field.proofs.PutAt.{grown_to}
use Rattle.mls_field.proofs.Texts.{below_put}
use Rattle.mls_field.proofs.put.put_numbers.Goals as goal

pub loop-c-preserved : goal.loop-c-preserved
loop-c-preserved c =
    let d = c.loop-c.c in
    let at = c.args.at in
    let old = take (at + 4 * d) c.loop-c.bytes in
    below_put (text w32) (λ e. slice_index c.args.numbers.now (e * 64 + c.args.place)) d (take at c.args.bytes.now) old (take (at + 4 * (d + 1)) c.put_u32.new.bytes) c.loop-c.invariant
    (grown_to old c.put_u32.new.bytes _ (at + 4 * d + 4) (at + 4 * (d + 1)) (omega arith) c.put_u32.ensures)
