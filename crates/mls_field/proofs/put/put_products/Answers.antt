use Rattle.std.proofs.Common.{◌+◌, ◌*◌, take, slice_index, arith}
use Rattle.std.specs.Int.{w64}
use Rattle.mls_ckpt.specs.Reading.{text}
use Rattle.mls_field.proofs.PutAt.{grown_to}
use Rattle.mls_field.proofs.Texts.{below_put}
use Rattle.mls_field.proofs.put.put_products.Goals as goal

pub loop-c-preserved : goal.loop-c-preserved
loop-c-preserved c =
    let d = c.loop-c.c in
    let at = c.args.at in
    let old = take (at + 8 * d) c.loop-c.bytes in
    below_put (text w64) (λ e. slice_index c.args.sums.now (e * 64 + c.args.place)) d (take at c.args.bytes.now) old (take (at + 8 * (d + 1)) c.put_u64.new.bytes) c.loop-c.invariant
    (grown_to old c.put_u64.new.bytes _ (at + 8 * d + 8) (at + 8 * (d + 1)) (omega arith) c.put_u64.ensures)
