use Rattle.std.proofs.Common.{arith}
use Rattle.mls_field.proofs.Grown.{plane_grown}
use Rattle.mls_field.proofs.field.Field.put_plane.Goals as goal

pub returns : goal.returns
returns c = plane_grown c.args.self.now c.args.step c.loop-from.from c.args.out.now c.loop-from.out (omega (arith, c.args.self.now.kept.block_width, c.loop-from.invariant.inside)) c.loop-from.invariant.grown
