use Rattle.std.proofs.Common.{arith}
use Rattle.mls_ckpt.specs.Reading.{texts}
use Rattle.mls_ckpt.specs.CellParts.{cell_text}
use Rattle.mls_field.specs.Spelled.{cells_of_plane}
use Rattle.mls_field.proofs.Texts.{below_put}
use Rattle.mls_field.proofs.Grown.{field_grown}
use Rattle.mls_field.proofs.field.FieldRowFold.put.Goals as goal

pub loop-step-preserved : goal.loop-step-preserved
loop-step-preserved c = below_put (texts cell_text) (cells_of_plane c.args.self.now) c.loop-step.step c.args.out.now c.loop-step.out c.put_plane.new.out c.loop-step.invariant c.in_ok-put_plane.ensures

pub returns : goal.returns
returns c = field_grown c.args.self.now c.loop-step.step c.args.out.now c.loop-step.out (omega (arith, c.planes-step-end.ensures.value)) c.loop-step.invariant
