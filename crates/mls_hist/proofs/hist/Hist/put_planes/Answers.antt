use Rattle.std.proofs.Common.{arith}
use Rattle.mls_ckpt.specs.Reading.{texts}
use Rattle.mls_hist.specs.HistPart.{counts_text}
use Rattle.mls_hist.specs.Spelled.{cells_of_plane}
use Rattle.mls_field.proofs.Texts.{below_put}
use Rattle.mls_hist.proofs.Parts.{planes_grown}
use Rattle.mls_hist.proofs.hist.Hist.put_planes.Goals as goal

pub loop-plane-preserved : goal.loop-plane-preserved
loop-plane-preserved c = below_put (texts counts_text) (cells_of_plane c.args.self.now) c.loop-plane.plane c.args.out.now c.loop-plane.out c.put_plane.new.out c.loop-plane.invariant c.in_ok-put_plane.ensures

pub returns : goal.returns
returns c = planes_grown c.args.self.now c.loop-plane.plane c.args.out.now c.loop-plane.out (omega (arith, c.planes-plane-end.ensures.value)) c.loop-plane.invariant
