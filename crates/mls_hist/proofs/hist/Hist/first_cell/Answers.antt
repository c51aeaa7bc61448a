use Rattle.std.proofs.Common.{arith}
use Rattle.mls_model.specs.Studies.{planes}
use Rattle.mls_field.proofs.Grid.{plane_before}
use Rattle.mls_hist.proofs.hist.Hist.first_cell.Goals as goal

pub returns-clause-fits : goal.returns-clause-fits
returns-clause-fits c =
    let h = c.args.self.now in
    omega (arith, h.kept.long, plane_before c.args.plane (planes h.shape) h.places c.requires)
