use Rattle.std.proofs.Common.{◌+◌, ◌*◌, arith}
use Rattle.mls_model.specs.Studies.{planes}
use Rattle.mls_field.proofs.Grid.{plane_before}
use Rattle.mls_field.proofs.field.Field.first_sample.Goals as goal

pub returns-clause-fits : goal.returns-clause-fits
returns-clause-fits c =
    let f = c.args.self.now in
    rw c.parameters.ensures.value (omega (arith, f.kept.room, plane_before c.args.step (planes f.shape) (8 * ((f.shape.parameters + 2) * f.places)) c.requires))
