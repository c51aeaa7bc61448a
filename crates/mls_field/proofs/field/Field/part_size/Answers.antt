use Rattle.std.proofs.Common.{sym, arith}
use Rattle.mls_field.proofs.TextSizes.{part_long}
use Rattle.mls_field.proofs.field.Field.part_size.Goals as goal

pub returns : goal.returns
returns c =
    let f = c.args.self.now in
    rw (part_long f, sym f.kept.block_width, c.planes.ensures.value, c.thresholds-thresholds.ensures.value, c.parameters-parameters.ensures.value) (omega arith)
