use Rattle.std.proofs.Common.{slice_index, ap, arith}
use Rattle.mls_cov.proofs.sums.add_row.Goals as goal

pub returns-clause-adds : goal.returns-clause-adds
returns-clause-adds c = λ rows h. c.add_row_at.ensures.adds c.args.row.now c.requires.row (λ j below. ap (slice_index c.args.row.now) (omega arith)) rows h
