use Rattle.mls_base.proofs.Spans.{holder_found}
use Rattle.mls_base.proofs.shape.holder.Goals as goal

pub returns-clause-value : goal.returns-clause-value
returns-clause-value c = holder_found c.args.cells c.args.n c.args.cell c.requires.some c.requires.cell_in
