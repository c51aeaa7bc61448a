use Rattle.mls_design.proofs.Columns.{column}
use Rattle.mls_design.proofs.laws.columns.Goals as goal

pub returns : goal.returns
returns c = column
