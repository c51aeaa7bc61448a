use Rattle.mls_design.proofs.Columns.{value_in_range}
use Rattle.mls_design.proofs.laws.values_in_range.Goals as goal

pub returns : goal.returns
returns c = value_in_range
