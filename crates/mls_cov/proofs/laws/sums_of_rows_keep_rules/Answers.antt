use Rattle.mls_cov.proofs.Parts.{rows_rule}
use Rattle.mls_cov.proofs.laws.sums_of_rows_keep_rules.Goals as goal

pub returns : goal.returns
returns c = rows_rule
