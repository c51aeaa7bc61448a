use Rattle.mls_cov.proofs.Parts.{no_rows, no_rules}
use Rattle.mls_cov.proofs.laws.sums_of_no_rows.Goals as goal

pub returns-clause-holds : goal.returns-clause-holds
returns-clause-holds c = no_rows

pub returns-clause-rules : goal.returns-clause-rules
returns-clause-rules c = no_rules
