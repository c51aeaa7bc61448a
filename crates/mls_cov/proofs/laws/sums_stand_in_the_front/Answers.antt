use Rattle.mls_cov.proofs.Same.{holds_same, rules_same}
use Rattle.mls_cov.proofs.laws.sums_stand_in_the_front.Goals as goal

pub returns-clause-holds : goal.returns-clause-holds
returns-clause-holds c = holds_same

pub returns-clause-rules : goal.returns-clause-rules
returns-clause-rules c = rules_same
