use Rattle.mls_orders.proofs.PremiseTests.{tested}
use Rattle.mls_orders.proofs.premise.premise_is_tested.Goals as goal

pub returns : goal.returns
returns c = tested
