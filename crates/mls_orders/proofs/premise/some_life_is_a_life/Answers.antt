use Rattle.mls_orders.proofs.PremiseTests.{some_life, by_life}
use Rattle.mls_orders.proofs.premise.some_life_is_a_life.Goals as goal

pub returns : goal.returns
returns c = record { life = some_life; some = by_life }
