use Rattle.std.proofs.Common.{refl}
use Rattle.mls_examples.specs.Assembly.{two_clients, two_clients_lanes}
use Rattle.mls_orders.proofs.PremiseTests.{tested}
use Rattle.mls_examples.proofs.Computing.{of_premise}
use Rattle.mls_examples.proofs.orders.two_clients_meet_the_premise.Goals as goal

pub returns-clause-tests : goal.returns-clause-tests
unfolding of_premise
returns-clause-tests c = refl

pub returns-clause-test : goal.returns-clause-test
unfolding of_premise
returns-clause-test c = refl

pub returns-clause-premise : goal.returns-clause-premise
unfolding of_premise
returns-clause-premise c = (tested two_clients.sizes two_clients_lanes).0 refl

pub returns-clause-complete : goal.returns-clause-complete
unfolding of_premise
returns-clause-complete c = refl
