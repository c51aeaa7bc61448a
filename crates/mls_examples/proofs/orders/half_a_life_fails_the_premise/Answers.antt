use Rattle.std.proofs.Common.{refl}
use Rattle.std.proofs.lemmas.Bool.{both_ways}
use Rattle.mls_examples.specs.Assembly.{two_clients}
use Rattle.mls_examples.specs.Orders.{half_a_life}
use Rattle.mls_orders.specs.OrderFree.{is_order_free}
use Rattle.mls_orders.proofs.PremiseTests.{tested}
use Rattle.mls_examples.proofs.Computing.{of_premise}
use Rattle.mls_examples.proofs.orders.half_a_life_fails_the_premise.Goals as goal

pub returns-clause-tests : goal.returns-clause-tests
unfolding of_premise
returns-clause-tests c = refl

pub returns-clause-test : goal.returns-clause-test
unfolding of_premise
returns-clause-test c = refl

pub returns-clause-complete : goal.returns-clause-complete
unfolding of_premise
returns-clause-complete c = refl

pub returns-clause-life_1_first : goal.returns-clause-life_1_first
unfolding of_premise
returns-clause-life_1_first c = refl

pub returns-clause-life_2_first : goal.returns-clause-life_2_first
unfolding of_premise
returns-clause-life_2_first c = refl

pub returns-clause-premise : goal.returns-clause-premise
unfolding of_premise
returns-clause-premise c = λ free. both_ways (is_order_free two_clients.sizes half_a_life) refl ((tested two_clients.sizes half_a_life).1 free)
