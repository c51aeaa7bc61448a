use Rattle.std.proofs.Common.{refl}
use Rattle.std.proofs.lemmas.Bool.{both_ways}
use Rattle.mls_examples.specs.Small.{small_study}
use Rattle.mls_examples.specs.Orders.{two_samples}
use Rattle.mls_orders.specs.OrderFree.{is_order_free}
use Rattle.mls_orders.proofs.PremiseTests.{tested}
use Rattle.mls_examples.proofs.Computing.{of_premise}
use Rattle.mls_examples.proofs.orders.two_samples_fail_the_premise.Goals as goal

pub returns-clause-tests : goal.returns-clause-tests
unfolding of_premise
returns-clause-tests c = refl

pub returns-clause-test : goal.returns-clause-test
unfolding of_premise
returns-clause-test c = refl

pub returns-clause-complete : goal.returns-clause-complete
unfolding of_premise
returns-clause-complete c = refl

pub returns-clause-one_first : goal.returns-clause-one_first
unfolding of_premise
returns-clause-one_first c = refl

pub returns-clause-other_first : goal.returns-clause-other_first
unfolding of_premise
returns-clause-other_first c = refl

pub returns-clause-premise : goal.returns-clause-premise
unfolding of_premise
returns-clause-premise c = λ free. both_ways (is_order_free small_study.sizes two_samples) refl ((tested small_study.sizes two_samples).1 free)
