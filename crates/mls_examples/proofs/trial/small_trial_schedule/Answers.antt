use Rattle.mls_examples.proofs.TrialComputing.{of_trial_orders}
use Rattle.std.proofs.Common.{refl}
use Rattle.mls_examples.proofs.trial.small_trial_schedule.Goals as goal

pub returns-clause-begins : goal.returns-clause-begins
unfolding of_trial_orders
returns-clause-begins c = refl

pub returns-clause-order : goal.returns-clause-order
unfolding of_trial_orders
returns-clause-order c = refl

pub returns-clause-text : goal.returns-clause-text
unfolding of_trial_orders
returns-clause-text c = refl

pub returns-clause-complete : goal.returns-clause-complete
unfolding of_trial_orders
returns-clause-complete c = refl

pub returns-clause-history : goal.returns-clause-history
unfolding of_trial_orders
returns-clause-history c = refl
