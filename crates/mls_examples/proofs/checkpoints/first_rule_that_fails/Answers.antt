use Rattle.mls_examples.proofs.ComputingStates.{of_states}
use Rattle.std.proofs.Common.{refl}
use Rattle.mls_examples.proofs.checkpoints.first_rule_that_fails.Goals as goal

pub returns-clause-sum : goal.returns-clause-sum
unfolding of_states
returns-clause-sum c = refl

pub returns-clause-extrema : goal.returns-clause-extrema
unfolding of_states
returns-clause-extrema c = refl
