use Rattle.mls_examples.proofs.ComputingStates.{of_states}
use Rattle.std.proofs.Common.{refl}
use Rattle.mls_examples.proofs.checkpoints.refused_ends.Goals as goal

pub returns-clause-short : goal.returns-clause-short
unfolding of_states
returns-clause-short c = refl

pub returns-clause-trailing : goal.returns-clause-trailing
unfolding of_states
returns-clause-trailing c = refl
