use Rattle.mls_examples.proofs.ComputingStates.{of_states}
use Rattle.std.proofs.Common.{refl}
use Rattle.mls_examples.proofs.checkpoints.refused_heads.Goals as goal

pub returns-clause-magic : goal.returns-clause-magic
unfolding of_states
returns-clause-magic c = refl

pub returns-clause-version : goal.returns-clause-version
unfolding of_states
returns-clause-version c = refl

pub returns-clause-shape : goal.returns-clause-shape
unfolding of_states
returns-clause-shape c = refl

pub returns-clause-counts : goal.returns-clause-counts
unfolding of_states
returns-clause-counts c = refl
