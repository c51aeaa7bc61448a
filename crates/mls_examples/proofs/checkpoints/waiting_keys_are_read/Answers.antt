use Rattle.mls_examples.proofs.ComputingStates.{of_states}
use Rattle.std.proofs.Common.{refl}
use Rattle.mls_examples.proofs.checkpoints.waiting_keys_are_read.Goals as goal

pub returns-clause-two : goal.returns-clause-two
unfolding of_states
returns-clause-two c = refl

pub returns-clause-three : goal.returns-clause-three
unfolding of_states
returns-clause-three c = refl
