use Rattle.mls_examples.proofs.ComputingStates.{of_states}
use Rattle.std.proofs.Common.{refl}
use Rattle.mls_examples.proofs.checkpoints.a_saved_piece.Goals as goal

pub returns-clause-last : goal.returns-clause-last
unfolding of_states
returns-clause-last c = refl

pub returns-clause-checkpoint : goal.returns-clause-checkpoint
unfolding of_states
returns-clause-checkpoint c = refl

pub returns-clause-second : goal.returns-clause-second
unfolding of_states
returns-clause-second c = refl

pub returns-clause-first : goal.returns-clause-first
unfolding of_states
returns-clause-first c = refl

pub returns-clause-lengths : goal.returns-clause-lengths
unfolding of_states
returns-clause-lengths c = refl

pub returns-clause-read : goal.returns-clause-read
unfolding of_states
returns-clause-read c = refl
