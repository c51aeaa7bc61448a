use Rattle.mls_examples.proofs.ComputingStates.{of_states}
use Rattle.std.proofs.Common.{refl}
use Rattle.mls_examples.proofs.checkpoints.refused_pending_keys.Goals as goal

pub returns-clause-keys : goal.returns-clause-keys
unfolding of_states
returns-clause-keys c = refl

pub returns-clause-marked : goal.returns-clause-marked
unfolding of_states
returns-clause-marked c = refl

pub returns-clause-rising : goal.returns-clause-rising
unfolding of_states
returns-clause-rising c = refl

pub returns-clause-elsewhere : goal.returns-clause-elsewhere
unfolding of_states
returns-clause-elsewhere c = refl

pub returns-clause-clients : goal.returns-clause-clients
unfolding of_states
returns-clause-clients c = refl

pub returns-clause-sample : goal.returns-clause-sample
unfolding of_states
returns-clause-sample c = refl
