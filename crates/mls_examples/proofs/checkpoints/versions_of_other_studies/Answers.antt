use Rattle.mls_examples.proofs.ComputingStates.{of_states}
use Rattle.std.proofs.Common.{refl}
use Rattle.mls_examples.proofs.checkpoints.versions_of_other_studies.Goals as goal

pub returns-clause-fields : goal.returns-clause-fields
unfolding of_states
returns-clause-fields c = refl

pub returns-clause-signed : goal.returns-clause-signed
unfolding of_states
returns-clause-signed c = refl
