use Rattle.mls_examples.proofs.Computing.{of_designs}
use Rattle.std.proofs.Common.{refl}
use Rattle.mls_examples.proofs.designs.solved_samples.Goals as goal

pub returns-clause-inputs : goal.returns-clause-inputs
unfolding of_designs
returns-clause-inputs c = refl

pub returns-clause-samples : goal.returns-clause-samples
unfolding of_designs
returns-clause-samples c = refl
