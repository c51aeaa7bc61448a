use Rattle.mls_examples.proofs.Computing.{of_designs}
use Rattle.std.proofs.Common.{refl}
use Rattle.mls_examples.proofs.designs.design_of_two_groups.Goals as goal

pub returns : goal.returns
unfolding of_designs
returns c = refl
