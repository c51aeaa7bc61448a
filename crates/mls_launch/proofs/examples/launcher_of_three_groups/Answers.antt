use Rattle.mls_launch.proofs.Computing.{of_watches}
use Rattle.std.proofs.Common.{refl}
use Rattle.mls_launch.proofs.examples.launcher_of_three_groups.Goals as goal

pub returns : goal.returns
unfolding of_watches
returns c = refl
