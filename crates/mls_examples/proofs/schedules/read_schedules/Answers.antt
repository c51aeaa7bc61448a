use Rattle.mls_examples.proofs.Computing.{of_schedules}
use Rattle.std.proofs.Common.{refl}
use Rattle.mls_examples.proofs.schedules.read_schedules.Goals as goal

pub returns-clause-empty : goal.returns-clause-empty
unfolding of_schedules
returns-clause-empty c = refl

pub returns-clause-some : goal.returns-clause-some
unfolding of_schedules
returns-clause-some c = refl

pub returns-clause-whole : goal.returns-clause-whole
unfolding of_schedules
returns-clause-whole c = refl
