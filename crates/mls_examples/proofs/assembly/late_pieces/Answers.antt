use Rattle.mls_examples.proofs.Computing.{of_events}
use Rattle.std.proofs.Common.{refl}
use Rattle.mls_examples.proofs.assembly.late_pieces.Goals as goal

pub returns-clause-outcomes : goal.returns-clause-outcomes
unfolding of_events
returns-clause-outcomes c = refl

pub returns-clause-rows : goal.returns-clause-rows
unfolding of_events
returns-clause-rows c = refl
