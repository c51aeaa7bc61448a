use Rattle.mls_examples.proofs.Computing.{of_events}
use Rattle.std.proofs.Common.{refl}
use Rattle.mls_examples.proofs.crashes.lost_key_waits_again.Goals as goal

pub returns-clause-survivors : goal.returns-clause-survivors
unfolding of_events
returns-clause-survivors c = refl

pub returns-clause-outcomes : goal.returns-clause-outcomes
unfolding of_events
returns-clause-outcomes c = refl

pub returns-clause-pending : goal.returns-clause-pending
unfolding of_events
returns-clause-pending c = refl

pub returns-clause-incomplete : goal.returns-clause-incomplete
unfolding of_events
returns-clause-incomplete c = refl
