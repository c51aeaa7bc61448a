use Rattle.mls_examples.proofs.Computing.{of_events}
use Rattle.std.proofs.Common.{refl}
use Rattle.mls_examples.proofs.crashes.saved_piece_is_completed.Goals as goal

pub returns-clause-survivors : goal.returns-clause-survivors
unfolding of_events
returns-clause-survivors c = refl

pub returns-clause-outcomes : goal.returns-clause-outcomes
unfolding of_events
returns-clause-outcomes c = refl

pub returns-clause-saved : goal.returns-clause-saved
unfolding of_events
returns-clause-saved c = refl

pub returns-clause-behind : goal.returns-clause-behind
unfolding of_events
returns-clause-behind c = refl
