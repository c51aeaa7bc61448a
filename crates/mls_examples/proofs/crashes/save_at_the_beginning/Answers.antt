use Rattle.mls_examples.proofs.Computing.{of_events}
use Rattle.std.proofs.Common.{refl}
use Rattle.mls_examples.proofs.crashes.save_at_the_beginning.Goals as goal

pub returns-clause-none : goal.returns-clause-none
unfolding of_events
returns-clause-none c = refl

pub returns-clause-first : goal.returns-clause-first
unfolding of_events
returns-clause-first c = refl

pub returns-clause-before : goal.returns-clause-before
unfolding of_events
returns-clause-before c = refl
