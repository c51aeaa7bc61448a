use Rattle.mls_examples.proofs.Computing.{of_events}
use Rattle.std.proofs.Common.{refl}
use Rattle.mls_examples.proofs.lanes.reasons_in_order.Goals as goal

pub returns : goal.returns
unfolding of_events
returns c = record { outcomes = refl }
