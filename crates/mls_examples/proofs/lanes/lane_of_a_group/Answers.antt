use Rattle.mls_examples.proofs.Computing.{of_bytes, of_events}
use Rattle.std.proofs.Common.{refl}
use Rattle.mls_examples.proofs.lanes.lane_of_a_group.Goals as goal

pub returns-clause-size : goal.returns-clause-size
unfolding of_bytes
returns-clause-size c = refl

pub returns-clause-lane : goal.returns-clause-lane
unfolding of_bytes
returns-clause-lane c = refl

pub returns-clause-outcomes : goal.returns-clause-outcomes
unfolding of_events
returns-clause-outcomes c = refl
