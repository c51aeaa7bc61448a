use Rattle.mls_examples.proofs.Computing.{of_events, of_texts}
use Rattle.std.proofs.Common.{refl}
use Rattle.mls_examples.proofs.assembly.twelve_lanes_to_three_ranks.Goals as goal

pub returns-clause-complete : goal.returns-clause-complete
unfolding of_events
returns-clause-complete c = refl

pub returns-clause-rank_lines : goal.returns-clause-rank_lines
unfolding of_texts
returns-clause-rank_lines c = refl

pub returns-clause-step_0 : goal.returns-clause-step_0
unfolding of_events
returns-clause-step_0 c = refl

pub returns-clause-step_1 : goal.returns-clause-step_1
unfolding of_events
returns-clause-step_1 c = refl
