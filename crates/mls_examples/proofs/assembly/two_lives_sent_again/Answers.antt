use Rattle.mls_examples.proofs.Computing.{of_events, of_texts}
use Rattle.mls_examples.proofs.Texts.{by_tests}
use Rattle.mls_examples.specs.Assembly.{sent_again_lanes, two_clients}
use Rattle.mls_model.specs.Schedules.{plain}
use Rattle.std.proofs.Common.{refl}
use Rattle.mls_examples.proofs.assembly.two_lives_sent_again.Goals as goal

pub returns-clause-outcomes : goal.returns-clause-outcomes
unfolding of_events
returns-clause-outcomes c = refl

pub returns-clause-cell_1 : goal.returns-clause-cell_1
unfolding of_events
returns-clause-cell_1 c = refl

pub returns-clause-text : goal.returns-clause-text
unfolding of_texts
returns-clause-text c = by_tests two_clients sent_again_lanes (plain 1 sent_again_lanes)
