use Rattle.mls_examples.proofs.Computing.{of_bytes, of_events, of_texts}
use Rattle.mls_examples.proofs.Texts.{by_tests}
use Rattle.mls_examples.specs.Small.{small_study}
use Rattle.mls_examples.specs.Statistics.{two_groups_lanes}
use Rattle.mls_model.specs.Schedules.{plain}
use Rattle.std.proofs.Common.{refl}
use Rattle.mls_examples.proofs.statistics.two_groups.Goals as goal

pub returns-clause-tape : goal.returns-clause-tape
unfolding of_bytes
returns-clause-tape c = refl

pub returns-clause-rows : goal.returns-clause-rows
unfolding of_events
returns-clause-rows c = refl

pub returns-clause-text : goal.returns-clause-text
unfolding of_texts
returns-clause-text c = by_tests small_study two_groups_lanes (plain 1 two_groups_lanes)
