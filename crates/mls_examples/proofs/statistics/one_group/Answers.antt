use Rattle.mls_examples.proofs.Computing.{of_texts}
use Rattle.mls_examples.proofs.Texts.{by_tests}
use Rattle.mls_examples.specs.Small.{small_study}
use Rattle.mls_examples.specs.Statistics.{one_group_lanes}
use Rattle.mls_model.specs.Schedules.{plain}
use Rattle.mls_examples.proofs.statistics.one_group.Goals as goal

pub returns : goal.returns
unfolding of_texts
returns c = record { text = by_tests small_study one_group_lanes (plain 1 one_group_lanes) }
