use Rattle.mls_examples.proofs.Computing.{of_texts}
use Rattle.mls_examples.proofs.Texts.{by_tests}
use Rattle.mls_examples.specs.Statistics.{power_alone, two_groups_lanes}
use Rattle.mls_model.specs.Schedules.{plain}
use Rattle.mls_examples.proofs.statistics.two_groups_power_alone.Goals as goal

pub returns : goal.returns
unfolding of_texts
returns c = record { text = by_tests power_alone two_groups_lanes (plain 1 two_groups_lanes) }
