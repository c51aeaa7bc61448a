use Rattle.mls_examples.proofs.Computing.{of_texts}
use Rattle.mls_examples.proofs.Texts.{by_tests}
use Rattle.mls_examples.specs.Statistics.{all_shown, two_groups_lanes}
use Rattle.mls_model.specs.Schedules.{plain}
use Rattle.mls_examples.proofs.statistics.two_groups_with_all_statistics.Goals as goal

pub returns : goal.returns
unfolding of_texts
returns c = record { text = by_tests all_shown two_groups_lanes (plain 1 two_groups_lanes) }
