use Rattle.mls_examples.proofs.Computing.{of_texts}
use Rattle.mls_examples.proofs.Texts.{by_tests}
use Rattle.mls_examples.specs.Statistics.{extrema_alone, three_groups_lanes}
use Rattle.mls_model.specs.Schedules.{plain}
use Rattle.mls_examples.proofs.statistics.extrema_and_exceed_alone.Goals as goal

pub returns : goal.returns
unfolding of_texts
returns c = record { text = by_tests extrema_alone three_groups_lanes (plain 1 three_groups_lanes) }
