use Rattle.mls_examples.proofs.Computing.{of_bytes, of_texts}
use Rattle.mls_examples.proofs.Texts.{by_tests}
use Rattle.mls_examples.specs.Small.{small_study}
use Rattle.mls_model.specs.Schedules.{plain}
use Rattle.std.proofs.Common.{refl}
use Rattle.std.specs.Prelude.{[]}
use Rattle.mls_examples.proofs.statistics.no_lane.Goals as goal

pub returns-clause-tape : goal.returns-clause-tape
unfolding of_bytes
returns-clause-tape c = refl

pub returns-clause-text : goal.returns-clause-text
unfolding of_texts
returns-clause-text c = by_tests small_study [] (plain 1 [])
