use Rattle.mls_examples.proofs.Computing.{of_bytes, of_events, of_texts}
use Rattle.mls_examples.proofs.Texts.{by_tests}
use Rattle.mls_examples.specs.Samples.{signed_lanes, signed_study}
use Rattle.mls_model.specs.Schedules.{plain}
use Rattle.std.proofs.Common.{refl}
use Rattle.mls_examples.proofs.samples.signed_samples.Goals as goal

pub returns-clause-tape : goal.returns-clause-tape
unfolding of_bytes
returns-clause-tape c = refl

pub returns-clause-rows : goal.returns-clause-rows
unfolding of_events
returns-clause-rows c = refl

pub returns-clause-text : goal.returns-clause-text
unfolding of_texts
returns-clause-text c = by_tests signed_study signed_lanes (plain 1 signed_lanes)
