use Rattle.mls_examples.proofs.Computing.{of_events, of_texts}
use Rattle.mls_examples.proofs.Texts.{by_tests}
use Rattle.mls_examples.specs.Fields.{two_fields, two_fields_lanes}
use Rattle.mls_model.specs.Schedules.{plain}
use Rattle.std.proofs.Common.{refl}
use Rattle.mls_examples.proofs.fields.two_named_fields.Goals as goal

pub returns-clause-outcomes : goal.returns-clause-outcomes
unfolding of_events
returns-clause-outcomes c = refl

pub returns-clause-text : goal.returns-clause-text
unfolding of_texts
returns-clause-text c = by_tests two_fields two_fields_lanes (plain 1 two_fields_lanes)
