use Rattle.mls_examples.proofs.Computing.{of_events, of_texts}
use Rattle.mls_examples.proofs.Texts.{by_tests}
use Rattle.mls_examples.specs.Crashes.{sent_lost_sent, twice_with}
use Rattle.mls_examples.specs.Small.{small_study}
use Rattle.mls_model.specs.Frames.{crash}
use Rattle.std.proofs.Common.{refl}
use Rattle.std.specs.Prelude.{[], ◌∷◌}
use Rattle.mls_examples.proofs.crashes.crash_without_save_then_sent.Goals as goal

pub returns-clause-complete : goal.returns-clause-complete
unfolding of_events
returns-clause-complete c = refl

pub returns-clause-survivors : goal.returns-clause-survivors
unfolding of_events
returns-clause-survivors c = refl

pub returns-clause-outcomes : goal.returns-clause-outcomes
unfolding of_events
returns-clause-outcomes c = refl

pub returns-clause-text : goal.returns-clause-text
unfolding of_texts
returns-clause-text c = by_tests small_study (twice_with (crash ∷ [])) sent_lost_sent
