use Rattle.mls_examples.proofs.Computing.{of_events, of_texts}
use Rattle.mls_examples.proofs.Texts.{by_tests}
use Rattle.mls_examples.specs.Crashes.{sent_lost, twice_with}
use Rattle.mls_examples.specs.Small.{small_study}
use Rattle.mls_model.specs.Frames.{crash}
use Rattle.std.proofs.Common.{refl}
use Rattle.std.specs.Prelude.{[], ◌∷◌}
use Rattle.mls_examples.proofs.crashes.crash_without_save.Goals as goal

pub returns-clause-legal : goal.returns-clause-legal
unfolding of_events
returns-clause-legal c = refl

pub returns-clause-incomplete : goal.returns-clause-incomplete
unfolding of_events
returns-clause-incomplete c = refl

pub returns-clause-survivors : goal.returns-clause-survivors
unfolding of_events
returns-clause-survivors c = refl

pub returns-clause-outcomes : goal.returns-clause-outcomes
unfolding of_events
returns-clause-outcomes c = refl

pub returns-clause-text : goal.returns-clause-text
unfolding of_texts
returns-clause-text c = by_tests small_study (twice_with (crash ∷ [])) sent_lost
