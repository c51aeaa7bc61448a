use Rattle.mls_examples.proofs.TrialComputing.{of_trial_tapes}
use Rattle.std.proofs.Common.{refl}
use Rattle.mls_examples.proofs.trial.small_trial_tape.Goals as goal

pub returns-clause-lanes : goal.returns-clause-lanes
unfolding of_trial_tapes
returns-clause-lanes c = refl

pub returns-clause-size : goal.returns-clause-size
unfolding of_trial_tapes
returns-clause-size c = refl

pub returns-clause-signed_size : goal.returns-clause-signed_size
unfolding of_trial_tapes
returns-clause-signed_size c = refl

pub returns-clause-small : goal.returns-clause-small
unfolding of_trial_tapes
returns-clause-small c = refl
