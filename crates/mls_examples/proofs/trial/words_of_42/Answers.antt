use Rattle.mls_examples.proofs.TrialComputing.{of_trial_tapes}
use Rattle.std.proofs.Common.{refl}
use Rattle.mls_examples.proofs.trial.words_of_42.Goals as goal

pub returns-clause-group : goal.returns-clause-group
unfolding of_trial_tapes
returns-clause-group c = refl

pub returns-clause-piece : goal.returns-clause-piece
unfolding of_trial_tapes
returns-clause-piece c = refl

pub returns-clause-mixing : goal.returns-clause-mixing
unfolding of_trial_tapes
returns-clause-mixing c = refl

pub returns-clause-restarted : goal.returns-clause-restarted
unfolding of_trial_tapes
returns-clause-restarted c = refl
