use Rattle.mls_examples.proofs.TrialComputing.{of_trial_texts}
use Rattle.std.proofs.Common.{refl}
use Rattle.mls_examples.proofs.trial.small_trial_summary.Goals as goal

pub returns-clause-unsigned : goal.returns-clause-unsigned
unfolding of_trial_texts
returns-clause-unsigned c = refl

pub returns-clause-signed : goal.returns-clause-signed
unfolding of_trial_texts
returns-clause-signed c = refl
