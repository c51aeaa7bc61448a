use Rattle.mls_design.proofs.TrialReading.{trial_is_read}
use Rattle.mls_design.proofs.laws.trial_tapes_are_read.Goals as goal

pub returns : goal.returns
returns c = trial_is_read
