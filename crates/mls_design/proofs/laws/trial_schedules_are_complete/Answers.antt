use Rattle.mls_design.proofs.TrialOrders.{trial_complete}
use Rattle.mls_design.proofs.laws.trial_schedules_are_complete.Goals as goal

pub returns : goal.returns
returns c = trial_complete
