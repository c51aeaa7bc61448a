use Rattle.mls_laws.proofs.Outcomes.{fitting_more, outcomes_more, counts_more}
use Rattle.mls_laws.proofs.survival.one_more_event.Goals as goal

pub returns : goal.returns
returns c = record { pieces = fitting_more; outcomes = outcomes_more; counts = counts_more }
