use Rattle.mls_design.proofs.TrialAccepted.{each_group_once, groups_twice}
use Rattle.mls_design.proofs.laws.trials_accept_all_groups.Goals as goal

pub returns-clause-accepted : goal.returns-clause-accepted
returns-clause-accepted c = λ study number ok rank plane r p. each_group_once study number rank plane ok r p

pub returns-clause-line : goal.returns-clause-line
returns-clause-line c = groups_twice
