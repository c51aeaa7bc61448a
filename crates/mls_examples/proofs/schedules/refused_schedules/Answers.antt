use Rattle.mls_examples.proofs.Computing.{of_schedules}
use Rattle.std.proofs.Common.{refl}
use Rattle.mls_examples.proofs.schedules.refused_schedules.Goals as goal

pub returns-clause-count : goal.returns-clause-count
unfolding of_schedules
returns-clause-count c = refl

pub returns-clause-zero : goal.returns-clause-zero
unfolding of_schedules
returns-clause-zero c = refl

pub returns-clause-rank : goal.returns-clause-rank
unfolding of_schedules
returns-clause-rank c = refl

pub returns-clause-lane : goal.returns-clause-lane
unfolding of_schedules
returns-clause-lane c = refl

pub returns-clause-other_rank : goal.returns-clause-other_rank
unfolding of_schedules
returns-clause-other_rank c = refl

pub returns-clause-no_newline : goal.returns-clause-no_newline
unfolding of_schedules
returns-clause-no_newline c = refl

pub returns-clause-empty_line : goal.returns-clause-empty_line
unfolding of_schedules
returns-clause-empty_line c = refl

pub returns-clause-blanks : goal.returns-clause-blanks
unfolding of_schedules
returns-clause-blanks c = refl

pub returns-clause-too_large : goal.returns-clause-too_large
unfolding of_schedules
returns-clause-too_large c = refl
