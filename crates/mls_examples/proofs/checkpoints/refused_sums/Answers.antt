use Rattle.mls_examples.proofs.ComputingStates.{of_states}
use Rattle.std.proofs.Common.{refl}
use Rattle.mls_examples.proofs.checkpoints.refused_sums.Goals as goal

pub returns-clause-powers : goal.returns-clause-powers
unfolding of_states
returns-clause-powers c = refl

pub returns-clause-extrema : goal.returns-clause-extrema
unfolding of_states
returns-clause-extrema c = refl

pub returns-clause-totals : goal.returns-clause-totals
unfolding of_states
returns-clause-totals c = refl

pub returns-clause-columns : goal.returns-clause-columns
unfolding of_states
returns-clause-columns c = refl

pub returns-clause-none : goal.returns-clause-none
unfolding of_states
returns-clause-none c = refl

pub returns-clause-above : goal.returns-clause-above
unfolding of_states
returns-clause-above c = refl
