use Rattle.std.proofs.Common.{refl}
use Rattle.mls_examples.proofs.Computing.{of_texts}
use Rattle.mls_examples.proofs.sums.signed_rows.Goals as goal

pub returns-clause-powers : goal.returns-clause-powers
unfolding of_texts
returns-clause-powers c = refl

pub returns-clause-extrema : goal.returns-clause-extrema
unfolding of_texts
returns-clause-extrema c = refl

pub returns-clause-cov_a : goal.returns-clause-cov_a
unfolding of_texts
returns-clause-cov_a c = refl

pub returns-clause-var_a : goal.returns-clause-var_a
unfolding of_texts
returns-clause-var_a c = refl
