use Rattle.std.proofs.Common.{refl}
use Rattle.mls_examples.proofs.Computing.{of_texts}
use Rattle.mls_examples.proofs.sums.no_rows.Goals as goal

pub returns-clause-powers : goal.returns-clause-powers
unfolding of_texts
returns-clause-powers c = refl

pub returns-clause-extrema : goal.returns-clause-extrema
unfolding of_texts
returns-clause-extrema c = refl
