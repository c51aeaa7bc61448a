use Rattle.mls_cov.proofs.RowColumns.{one_pass}
use Rattle.mls_cov.proofs.laws.covariance_in_one_pass.Goals as goal

pub returns : goal.returns
returns c = one_pass
