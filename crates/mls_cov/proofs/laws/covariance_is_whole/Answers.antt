use Rattle.mls_cov.proofs.RowColumns.{whole_columns}
use Rattle.mls_cov.proofs.laws.covariance_is_whole.Goals as goal

pub returns : goal.returns
returns c = whole_columns
