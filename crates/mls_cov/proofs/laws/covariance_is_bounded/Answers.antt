use Rattle.mls_cov.proofs.Schwarz.{schwarz_columns}
use Rattle.mls_cov.proofs.laws.covariance_is_bounded.Goals as goal

pub returns : goal.returns
returns c = schwarz_columns
