use Rattle.mls_cov.proofs.Schwarz.{small_columns}
use Rattle.mls_cov.proofs.laws.variance_is_small.Goals as goal

pub returns : goal.returns
returns c = small_columns
