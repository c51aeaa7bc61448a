use Rattle.mls_power.proofs.Bounds.{variance_from_zero}
use Rattle.mls_power.proofs.laws.variance_top_is_from_zero.Goals as goal

pub returns : goal.returns
returns c = variance_from_zero
