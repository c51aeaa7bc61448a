use Rattle.mls_power.proofs.Bounds.{third_fits}
use Rattle.mls_power.proofs.laws.third_top_fits.Goals as goal

pub returns : goal.returns
returns c = third_fits
