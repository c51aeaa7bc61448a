use Rattle.mls_design.proofs.Columns.{sample_fits}
use Rattle.mls_design.proofs.laws.samples_fit.Goals as goal

pub returns : goal.returns
returns c = sample_fits
