use Rattle.mls_power.proofs.Translates.{variance_whole, third_whole}
use Rattle.mls_power.proofs.laws.tops_are_whole.Goals as goal

pub returns : goal.returns
returns c = record { variance = variance_whole; third = third_whole }
