use Rattle.mls_power.proofs.Translates.{variance_shifted, third_shifted}
use Rattle.mls_power.proofs.laws.tops_of_shifted_values.Goals as goal

pub returns : goal.returns
returns c = record { variance = variance_shifted; third = third_shifted }
