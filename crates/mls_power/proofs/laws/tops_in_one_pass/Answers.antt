use Rattle.mls_power.proofs.Deviations.{variance-pos, third-pos}
use Rattle.mls_power.proofs.laws.tops_in_one_pass.Goals as goal

pub returns : goal.returns
returns c = record { variance = variance-pos; third = third-pos }
