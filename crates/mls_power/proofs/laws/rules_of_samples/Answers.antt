use Rattle.mls_power.proofs.Ruled.{sums_ruled, extrema_ruled, above_ruled}
use Rattle.mls_power.proofs.laws.rules_of_samples.Goals as goal

pub returns : goal.returns
returns c = record { sums = sums_ruled; extrema = extrema_ruled; above = above_ruled }
