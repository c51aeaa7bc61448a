use Rattle.std.proofs.Common.{get_or}
use Rattle.mls_power.proofs.Least.{least_of_some}
use Rattle.mls_power.proofs.extrema.Extrema.least.Goals as goal

pub returns-clause-least : goal.returns-clause-least
returns-clause-least c = λ signed ws stands some. least_of_some (get_or c.args.self.now.ends 0 0) signed ws some stands.least
