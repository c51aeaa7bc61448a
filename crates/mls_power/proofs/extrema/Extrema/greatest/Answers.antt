use Rattle.std.proofs.Common.{get_or}
use Rattle.mls_power.proofs.Least.{most_of_some}
use Rattle.mls_power.proofs.extrema.Extrema.greatest.Goals as goal

pub returns-clause-greatest : goal.returns-clause-greatest
returns-clause-greatest c = λ signed ws stands some. most_of_some (get_or c.args.self.now.ends 1 0) signed ws some stands.greatest
