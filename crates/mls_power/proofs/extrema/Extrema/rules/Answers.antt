use Rattle.std.proofs.Common.{get_or}
use Rattle.mls_power.proofs.Least.{least_from, most_from, rules_of}
use Rattle.mls_power.proofs.extrema.Extrema.rules.Goals as goal

pub returns : goal.returns
returns c =
    let ends = c.args.self.now.ends in
    λ ws stands. rules_of (get_or ends 0 0) (get_or ends 1 0) ws (least_from (get_or ends 0 0) ws stands.least) (most_from (get_or ends 1 0) ws stands.greatest)
