use Rattle.std.proofs.Common.{◌≡◌, ◌∙◌, false, sym, get_or, arith}
use Rattle.std.proofs.lemmas.Grind.{common_steps}
use Rattle.mls_power.proofs.Counted.{above-map}
use Rattle.mls_power.proofs.exceed.Exceed.above.Goals as goal

pub returns-clause-above : goal.returns-clause-above
returns-clause-above c =
    let e : c.unwrap_or.result ≡ get_or c.args.self.now.numbers c.args.i 0 = grind (arith, common_steps) in
    λ signed thresholds ws stands within.
    let t = get_or thresholds c.args.i 0 in
    e ∙ (stands.each c.args.i within ∙ (above-map false t ws ∙ sym (above-map signed t ws)))
