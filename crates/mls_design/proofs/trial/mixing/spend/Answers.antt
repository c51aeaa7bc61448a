use Rattle.std.proofs.Common.{arith, ◌-◌, set, ap, ◌∙◌}
use Rattle.std.proofs.lemmas.List.{get_or_read}
use Rattle.mls_design.specs.declared.trial.stock.Stock.{Stock}
use Rattle.mls_design.proofs.TrialMixing.{stock_with}
use Rattle.mls_design.proofs.TrialStocks.{less_at, gone_at}
use Rattle.mls_design.proofs.trial.mixing.spend.Goals as goal

pub returns-then-index-gt1 : goal.returns-then-index-gt1
returns-then-index-gt1 c =
    let still = c.args.still.now.items in
    let place = c.args.place in
    let seen = get_or_read still place c.index.result.now c.requires c.index.ensures c.index_mut.result.now in
    ap (λ (s : Stock). set still place (stock_with s.lane (s.events - 1))) c.index_mut.ensures.value
    ∙ less_at place still c.index_mut.result.now c.requires (omega (arith, c.if-index-gt1.true, ap (λ (s : Stock). s.events) seen))

pub returns-else-index-gt1 : goal.returns-else-index-gt1
returns-else-index-gt1 c =
    let still = c.args.still.now.items in
    let place = c.args.place in
    let seen = get_or_read still place c.index.result.now c.requires c.index.ensures c.index.result.now in
    c.remove.ensures.items ∙ gone_at place still c.index.result.now c.requires (omega (arith, c.if-index-gt1.false, ap (λ (s : Stock). s.events) seen))
