use Rattle.std.proofs.Common.{arith, ◌≡◌, ◌+◌, ◌%◌, ◌<◌, ◌≤◌, List, length, mod-lt, sym, ap, subst}
use Rattle.mls_design.specs.declared.trial.stock.Stock.{Stock}
use Rattle.mls_design.specs.TrialSchedule.{stock_events}
use Rattle.mls_design.proofs.TrialMixing.{mixes_more}
use Rattle.mls_design.proofs.TrialStocks.{spend_less}
use Rattle.mls_design.proofs.trial.mixing.pick_all.Goals as goal

pub loop-words-smaller : goal.loop-words-smaller
loop-words-smaller c =
    let still = c.loop-words.still.items in
    let some : 0 < c.len-in-loop-words.result = omega (arith, c.len.ensures, c.loop-words-test.true, c.len-in-loop-words.ensures) in
    let here : c.next.result % c.len-in-loop-words.result < length still = omega (arith, mod-lt c.next.result some, c.len-in-loop-words.ensures) in
    subst (λ (ss : List Stock). stock_events ss + length ss < stock_events still + length still) (sym c.spend.ensures) (spend_less (c.next.result % c.len-in-loop-words.result) still here)

pub loop-words-preserved : goal.loop-words-preserved
loop-words-preserved c = λ number at all rise h.
    let order = c.loop-words.order.items in
    let still = c.loop-words.still.items in
    let two : 2 ≤ length still = omega (arith, c.len.ensures, c.loop-words-test.true) in
    let long : c.len-in-loop-words.result ≡ length still = omega (arith, c.len-in-loop-words.ensures) in
    let before = c.loop-words.invariant number at all rise h in
    let drew = c.next.ensures number (at + length order) before.drawn in
    mixes_more number at all order still c.loop-words.words c.next.new.words c.next.result (c.next.result % c.len-in-loop-words.result) c.index.result.now.lane c.push.new.self.items c.spend.new.still.items c.index.result.now
    rise before two drew.0 drew.1 (ap (λ n. c.next.result % n) long) (ap (λ (s : Stock). s.lane) c.index.ensures) c.in_ok-push.ensures.items c.spend.ensures
