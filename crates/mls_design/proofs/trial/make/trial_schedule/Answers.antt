use Rattle.std.proofs.Common.{arith, ◌≡◌, List, ℕ, map, sym, ap, subst, ◌∙◌}
use Rattle.std.specs.Global.{Vec}
use Rattle.mls_model.specs.Numbers.{below}
use Rattle.mls_model.specs.Studies.{Sizes}
use Rattle.mls_tape.specs.Passed.{lists_seen}
use Rattle.mls_design.specs.TrialSchedule.{mixing_from, trial_order}
use Rattle.mls_design.specs.TrialSizes.{HasDrawn}
use Rattle.mls_design.proofs.TrialStocks.{from_none, is_trial_order, lists_more, are_orders}
use Rattle.mls_design.proofs.trial.make.trial_schedule.Goals as goal

pub loop-rank-init : goal.loop-rank-init
loop-rank-init c = λ number are is h.
    (ap (λ (vs : List (Vec ℕ)). lists_seen vs) c.in_ok-lists.ensures.items, subst (λ n. HasDrawn number n c.args.words.now) (sym (from_none c.args.study.now number)) h)

pub loop-rank-preserved : goal.loop-rank-preserved
loop-rank-preserved c = λ number are is h.
    let study = c.args.study.now in
    let rank = c.loop-rank.rank in
    let before = c.loop-rank.invariant number are is h in
    let made = c.in_ok-rank_order.ensures number (mixing_from study number rank) before.1 in
    let both = is_trial_order study number rank c.args.earlier c.args.tape.now.lanes _ c.rank_order.new.words are is made in
    (lists_more (trial_order study number) rank c.loop-rank.lists.items c.push.new.self.items _ before.0 c.in_ok-push.ensures.items both.0, both.1)

pub returns : goal.returns
returns c = λ number are is h.
    let study = c.args.study.now in
    let ranks = c.ranks-ranks.ensures.value ∙ ap (λ (s : Sizes). s.ranks) c.shape.ensures in
    let all : c.loop-rank.rank ≡ study.sizes.ranks = omega (arith, c.loop-rank-test.false, c.loop-rank.auto.rank-end, ranks) in
    c.of.ensures ∙ (c.loop-rank.invariant number are is h).0 ∙ ap (λ n. map (trial_order study number) (below n)) all ∙ are_orders study number
