use Rattle.std.proofs.Common.{arith, ◌≡◌, ◌++◌, length, replicate, sym, ap, subst, ◌∙◌}
use Rattle.std.proofs.lemmas.Bool.Decides.{nat_tests}
use Rattle.mls_design.specs.declared.trial.stock.Stock.{Stock}
use Rattle.mls_design.specs.TrialMixing.{IsMixing, IsMixed}
use Rattle.mls_design.proofs.TrialWriting.{on_ok}
use Rattle.mls_design.proofs.TrialMixing.{starts_mixing, mixed_out, mixed_alone}
use Rattle.mls_design.proofs.trial.mixing.mix.Goals as goal

pub returns-then-is_empty : goal.returns-then-is_empty
returns-then-is_empty c = λ number at all rise none is h.
    let start = subst (λ o. IsMixing number at all o c.args.still.items c.args.words.now) (sym none) (starts_mixing number at all c.args.still.items c.args.words.now is h) in
    let mixing = c.in_ok-pick_all.ensures.picked number at all rise start in
    let empty : length c.pick_all.new.still.items ≡ 0 = grind (arith, nat_tests, c.is_empty.ensures, c.if-is_empty.ensures) in
    mixed_out number at all c.pick_all.new.order.items c.pick_all.new.still.items c.pick_all.new.words rise mixing empty

pub returns : goal.returns
returns c = λ number at all rise none is h.
    let start = subst (λ o. IsMixing number at all o c.args.still.items c.args.words.now) (sym none) (starts_mixing number at all c.args.still.items c.args.words.now is h) in
    let mixing = c.in_ok-pick_all.ensures.picked number at all rise start in
    let order = c.pick_all.new.order.items in
    let one : length c.pick_all.new.still.items ≡ 1 = grind (arith, nat_tests, c.is_empty.ensures, c.if-is_empty.ensures, c.in_ok-pick_all.ensures.few) in
    on_ok c.add_whole.result _ (IsMixed number at all c.add_whole.new.order.items c.pick_all.new.words)
    (λ added. mixed_alone number at all order c.pick_all.new.still.items c.pick_all.new.words c.index.result.now c.add_whole.new.order.items rise mixing one (added ∙ ap (λ (s : Stock). order ++ replicate s.events s.lane) c.index.ensures))
    c.add_whole.ensures
