use Rattle.std.proofs.Common.{◌≡◌, ◌++◌, map, sym, ◌∙◌, subst, arith}
use Rattle.std.proofs.lemmas.List.{append-nil}
use Rattle.mls_model.specs.Numbers.{below}
use Rattle.mls_model.specs.Studies.{planes}
use Rattle.mls_power.specs.ExtremaStanding.{ExtremaStandFor}
use Rattle.mls_rank.specs.Cores.{sizes_of, mark_count}
use Rattle.mls_trial.proofs.Counts.{numbers_more}
use Rattle.mls_trial.proofs.counted.add_core.Goals as goal

pub loop-plane-init : goal.loop-plane-init
loop-plane-init c = λ numbers stands. subst (ExtremaStandFor c.args.ends.now) (sym (append-nil numbers)) stands

pub loop-plane-preserved : goal.loop-plane-preserved
loop-plane-preserved c = λ numbers stands.
    let count = mark_count c.args.core.now in
    let plane = c.loop-plane.plane in
    let own = c.rows.ensures.value ∙ c.folded-field.ensures.rows plane in
    subst (ExtremaStandFor c.add.new.self) (numbers_more count numbers plane c.rows.result own) (c.add.ensures.adds (numbers ++ map count (below plane)) (c.loop-plane.invariant numbers stands))

pub returns : goal.returns
returns c = λ numbers stands.
    let core = c.args.core.now in
    let all : c.loop-plane.plane ≡ planes (sizes_of core) = omega (arith, c.loop-plane-test.false, c.loop-plane.auto.plane-end, c.requires) in
    subst (λ n. ExtremaStandFor c.loop-plane.ends (numbers ++ map (mark_count core) (below n))) all (c.loop-plane.invariant numbers stands)
