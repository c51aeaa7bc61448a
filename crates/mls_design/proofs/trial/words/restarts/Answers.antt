use Rattle.std.proofs.Common.{arith, rules, ◌≡◌, ◌∙◌, map, subst}
use Rattle.mls_model.specs.Numbers.{below}
use Rattle.mls_design.specs.Trial.{is_restarted}
use Rattle.mls_design.specs.TrialSizes.{HasDrawn}
use Rattle.mls_design.proofs.TrialLanes.{restart_more}
use Rattle.mls_design.proofs.trial.words.restarts.Goals as goal

pub loop-group-preserved : goal.loop-group-preserved
loop-group-preserved c = λ number h.
    let before = c.loop-group.invariant number h in
    let drew = c.next.ensures number c.loop-group._group before.1 in
    (c.in_ok-push.ensures.items ∙ restart_more number c.loop-group._group c.next.result _ c.loop-group.all.items drew.0 (search rules) before.0, drew.1)

pub returns : goal.returns
returns c = λ number h.
    let all : c.loop-group._group ≡ c.args.groups = omega (arith, c.loop-group-test.false, c.loop-group.auto._group-end) in
    subst (λ n. (c.loop-group.all.items ≡ map (is_restarted number) (below n)) × HasDrawn number n c.loop-group.words) all (c.loop-group.invariant number h)
