use Rattle.std.proofs.Common.{arith, ◌≡◌, ◌++◌, ap, sym, ◌∙◌}
use Rattle.std.proofs.lemmas.List.{append-nil}
use Rattle.mls_model.specs.Studies.{Sizes}
use Rattle.mls_design.specs.Trial.{life_pieces, frame_bytes}
use Rattle.mls_design.proofs.TrialWriting.{life_none, whole_life_more}
use Rattle.mls_design.proofs.trial.lanes.put_whole_group.Goals as goal

pub loop-step-init : goal.loop-step-init
loop-step-init c = sym (ap (λ fs. c.args.out.now.items ++ frame_bytes fs) (life_none c.args.study.now c.args.route c.args.group 3) ∙ append-nil c.args.out.now.items)

pub loop-step-preserved : goal.loop-step-preserved
loop-step-preserved c = whole_life_more c.args.study.now c.args.route c.args.group c.loop-step.step _ _ _ c.loop-step.invariant c.in_ok-put_whole_step.ensures

pub returns : goal.returns
returns c =
    let steps = c.steps-step-end.ensures.value ∙ ap (λ (s : Sizes). s.steps) c.shape.ensures in
    let all : c.loop-step.step ≡ c.args.study.now.sizes.steps = omega (arith, c.loop-step-test.false, c.loop-step.auto.step-end, steps) in
    c.loop-step.invariant ∙ ap (λ k. c.args.out.now.items ++ frame_bytes (life_pieces c.args.study.now c.args.route c.args.group 3 k)) all
