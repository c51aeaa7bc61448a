use Rattle.std.proofs.Common.{arith, ◌≡◌, ◌+◌, ◌∷◌, ap, sym, subst, ◌∙◌}
use Rattle.mls_model.specs.Frames.{beat}
use Rattle.mls_design.specs.Trial.{life_pieces, piece_count}
use Rattle.mls_design.specs.TrialWriting.{Sends}
use Rattle.mls_design.proofs.TrialWriting.{sends_beat, sends_life, life_none, life_is}
use Rattle.mls_design.proofs.trial.lanes.put_life.Goals as goal

pub loop-step-init : goal.loop-step-init
loop-step-init c = λ number n h.
    subst (λ fs. Sends number n (beat c.args.group c.args.life ∷ fs) c.args.out.now.items c.put.new.out.items c.args.words.now) (sym (life_none c.args.study.now c.args.route c.args.group c.args.life))
    (sends_beat number n c.args.group c.args.life c.args.out.now.items c.put.new.out.items c.args.words.now c.in_ok-put.ensures.ok h)

pub loop-step-preserved : goal.loop-step-preserved
loop-step-preserved c = λ number n h.
    let before = c.loop-step.invariant number n h in
    sends_life c.args.study.now c.args.route number n c.args.group c.args.life c.loop-step.step _ _ _ _ _ before (c.in_ok-put_step.ensures number (n + piece_count (beat c.args.group c.args.life ∷ life_pieces c.args.study.now c.args.route c.args.group c.args.life c.loop-step.step)) before.words)

pub returns : goal.returns
returns c = λ number n h.
    let all : c.loop-step.step ≡ c.args.steps = omega (arith, c.loop-step-test.false, c.loop-step.auto.step-end) in
    subst (λ fs. Sends number n fs c.args.out.now.items c.loop-step.out.items c.loop-step.words)
    (ap (λ k. beat c.args.group c.args.life ∷ life_pieces c.args.study.now c.args.route c.args.group c.args.life k) all ∙ life_is c.args.study.now c.args.route c.args.group c.args.life c.args.steps)
    (c.loop-step.invariant number n h)
