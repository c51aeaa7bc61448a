use Rattle.std.proofs.Common.{◌≡◌, ◌<◌, ◌∙◌, ap, arith, length}
use Rattle.std.specs.List.{flat_map}
use Rattle.std.proofs.lemmas.Result.{err_from_is_err_and}
use Rattle.mls_model.specs.Numbers.{below}
use Rattle.mls_model.specs.Studies.{Sizes}
use Rattle.mls_wire.specs.Links.{after_write}
use Rattle.mls_wire.specs.Sessions.{step_bytes, pieces_bytes}
use Rattle.mls_group.proofs.Fronts.{front_in, length_in, write_more, length_more, on_err, sure_more}
use Rattle.mls_group.proofs.texts.send_steps.Goals as goal

pub returns-in_err-send_step-clause-front : goal.returns-in_err-send_step-clause-front
unfolding pieces_bytes
returns-in_err-send_step-clause-front g c =
    let study = c.args.study.now in
    let f = step_bytes study c.args.group c.args.life c.args.pair in
    let steps = c.steps-step-end.ensures.value ∙ ap (λ (s : Sizes). s.steps) c.shape.ensures in
    let less : c.loop-step.step < study.sizes.steps = omega (arith, steps, c.loop-step-test.true, c.loop-step.auto.step-end) in
    on_err _ _ (front_in f c.loop-step.step study.sizes.steps _ _ _ less c.loop-step.invariant.written c.in_err-send_step.ensures.front)

pub returns-in_err-send_step-clause-unsure : goal.returns-in_err-send_step-clause-unsure
unfolding pieces_bytes
returns-in_err-send_step-clause-unsure g c =
    let study = c.args.study.now in
    let f = step_bytes study c.args.group c.args.life c.args.pair in
    let steps = c.steps-step-end.ensures.value ∙ ap (λ (s : Sizes). s.steps) c.shape.ensures in
    let less : c.loop-step.step < study.sizes.steps = omega (arith, steps, c.loop-step-test.true, c.loop-step.auto.step-end) in
    let p = err_from_is_err_and c.from_residual.result c.from_residual.ensures.1 in
    rw (p.1, p.2) (sure_more _ _ _ (length (flat_map f (below c.loop-step.step))) (length (f c.loop-step.step)) _ c.loop-step.invariant.sure (length_in f c.loop-step.step study.sizes.steps less) c.in_err-send_step.ensures.unsure)

pub loop-step-preserved : goal.loop-step-preserved
loop-step-preserved g c =
    let f = step_bytes c.args.study.now c.args.group c.args.life c.args.pair in
    record {
      written = write_more f c.loop-step.step _ _ _ c.loop-step.invariant.written c.in_ok-send_step.ensures.written;
      sound = λ s. c.in_ok-send_step.ensures.sound (c.loop-step.invariant.sound s);
      sure = omega (arith, c.loop-step.invariant.sure, c.in_ok-send_step.ensures.sure, length_more f c.loop-step.step);
      faultless = c.in_ok-send_step.ensures.faults ∙ c.loop-step.invariant.faultless;
    }

pub returns-clause-written : goal.returns-clause-written
unfolding pieces_bytes
returns-clause-written g c =
    let study = c.args.study.now in
    let f = step_bytes study c.args.group c.args.life c.args.pair in
    let steps = c.steps-step-end.ensures.value ∙ ap (λ (s : Sizes). s.steps) c.shape.ensures in
    let all : c.loop-step.step ≡ study.sizes.steps = omega (arith, steps, c.loop-step-test.false, c.loop-step.auto.step-end) in
    c.loop-step.invariant.written ∙ ap (λ n. after_write (flat_map f (below n)) (g.L.Link.told c.args.link.now)) all

pub returns-clause-sure : goal.returns-clause-sure
unfolding pieces_bytes
returns-clause-sure g c =
    let study = c.args.study.now in
    let f = step_bytes study c.args.group c.args.life c.args.pair in
    let steps = c.steps-step-end.ensures.value ∙ ap (λ (s : Sizes). s.steps) c.shape.ensures in
    let all : c.loop-step.step ≡ study.sizes.steps = omega (arith, steps, c.loop-step-test.false, c.loop-step.auto.step-end) in
    omega (arith, c.loop-step.invariant.sure, ap (λ n. length (flat_map f (below n))) all)
