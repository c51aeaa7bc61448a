use Rattle.std.proofs.Common.{arith, ℕ, ◌≡◌, ◌+◌, map, ap, subst, ◌∙◌}
use Rattle.mls_model.specs.Numbers.{below}
use Rattle.mls_model.specs.Studies.{Sizes}
use Rattle.mls_model.specs.Frames.{piece}
use Rattle.mls_model.specs.Designs.{solved_piece}
use Rattle.mls_design.specs.Trial.{piece_count}
use Rattle.mls_design.specs.TrialWriting.{Sends}
use Rattle.mls_design.proofs.TrialWriting.{sends_none, sends_map}
use Rattle.mls_design.proofs.trial.lanes.put_step.Goals as goal

pub loop-field-init : goal.loop-field-init
loop-field-init c = λ number n h. sends_none number n c.args.out.now.items c.args.words.now h

pub loop-field-preserved : goal.loop-field-preserved
loop-field-preserved c = λ number n h.
    let made = λ (field : ℕ). piece (solved_piece c.args.study.now c.args.group c.args.life c.args.step field c.args.route.rank c.args.route.client) in
    let before = c.loop-field.invariant number n h in
    sends_map number n c.loop-field.field made _ _ _ _ _ before (c.in_ok-put_planned.ensures number (n + piece_count (map made (below c.loop-field.field))) before.words)

pub returns : goal.returns
returns c = λ number n h.
    let made = λ (field : ℕ). piece (solved_piece c.args.study.now c.args.group c.args.life c.args.step field c.args.route.rank c.args.route.client) in
    let fields = c.fields-field-end.ensures.value ∙ ap (λ (s : Sizes). s.fields) c.shape.ensures in
    let all : c.loop-field.field ≡ c.args.study.now.sizes.fields = omega (arith, c.loop-field-test.false, c.loop-field.auto.field-end, fields) in
    subst (λ k. Sends number n (map made (below k)) c.args.out.now.items c.loop-field.out.items c.loop-field.words) all (c.loop-field.invariant number n h)
