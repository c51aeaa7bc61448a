use Rattle.std.proofs.Common.{arith, ℕ, ◌≡◌, ◌++◌, map, ap, ◌∙◌}
use Rattle.mls_model.specs.Numbers.{below}
use Rattle.mls_model.specs.Studies.{Sizes}
use Rattle.mls_model.specs.Frames.{piece}
use Rattle.mls_model.specs.Designs.{solved_piece}
use Rattle.mls_design.specs.Trial.{frame_bytes}
use Rattle.mls_design.proofs.TrialWriting.{bytes_map}
use Rattle.mls_design.proofs.trial.lanes.put_whole_step.Goals as goal

pub loop-field-preserved : goal.loop-field-preserved
loop-field-preserved c =
    let made = λ (field : ℕ). piece (solved_piece c.args.study.now c.args.group 3 c.args.step field c.args.route.rank c.args.route.client) in
    bytes_map made c.loop-field.field _ _ _ c.loop-field.invariant c.in_ok-put_piece.ensures

pub returns : goal.returns
returns c =
    let made = λ (field : ℕ). piece (solved_piece c.args.study.now c.args.group 3 c.args.step field c.args.route.rank c.args.route.client) in
    let fields = c.fields-field-end.ensures.value ∙ ap (λ (s : Sizes). s.fields) c.shape.ensures in
    let all : c.loop-field.field ≡ c.args.study.now.sizes.fields = omega (arith, c.loop-field-test.false, c.loop-field.auto.field-end, fields) in
    c.loop-field.invariant ∙ ap (λ k. c.args.out.now.items ++ frame_bytes (map made (below k))) all
