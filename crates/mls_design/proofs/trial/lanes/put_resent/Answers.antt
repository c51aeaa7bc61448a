use Rattle.std.proofs.Common.{arith, ◌≡◌, ◌++◌, ap, ◌∙◌}
use Rattle.std.specs.List.{flat_map}
use Rattle.mls_model.specs.Numbers.{below}
use Rattle.mls_model.specs.Studies.{Sizes}
use Rattle.mls_design.specs.Trial.{life_pieces, resent_frames, frame_bytes}
use Rattle.mls_design.proofs.TrialWriting.{bytes_more}
use Rattle.mls_design.proofs.trial.lanes.put_resent.Goals as goal

pub loop-group-preserved : goal.loop-group-preserved
loop-group-preserved c = bytes_more (λ group. life_pieces c.args.study.now c.args.route group 3 c.args.study.now.sizes.steps) c.loop-group.group _ _ _ c.loop-group.invariant c.in_ok-put_whole_group.ensures

pub returns : goal.returns
unfolding resent_frames
returns c =
    let groups = c.groups-group-end.ensures.value ∙ ap (λ (s : Sizes). s.groups) c.shape.ensures in
    let all : c.loop-group.group ≡ c.args.study.now.sizes.groups = omega (arith, c.loop-group-test.false, c.loop-group.auto.group-end, groups) in
    c.loop-group.invariant ∙ ap (λ k. c.args.out.now.items ++ frame_bytes (flat_map (λ group. life_pieces c.args.study.now c.args.route group 3 c.args.study.now.sizes.steps) (below k))) all
