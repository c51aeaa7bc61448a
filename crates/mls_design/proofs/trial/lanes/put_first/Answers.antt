use Rattle.std.proofs.Common.{arith, ◌≡◌, ◌+◌, ◌<◌, ap, subst, ◌∙◌}
use Rattle.std.specs.List.{flat_map}
use Rattle.mls_model.specs.Numbers.{below}
use Rattle.mls_model.specs.Studies.{Sizes}
use Rattle.mls_design.specs.Trial.{group_frames, planned, piece_count}
use Rattle.mls_design.specs.TrialWriting.{Sends}
use Rattle.mls_design.proofs.TrialLanes.{restarted_at}
use Rattle.mls_design.proofs.TrialWriting.{sends_none, sends_lists}
use Rattle.mls_design.proofs.trial.lanes.put_first.Goals as goal

pub loop-group-init : goal.loop-group-init
loop-group-init c = λ number n are h. sends_none number n c.args.out.now.items c.args.words.now h

pub loop-group-preserved : goal.loop-group-preserved
loop-group-preserved c = λ number n are h.
    let study = c.args.study.now in
    let group = c.loop-group.group in
    let groups = c.groups-group-end.ensures.value ∙ ap (λ (s : Sizes). s.groups) c.shape.ensures in
    let here : group < study.sizes.groups = omega (arith, c.loop-group-test.true, groups) in
    let before = c.loop-group.invariant number n are h in
    let again = restarted_at number study.sizes.groups group c.args.restarted.now _ are here in
    sends_lists number n group (group_frames study number c.args.route) _ _ _ _ _ before (c.in_ok-put_group.ensures number (n + piece_count (flat_map (group_frames study number c.args.route) (below group))) again before.words)

pub returns : goal.returns
unfolding planned
returns c = λ number n are h.
    let study = c.args.study.now in
    let groups = c.groups-group-end.ensures.value ∙ ap (λ (s : Sizes). s.groups) c.shape.ensures in
    let all : c.loop-group.group ≡ study.sizes.groups = omega (arith, c.loop-group-test.false, c.loop-group.auto.group-end, groups) in
    subst (λ k. Sends number n (flat_map (group_frames study number c.args.route) (below k)) c.args.out.now.items c.loop-group.out.items c.loop-group.words) all (c.loop-group.invariant number n are h)
