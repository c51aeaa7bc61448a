use Rattle.std.proofs.Common.{arith, ◌≡◌, ◌≤◌, ◌+◌, ap, sym, ◌∙◌}
use Rattle.mls_model.specs.Studies.{Sizes}
use Rattle.mls_design.specs.declared.trial.size.Size.{Size}
use Rattle.mls_design.specs.Trial.{control_lane}
use Rattle.mls_design.specs.TrialSizes.{grown, is_over}
use Rattle.mls_design.proofs.TrialTapes.{grew, was_over}
use Rattle.mls_design.proofs.TrialLanes.{map_step, control_size, control_over, control_done}
use Rattle.mls_design.proofs.trial.measure.with_control_lanes.Goals as goal

abbrev lane : Size
lane = record { bytes = 20; events = 4 }

pub loop-rank-preserved : goal.loop-rank-preserved
loop-rank-preserved c =
    let signed = c.args.study.now.sizes.signed in
    let step = grew (grown c.loop-rank.size lane) c.in_ok-size.size c.with_lane.result c.with_lane.ensures c.in_ok-size.was in
    record {
      fits = ap is_over step.0 ∙ step.1;
      front = λ before start. step.0 ∙ map_step signed before control_lane c.loop-rank._rank c.loop-rank.size lane (c.loop-rank.invariant.front before start) (control_size c.loop-rank._rank);
    }

pub returns-in_err-size-clause-none : goal.returns-in_err-size-clause-none
returns-in_err-size-clause-none c = λ before start.
    let signed = c.args.study.now.sizes.signed in
    let n = c.loop-rank._rank in
    let over = was_over (grown c.loop-rank.size lane) c.with_lane.result c.with_lane.ensures c.in_err-size.was in
    let step = map_step signed before control_lane n c.loop-rank.size lane (c.loop-rank.invariant.front before start) (control_size n) in
    let ranks = c.ranks-rank-end.ensures.value ∙ ap (λ (s : Sizes). s.ranks) c.shape.ensures in
    let few : n + 1 ≤ c.args.study.now.sizes.ranks = omega (arith, c.loop-rank-test.true, ranks) in
    rw c.from_residual.ensures (control_over signed before c.args.study.now.sizes (n + 1) few (sym (ap is_over step) ∙ over))

pub returns-clause-some : goal.returns-clause-some
returns-clause-some c = λ before start.
    let ranks = c.ranks-rank-end.ensures.value ∙ ap (λ (s : Sizes). s.ranks) c.shape.ensures in
    let all : c.loop-rank._rank ≡ c.args.study.now.sizes.ranks = omega (arith, c.loop-rank-test.false, c.loop-rank.auto._rank-end, ranks) in
    control_done c.args.study.now.sizes.signed before c.args.study.now.sizes c.loop-rank._rank c.loop-rank.size all (c.loop-rank.invariant.front before start)
