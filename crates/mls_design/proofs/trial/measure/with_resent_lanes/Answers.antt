use Rattle.std.proofs.Common.{◌+◌, ap, sym, ◌∙◌}
use Rattle.mls_design.specs.declared.trial.route.Route.{Route}
use Rattle.mls_design.specs.TrialSizes.{grown, is_over}
use Rattle.mls_design.proofs.TrialTapes.{grew, was_over, route_at}
use Rattle.mls_design.proofs.TrialLanes.{route_step, resent_over, resent_done}
use Rattle.mls_design.proofs.trial.measure.with_resent_lanes.Goals as goal

abbrev none : Route
none = record { rank = 0; client = 0 }

pub resent_lane_size-lane-requires-clause-rank_in : goal.resent_lane_size-lane-requires-clause-rank_in
resent_lane_size-lane-requires-clause-rank_in c = (route_at c.args.study.now.sizes c.args.all.now c.loop-k.k none c.requires.are_routes c.loop-k-test.true).0

pub resent_lane_size-lane-requires-clause-client_in : goal.resent_lane_size-lane-requires-clause-client_in
resent_lane_size-lane-requires-clause-client_in c = (route_at c.args.study.now.sizes c.args.all.now c.loop-k.k none c.requires.are_routes c.loop-k-test.true).1

pub loop-k-preserved : goal.loop-k-preserved
loop-k-preserved c =
    let lane = c.resent_lane_size-lane.result in
    let step = grew (grown c.loop-k.size lane) c.in_ok-size.size c.with_lane.result c.with_lane.ensures c.in_ok-size.was in
    record {
      fits = ap is_over step.0 ∙ step.1;
      front = λ before start. step.0 ∙ route_step c.args.study.now before c.loop-k.k c.args.all.now none c.loop-k.size lane c.loop-k-test.true (c.loop-k.invariant.front before start) c.resent_lane_size-lane.ensures.value;
    }

pub returns-in_err-size-clause-none : goal.returns-in_err-size-clause-none
returns-in_err-size-clause-none c = λ before start.
    let lane = c.resent_lane_size-lane.result in
    let over = was_over (grown c.loop-k.size lane) c.with_lane.result c.with_lane.ensures c.in_err-size.was in
    let step = route_step c.args.study.now before c.loop-k.k c.args.all.now none c.loop-k.size lane c.loop-k-test.true (c.loop-k.invariant.front before start) c.resent_lane_size-lane.ensures.value in
    rw c.from_residual.ensures (resent_over c.args.study.now before (c.loop-k.k + 1) c.args.all.now c.requires.are_routes (sym (ap is_over step) ∙ over))

pub returns-clause-some : goal.returns-clause-some
returns-clause-some c = λ before start.
    resent_done c.args.study.now before c.loop-k.k c.args.all.now c.loop-k.size c.requires.are_routes c.loop-k-test.false (c.loop-k.invariant.front before start)
