use Rattle.std.proofs.Common.{◌+◌, take, ap, sym, subst, ◌∙◌}
use Rattle.mls_design.specs.declared.trial.route.Route.{Route}
use Rattle.mls_design.specs.Trial.{words_before}
use Rattle.mls_design.specs.TrialSizes.{HasDrawn, size_of, grown, is_over}
use Rattle.mls_design.proofs.TrialTapes.{first_none, words_none, grew, was_over, route_at}
use Rattle.mls_design.proofs.TrialLanes.{first_step, words_step, first_over, first_done}
use Rattle.mls_design.proofs.trial.measure.with_first_lanes.Goals as goal

abbrev none : Route
none = record { rank = 0; client = 0 }

pub loop-k-init : goal.loop-k-init
loop-k-init c = record {
  fits = c.requires.total;
  front = λ number ok h start. (start ∙ ap (size_of c.args.study.now.sizes.signed) (sym (first_none c.args.study.now number)), subst (λ m. HasDrawn number m c.args.words.now) (sym (words_none c.args.study.now number)) h);
}

pub loop-k-preserved : goal.loop-k-preserved
loop-k-preserved c =
    let study = c.args.study.now in
    let rs = c.args.all.now in
    let k = c.loop-k.k in
    let lane = c.first_lane_size-lane.result in
    let step = grew (grown c.loop-k.size lane) c.in_ok-size.size c.with_lane.result c.with_lane.ensures c.in_ok-size.was in
    record {
      fits = ap is_over step.0 ∙ step.1;
      front = λ number ok h start.
          let before = c.loop-k.invariant.front number ok h start in
          let drew = c.first_lane_size-lane.ensures.value number (words_before study number (take k rs)) ok before.1 in (
            step.0 ∙ first_step study number k rs none c.loop-k.size lane c.loop-k-test.true before.0 drew.0,
            words_step study number k rs none c.first_lane_size-lane.new.words c.loop-k-test.true drew.1,
          );
    }

pub returns-in_err-size-clause-none : goal.returns-in_err-size-clause-none
returns-in_err-size-clause-none c = λ number ok h start.
    let study = c.args.study.now in
    let rs = c.args.all.now in
    let k = c.loop-k.k in
    let lane = c.first_lane_size-lane.result in
    let before = c.loop-k.invariant.front number ok h start in
    let drew = c.first_lane_size-lane.ensures.value number (words_before study number (take k rs)) ok before.1 in
    let over = was_over (grown c.loop-k.size lane) c.with_lane.result c.with_lane.ensures c.in_err-size.was in
    let step = first_step study number k rs none c.loop-k.size lane c.loop-k-test.true before.0 drew.0 in
    rw c.from_residual.ensures (first_over study number (k + 1) rs c.requires.are_routes (sym (ap is_over step) ∙ over))

pub first_lane_size-lane-requires-clause-rank_in : goal.first_lane_size-lane-requires-clause-rank_in
first_lane_size-lane-requires-clause-rank_in c = (route_at c.args.study.now.sizes c.args.all.now c.loop-k.k none c.requires.are_routes c.loop-k-test.true).0

pub first_lane_size-lane-requires-clause-client_in : goal.first_lane_size-lane-requires-clause-client_in
first_lane_size-lane-requires-clause-client_in c = (route_at c.args.study.now.sizes c.args.all.now c.loop-k.k none c.requires.are_routes c.loop-k-test.true).1

pub returns-clause-some : goal.returns-clause-some
returns-clause-some c = λ number ok h start.
    first_done c.args.study.now number c.loop-k.k c.args.all.now c.loop-k.size c.requires.are_routes c.loop-k-test.false (c.loop-k.invariant.front number ok h start).0
