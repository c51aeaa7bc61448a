use Rattle.std.proofs.Common.{◌<◌, ◌≤◌, ◌∙◌, sym, length, arith}
use Rattle.mls_trial.proofs.Counts.{no_events, events_more, all_events}
use Rattle.mls_trial.proofs.counted.tape_events.Goals as goal

pub loop-lane-init : goal.loop-lane-init
loop-lane-init c = record { are_events = sym no_events; few = omega arith }

pub loop-lane-preserved : goal.loop-lane-preserved
loop-lane-preserved c =
    let lanes = c.args.tape.now.lanes in
    let here : c.loop-lane.lane < length lanes = omega (arith, c.loop-lane-test.true, c.lane_count-lane-end.ensures) in
    let more = events_more lanes c.loop-lane.lane here in
    record { are_events = omega (arith, more, c.loop-lane.invariant.are_events, c.events.ensures); few = omega (arith, c.loop-lane.invariant.few) }

pub returns : goal.returns
returns c =
    let lanes = c.args.tape.now.lanes in
    let past : length lanes ≤ c.loop-lane.lane = omega (arith, c.loop-lane-test.false, c.lane_count-lane-end.ensures) in
    c.loop-lane.invariant.are_events ∙ all_events lanes c.loop-lane.lane past
