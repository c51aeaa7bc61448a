use Rattle.std.proofs.Common.{◌≡◌, ◌<◌, ◌≤◌, ◌∙◌, length, arith}
use Rattle.mls_model.specs.Numbers.{element}
use Rattle.mls_model.specs.Lanes.{line_of}
use Rattle.mls_replay.proofs.Folds.{lines_more, lines_all, if_there}
use Rattle.mls_replay.proofs.folding.lines_of.Goals as goal

pub loop-lane-preserved : goal.loop-lane-preserved
loop-lane-preserved c =
    let lanes = c.args.tape.now.lanes in
    let here : c.loop-lane.lane < length lanes = omega (arith, c.loop-lane-test.true, c.lane_count-lane-end.ensures) in
    c.in-Ok.ensures.items ∙ lines_more lanes c.loop-lane.lane c.loop-lane.lines.items c.lane_line.result c.loop-lane.invariant here (if_there (element lanes c.loop-lane.lane) (λ l. c.lane_line.result ≡ line_of c.loop-lane.lane l) c.lane_line.ensures)

pub returns-clause-value : goal.returns-clause-value
returns-clause-value c =
    let lanes = c.args.tape.now.lanes in
    let past : length lanes ≤ c.loop-lane.lane = omega (arith, c.loop-lane-test.false, c.lane_count-lane-end.ensures) in
    lines_all lanes c.loop-lane.lane c.loop-lane.lines.items c.loop-lane.invariant past
