use Rattle.mls_model.specs.ResultText.{lane_line, lane_lines}
use Rattle.mls_text.proofs.Writing.{texts_more, texts_failed, line_out, line_failed, failed_writes}
use Rattle.mls_result.proofs.ranks.put_lanes.Goals as goal

pub returns-in_err-put : goal.returns-in_err-put
unfolding lane_lines
returns-in_err-put g c =
    failed_writes _ _ _ _ _ c.from_residual.ensures.1
    (texts_failed lane_line c.loop-lane.lane-index c.args.lanes.now _ _ _ _ _ c.loop-lane-test.true c.loop-lane.invariant (line_failed _ _ _ _ c.lane_line.ensures c.in_err-put.ensures))

pub loop-lane-preserved : goal.loop-lane-preserved
loop-lane-preserved g c = texts_more lane_line c.loop-lane.lane-index c.args.lanes.now _ _ _ _ _ c.loop-lane-test.true c.loop-lane.invariant (line_out _ _ _ _ c.lane_line.ensures c.in_ok-put.ensures)
