use Rattle.std.proofs.Common.{drop}
use Rattle.std.specs.List.{flat_map}
use Rattle.mls_model.specs.ResultText.{lane_line}
use Rattle.mls_text.specs.Writing.{sink_seen}
use Rattle.mls_text.proofs.Writing.{IsFrontOut}
use Rattle.mls_result.proofs.ranks.put_lanes.Given as goal

abbrev pub invariant-loop-lane : goal.invariant-loop-lane
invariant-loop-lane g l = IsFrontOut (flat_map lane_line (drop l.lane-index l.lanes)) (flat_map lane_line l.lanes) (sink_seen g.O.Sink.told g.O.Sink.faults g.O.Sink.sure l.fn.out) (sink_seen g.O.Sink.told g.O.Sink.faults g.O.Sink.sure l.out)
