use Rattle.std.proofs.Common.{◌≡◌, ◌+◌, ◌++◌, length}
use Rattle.mls_model.specs.Lanes.{lane_frames}
use Rattle.mls_tape.specs.Scans.{starts_from}
use Rattle.mls_frame.specs.Views.{AreBytes}
use Rattle.mls_tape.proofs.scanning.add_starts.Given as goal

abbrev pub invariant-loop-used : goal.invariant-loop-used
invariant-loop-used l = record {
  bytes : AreBytes l.rest;
  starts : l.starts.items ++ starts_from l.at (lane_frames l.rest) ≡ l.fn.starts.items ++ starts_from l.start (lane_frames l.lane);
  within : l.at + length l.rest ≡ l.start + length l.lane;
}

abbrev pub decreases-loop-used : goal.decreases-loop-used
decreases-loop-used l = length l.rest
