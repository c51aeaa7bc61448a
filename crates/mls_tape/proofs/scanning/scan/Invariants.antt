use Rattle.std.proofs.Common.{◌≡◌, ◌+◌, ◌≤◌, length, map}
use Rattle.mls_model.specs.Numbers.{joined}
use Rattle.mls_model.specs.Frames.{spelling}
use Rattle.mls_model.specs.Lanes.{lane_frames, lane_rest}
use Rattle.mls_frame.specs.Views.{AreBytes}
use Rattle.mls_tape.proofs.scanning.scan.Given as goal

abbrev pub invariant-loop-used : goal.invariant-loop-used
invariant-loop-used l = record {
  bytes : AreBytes l.rest;
  events : l.events + length (lane_frames l.rest) ≡ length (lane_frames l.lane);
  place : l.at + length (joined (map spelling (lane_frames l.rest))) ≡ length (joined (map spelling (lane_frames l.lane)));
  left : lane_rest l.rest ≡ lane_rest l.lane;
  few : l.events + length l.rest ≤ length l.lane;
  within : l.at + length l.rest ≡ length l.lane;
}

abbrev pub decreases-loop-used : goal.decreases-loop-used
decreases-loop-used l = length l.rest
