use Rattle.std.proofs.Common.{◌≡◌, ◌≤◌, ◌++◌, drop}
use Rattle.mls_tape.specs.Reading.{all_lane_bytes}
use Rattle.mls_tape.specs.Scans.{lanes_made, entries_of}
use Rattle.mls_tape.proofs.Counting.{Goes}
use Rattle.mls_tape.proofs.scanning.entries_of.Given as goal

abbrev pub invariant-loop-part : goal.invariant-loop-part
invariant-loop-part l = record {
  goes : Goes l.before (all_lane_bytes (drop l.part-index l.parts)) (all_lane_bytes l.parts);
  entries : l.entries.items ++ entries_of l.before (lanes_made (all_lane_bytes (drop l.part-index l.parts))) ≡ entries_of 0 (lanes_made (all_lane_bytes l.parts));
  few : l.before ≤ 16777216;
}
