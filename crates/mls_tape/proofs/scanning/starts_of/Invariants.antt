use Rattle.std.proofs.Common.{◌≡◌, ◌++◌, drop}
use Rattle.mls_tape.specs.Reading.{all_lane_bytes}
use Rattle.mls_tape.specs.Scans.{all_starts}
use Rattle.mls_tape.proofs.scanning.starts_of.Given as goal

abbrev pub invariant-loop-part : goal.invariant-loop-part
invariant-loop-part l = l.starts.items ++ all_starts (all_lane_bytes (drop l.part-index l.parts)) ≡ all_starts (all_lane_bytes l.parts)
