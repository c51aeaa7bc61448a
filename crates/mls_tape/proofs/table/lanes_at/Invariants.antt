use Rattle.std.proofs.Common.{◌≡◌, ◌+◌, ◌-◌, length}
use Rattle.mls_model.specs.Lanes.{lanes_at}
use Rattle.mls_tape.specs.Reading.{all_lane_bytes}
use Rattle.mls_tape.proofs.Loop.{with_front}
use Rattle.mls_tape.proofs.table.lanes_at.Given as goal

abbrev pub invariant-loop : goal.invariant-loop
invariant-loop l = record {
  read : with_front (all_lane_bytes l.parts.items) (lanes_at (l.count - l.counter) l.ranks l.at l.rest) ≡ lanes_at l.count l.ranks l.start l.bytes;
  place : l.at + length l.rest ≡ l.start + length l.bytes;
}
