use Rattle.std.proofs.Common.{◌≡◌, ◌-◌, ◌≤◌, length}
use Rattle.mls_serve.specs.Readings.{HasRead, most_bytes}
use Rattle.mls_serve.proofs.opening.hear_first.Given as goal

abbrev pub invariant-loop-greeting : goal.invariant-loop-greeting
invariant-loop-greeting g l = record {
  read : HasRead l.feeder.rest (g.L.Link.told l.fn.link) (g.L.Link.told l.link);
  start : l.feeder.offset ≡ 0;
  few : length l.feeder.rest ≤ most_bytes;
  faultless : g.L.Link.faults l.link ≡ g.L.Link.faults l.fn.link;
}

abbrev pub decreases-loop-greeting : goal.decreases-loop-greeting
decreases-loop-greeting g l = most_bytes - length l.feeder.rest
