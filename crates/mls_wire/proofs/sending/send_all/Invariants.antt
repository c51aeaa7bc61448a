use Rattle.std.proofs.Common.{◌≡◌, ◌+◌, ◌≤◌, length}
use Rattle.mls_base.specs.Told.{StaysSound}
use Rattle.mls_wire.proofs.Sent.{Sent}
use Rattle.mls_wire.proofs.sending.send_all.Given as goal

abbrev pub invariant-loop-rest : goal.invariant-loop-rest
invariant-loop-rest g l = record {
  written : Sent (g.L.Link.told l.initial.link) (g.L.Link.told l.link) l.bytes l.rest;
  sound : StaysSound (g.L.Link.sound l.initial.link) (g.L.Link.sound l.link);
  sure : g.L.Link.sure l.initial.link + length l.rest ≤ g.L.Link.sure l.link + length l.bytes;
  faultless : g.L.Link.faults l.link ≡ g.L.Link.faults l.initial.link;
}

abbrev pub decreases-loop-rest : goal.decreases-loop-rest
decreases-loop-rest g l = length l.rest
