use Rattle.std.proofs.Common.{◌≡◌, ◌+◌, ◌≤◌, length}
use Rattle.mls_base.proofs.Told.{Written}
use Rattle.mls_base.proofs.put.put_all.Given as goal

abbrev pub invariant-loop-rest : goal.invariant-loop-rest
invariant-loop-rest g l = record {
  written : Written (g.O.Sink.told l.initial.out) (g.O.Sink.told l.out) l.bytes l.rest;
  sure : g.O.Sink.sure l.initial.out + length l.rest ≤ g.O.Sink.sure l.out + length l.bytes;
  faultless : g.O.Sink.faults l.out ≡ g.O.Sink.faults l.initial.out;
}

abbrev pub decreases-loop-rest : goal.decreases-loop-rest
decreases-loop-rest g l = length l.rest
