use Rattle.std.proofs.Common.{true}
use Rattle.futures.specs.Task.{Keeps}
use Rattle.mls_hub.specs.Halls.{Leaves, GaveAt}
use Rattle.mls_hub.proofs.hall.poll_connection.Given as goal

abbrev pub invariant-loop : goal.invariant-loop
invariant-loop g l = record {
  leaves : Leaves g.L.PollLink g.F.RowFold g.K.Keeper g.N.Run true l.i l.initial.books.items l.books.items l.initial.connections.items l.connections.items;
  gave : GaveAt g.L.PollLink l.counter l.i l.initial.connections.items l.connections.items;
  kept : Keeps l.initial.cx l.cx;
}
