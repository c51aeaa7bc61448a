use Rattle.std.proofs.Common.{◌≡◌, false}
use Rattle.futures.specs.Task.{IsArmed, Keeps}
use Rattle.mls_hub.proofs.Polling.{PolledSo}
use Rattle.mls_hub.proofs.turning.poll_all.Given as goal

abbrev pub invariant-loop-i : goal.invariant-loop-i
invariant-loop-i g l = record {
  polled : PolledSo g.L.PollLink g.F.RowFold g.K.Keeper g.N.Run l.i l.all l.initial.books.items l.books.items l.initial.connections.items l.connections.items;
  armed : l.all ≡ false → IsArmed l.cx;
  kept : Keeps l.initial.cx l.cx;
}
