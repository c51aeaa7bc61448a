use Rattle.mls_hub.proofs.Polling.{SavedSo}
use Rattle.mls_hub.proofs.turning.save_all.Given as goal

abbrev pub invariant-loop-rank : goal.invariant-loop-rank
invariant-loop-rank g l = record {
  saved : SavedSo g.L.PollLink g.F.RowFold g.K.Keeper g.N.Run l.rank l.initial.books.items l.books.items l.connections.items;
}
