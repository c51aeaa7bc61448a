use Rattle.std.proofs.Common.{◌≡◌, vec_len}
use Rattle.mls_desk.proofs.Saving.{SavesSo}
use Rattle.mls_desk.proofs.saves.last_saves.Given as goal

abbrev pub invariant-loop-rank : goal.invariant-loop-rank
invariant-loop-rank g l =
    SavesSo g.K.Keeper g.N.Run l.fn.books.items l.books.items l.rank
    × (vec_len l.books ≡ vec_len l.fn.books)
