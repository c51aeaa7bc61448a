use Rattle.std.proofs.Common.{◌≡◌, vec_len, vec_capacity}
use Rattle.mls_pool.specs.Named.{AreSeated}
use Rattle.mls_pool.proofs.seats.unseat.Given as goal

abbrev pub invariant-loop-rank : goal.invariant-loop-rank
invariant-loop-rank g l =
    AreSeated g.K.Keeper g.N.Run l.books.items
    × (vec_len l.books ≡ l.rank)
    × (vec_capacity l.books ≡ vec_capacity l.fn.books)
