use Rattle.std.proofs.Common.{◌≡◌, vec_len, vec_capacity}
use Rattle.mls_desk.specs.Books.{AreSeated}
use Rattle.mls_desk.proofs.seats.unseat.Given as goal

abbrev pub invariant-loop-rank : goal.invariant-loop-rank
invariant-loop-rank g l =
    AreSeated g.K.Keeper g.N.Run l.books.items
    × (vec_len l.books ≡ l.rank)
    × (vec_capacity l.books ≡ vec_capacity l.fn.books)
