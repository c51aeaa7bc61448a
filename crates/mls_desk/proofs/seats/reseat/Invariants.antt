use Rattle.std.proofs.Common.{◌≡◌, ◌+◌, vec_len, vec_capacity}
use Rattle.mls_desk.specs.Books.{AreNamed}
use Rattle.mls_desk.proofs.seats.reseat.Given as goal

abbrev pub invariant-loop-rank : goal.invariant-loop-rank
invariant-loop-rank g l =
    AreNamed g.K.Keeper g.N.Run l.books.items
    × (vec_len l.books + l.rank ≡ l.rank-end)
    × (vec_capacity l.books ≡ vec_capacity l.fn.books)
