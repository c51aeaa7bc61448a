use Rattle.std.proofs.Common.{◌≡◌, ◌+◌, vec_len, vec_capacity}
use Rattle.mls_desk.specs.Books.{AreNamed}
use Rattle.mls_desk.proofs.seats.seat.Given as goal

abbrev pub invariant-loop : goal.invariant-loop
invariant-loop g l =
    AreNamed g.K.Keeper g.N.Run l.books.items
    × (vec_len l.books + l.counter ≡ l.end)
    × (vec_len l.cells + vec_len l.books ≡ vec_len l.fn.cells + vec_len l.fn.books)
    × (vec_capacity l.cells ≡ vec_capacity l.fn.cells)
