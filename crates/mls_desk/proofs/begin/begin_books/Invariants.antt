use Rattle.std.proofs.Common.{◌≡◌, ◌+◌, ◌≤◌, ◌++◌, vec_len, vec_capacity}
use Rattle.mls_desk.specs.Books.{AreNamed, keepers_of}
use Rattle.mls_desk.proofs.begin.begin_books.Given as goal

abbrev pub invariant-loop-rank : goal.invariant-loop-rank
invariant-loop-rank g l =
    AreNamed g.K.Keeper g.N.Run l.books.items
    × (keepers_of l.books.items ++ l.keepers.items ≡ l.fn.keepers.items)
    × (vec_len l.books ≡ l.rank)
    × (vec_len l.books + vec_len l.keepers ≡ 64)
    × (64 ≤ vec_capacity l.books)
    × (64 ≤ vec_capacity l.keepers)
