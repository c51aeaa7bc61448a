use Rattle.std.proofs.Common.{◌≡◌, ℕ, ◌<◌, Some, vec_len}
use Rattle.mls_model.specs.Numbers.{element}
use Rattle.mls_pool.specs.Pools.{TapeBook, AreClean}
use Rattle.mls_pool.specs.Moving.{GoOn, IsDrained}
use Rattle.mls_pool.proofs.left.drain_books.Given as goal

abbrev pub invariant-loop-rank : goal.invariant-loop-rank
invariant-loop-rank g l =
    GoOn g.K.Keeper l.fn.books.items l.books.items
    × ((r : ℕ) (book : TapeBook g.row.K.Denot) → r < l.rank → element l.books.items r ≡ Some book → IsDrained book)
    × (AreClean l.fn.books.items → AreClean l.books.items)
    × (vec_len l.books ≡ vec_len l.fn.books)
