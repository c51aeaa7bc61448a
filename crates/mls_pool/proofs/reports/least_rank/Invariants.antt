use Rattle.std.proofs.Common.{◌≡◌, ℕ, ◌<◌, Some, None}
use Rattle.mls_model.specs.Numbers.{element}
use Rattle.mls_pool.specs.Pools.{TapeBook}
use Rattle.mls_pool.proofs.reports.least_rank.Given as goal

abbrev pub invariant-loop-rank : goal.invariant-loop-rank
invariant-loop-rank g l = (r : ℕ) (book : TapeBook g.row.K.Denot) → r < l.rank → element l.books r ≡ Some book → book.fault ≡ None
