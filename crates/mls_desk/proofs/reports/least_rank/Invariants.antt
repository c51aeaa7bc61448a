use Rattle.std.proofs.Common.{◌≡◌, ℕ, ◌<◌, Some, None}
use Rattle.mls_model.specs.Numbers.{element}
use Rattle.mls_desk.specs.Books.{WireBook}
use Rattle.mls_desk.proofs.reports.least_rank.Given as goal

abbrev pub invariant-loop-rank : goal.invariant-loop-rank
invariant-loop-rank g l = (r : ℕ) (book : WireBook g.row.K.Denot) → r < l.rank → element l.books r ≡ Some book → book.fault ≡ None
