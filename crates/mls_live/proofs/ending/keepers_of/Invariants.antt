-- The keepers of the books that are left, and those that were taken, are all.
use Rattle.std.proofs.Common.{◌≡◌, ◌+◌, ◌≤◌, ◌++◌, vec_len, vec_capacity}
use Rattle.mls_live.specs.Ending.{own_keepers}
use Rattle.mls_live.proofs.ending.keepers_of.Given as goal

abbrev pub invariant-loop : goal.invariant-loop
invariant-loop g l = (own_keepers l.books.items ++ l.keepers.items ≡ own_keepers l.fn.books.items ++ l.fn.spare.items) × ((vec_len l.books + vec_len l.keepers ≤ vec_capacity l.keepers) × (vec_len l.books + l.counter ≡ l.end))
