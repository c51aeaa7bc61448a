-- The last books were taken, and there is room for the others.
use Rattle.std.proofs.Common.{◌≡◌, ◌+◌, ◌≤◌, vec_len, vec_capacity}
use Rattle.mls_desk.specs.Ends.{TookSome}
use Rattle.mls_desk.proofs.ending.finish_books.Given as goal

abbrev pub invariant-loop : goal.invariant-loop
invariant-loop g l =
    TookSome g.K.Keeper l.fn.books.items l.books.items l.cores.items l.fn.spare.items l.keepers.items
    × (vec_len l.books + vec_len l.cores ≤ vec_capacity l.cores)
    × (vec_len l.books + vec_len l.keepers ≤ vec_capacity l.keepers)
    × (vec_len l.books + l.counter ≡ l.end)
