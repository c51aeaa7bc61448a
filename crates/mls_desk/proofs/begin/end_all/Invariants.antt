use Rattle.std.proofs.Common.{◌≡◌, ◌+◌, ◌≤◌, ◌++◌, vec_len, vec_capacity}
use Rattle.mls_desk.specs.Books.{keepers_of}
use Rattle.mls_desk.proofs.begin.end_all.Given as goal

abbrev pub invariant-loop : goal.invariant-loop
invariant-loop g l =
    (keepers_of l.books.items ++ l.keepers.items ≡ keepers_of l.fn.books.items ++ l.fn.keepers.items)
    × (vec_len l.books + l.counter ≡ l.end)
    × (vec_len l.books + vec_len l.keepers ≤ vec_capacity l.keepers)
