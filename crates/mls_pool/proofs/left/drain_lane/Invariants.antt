use Rattle.std.proofs.Common.{◌≡◌, ◌≢◌, ℕ, ◌≤◌, slice_index}
use Rattle.mls_pool.specs.Moving.{GoesOn}
use Rattle.mls_pool.proofs.left.drain_lane.Given as goal

abbrev pub invariant-loop-number : goal.invariant-loop-number
invariant-loop-number g l =
    GoesOn g.K.Keeper l.fn.book l.book
    × (slice_index l.book.taken l.lane ≡ l.number)
    × ((k : ℕ) → k ≢ l.lane → slice_index l.book.taken k ≡ slice_index l.fn.book.taken k)
    × (l.book.fault ≡ l.fn.book.fault)
    × (l.number ≤ l.events)
