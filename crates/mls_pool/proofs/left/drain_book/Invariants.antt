use Rattle.std.proofs.Common.{◌≡◌, ℕ, ◌<◌, true, slice_index}
use Rattle.mls_model.specs.Schedules.{event_count, is_lane_of}
use Rattle.mls_pool.specs.Moving.{GoesOn}
use Rattle.mls_pool.proofs.left.drain_book.Given as goal

abbrev pub invariant-loop-lane : goal.invariant-loop-lane
invariant-loop-lane g l =
    GoesOn g.K.Keeper l.fn.book l.book
    × ((k : ℕ) → k < l.lane → is_lane_of l.fn.book.lanes.now.lanes l.fn.book.core.rank k ≡ true → slice_index l.book.taken k ≡ event_count l.fn.book.lanes.now.lanes k)
    × (l.book.fault ≡ l.fn.book.fault)
