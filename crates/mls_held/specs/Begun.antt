-- What holds of a rank's book since its run began.
use Rattle.std.specs.Prelude.{◌≡◌, ◌≤◌, false, Some, None, IsSome, IsTrue, ◌⊎◌}
use Rattle.mls_base.specs.declared.outside.Keeper as keeper
use Rattle.mls_base.specs.Told.{Rose, MayCease}
use Rattle.mls_tape.specs.declared.decoded.Lanes as lanes
use Rattle.mls_book.specs.declared.faults.BookFault.TheVariants.{KeeperFault}
use Rattle.mls_book.specs.Books.{BookView}
use Rattle.mls_book.specs.Keepers.{KeeperState}
use Rattle.mls_held.specs.declared.run.Run as run

-- The keeper of a book, of which this was seen when the run began. Its count of faults never fell. A fault of the keeper is
-- recorded only where that count rose. A keeper that told tells still, unless the count rose, and wherever no store fault is
-- recorded; one that didn't tell doesn't. Where this run had no save, a keeper that tells holds what it held. A keeper that was
-- sound is sound, none of its calls failed, and where it told it tells still.
pub record HasBegun {T F K : Type 0} (U : keeper.Ghosts K) (start : KeeperState) (book : BookView T F K) : Type 0 where
  pub counted : start.faults ≤ U.faults book.keeper
  pub caused : book.fault ≡ Some KeeperFault → Rose start.faults (U.faults book.keeper)
  pub tells : IsSome start.held → IsSome (U.held book.keeper) ⊎ Rose start.faults (U.faults book.keeper)
  pub sure : book.fault ≡ None → IsSome start.held → IsSome (U.held book.keeper)
  pub untold : IsSome (U.held book.keeper) → IsSome start.held
  pub kept : book.saved ≡ false → MayCease start.held (U.held book.keeper)
  pub sound : IsTrue start.sound → IsTrue (U.sound book.keeper)
  pub tells_on : IsTrue start.sound → IsSome start.held → IsSome (U.held book.keeper)
  pub faultless : IsTrue start.sound → U.faults book.keeper ≡ start.faults
  pub blameless : IsTrue start.sound → book.fault ≡ Some KeeperFault → ⊥

-- The book is one of the run: its lanes and its study are those that the run names, and so is the beginning of its keeper.
pub record IsOfRun {T F K R : Type 0} (L : lanes.Ghosts T) (U : keeper.Ghosts K) (N : run.Ghosts R) (book : BookView T F K) : Type 0 where
  pub count : L.lane_count book.lanes ≡ N.lane_count
  pub told : L.told book.lanes ≡ N.told
  pub belongs : L.belongs_to book.lanes ≡ N.belongs_to
  pub sizes : book.core.sizes ≡ N.sizes
  pub begun : HasBegun U (N.keepers book.core.rank) book
