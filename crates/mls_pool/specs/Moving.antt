-- What becomes of books by offers.
use Rattle.std.specs.Prelude.{◌≡◌, ℕ, true, List, length, Some}
use Rattle.mls_base.specs.declared.outside.Keeper as keeper
use Rattle.mls_model.specs.Numbers.{element, times}
use Rattle.mls_model.specs.Schedules.{is_lane_of, is_legal_order, event_count}
use Rattle.mls_book.specs.Keepers.{KeeperState}
use Rattle.mls_held.specs.Begun.{HasBegun}
use Rattle.mls_pool.specs.Pools.{TapeBook, lanes_of}

-- The same book after some offers: its lanes, study and rank are as before, and so is whatever holds since its run began.
pub record GoesOn {K : Type 0} (U : keeper.Ghosts K) (old new : TapeBook K) : Type 0 where
  pub lanes : new.lanes ≡ old.lanes
  pub sizes : new.core.sizes ≡ old.core.sizes
  pub rank : new.core.rank ≡ old.core.rank
  pub begun : (start : KeeperState) → HasBegun U start old → HasBegun U start new

-- The journal is legal for the book's rank, and each lane of the rank stands in it as often as it has events.
pub record IsDrained {K : Type 0} (book : TapeBook K) : Type 0 where
  pub legal : is_legal_order (lanes_of book) book.core.rank book.journal ≡ true
  pub whole : (k : ℕ) → is_lane_of (lanes_of book) book.core.rank k ≡ true → times k book.journal ≡ event_count (lanes_of book) k

-- each book of a list is drained
abbrev pub AreDrained : {K : Type 0} → List (TapeBook K) → Type 0
AreDrained {K} books = (rank : ℕ) (book : TapeBook K) → element books rank ≡ Some book → IsDrained book

-- A book at a place of a list is the one that stood there, after some offers.
pub record Follows {K : Type 0} (U : keeper.Ghosts K) (books : List (TapeBook K)) (rank : ℕ) (new : TapeBook K) : Type 0 where
  pub old : TapeBook K
  pub was : element books rank ≡ Some old
  pub goes_on : GoesOn U old new

-- The books after some offers: as many as before, each the one that stood at its place.
pub record GoOn {K : Type 0} (U : keeper.Ghosts K) (old new : List (TapeBook K)) : Type 0 where
  pub count : length new ≡ length old
  pub each : (rank : ℕ) (book : TapeBook K) → element new rank ≡ Some book → Follows U old rank book
