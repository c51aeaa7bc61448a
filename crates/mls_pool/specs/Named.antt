-- The names of a run over a tape, and the books that agree with them.
use Rattle.std.specs.Prelude.{◌≡◌, ℕ, false, List, length, map, get_or, Some, None}
use Rattle.std.specs.List.{AllByRecursion}
use Rattle.mls_base.specs.declared.outside.Keeper as keeper
use Rattle.mls_model.specs.Studies.{Sizes}
use Rattle.mls_model.specs.Numbers.{element}
use Rattle.mls_model.specs.Lanes.{Lane}
use Rattle.mls_model.specs.Schedules.{is_lane_of}
use Rattle.mls_tape.specs.Tapes.{told_lane}
use Rattle.mls_book.specs.Keepers.{KeeperState}
use Rattle.mls_held.specs.declared.run.Run as run
use Rattle.mls_held.specs.Unnamed.{no_keeper}
use Rattle.mls_held.specs.Begun.{HasBegun}
use Rattle.mls_pool.specs.Pools.{TapeBook, lanes_of}

-- what was seen of a rank's keeper among these
abbrev pub start_of : List KeeperState → ℕ → KeeperState
start_of starts rank = get_or starts rank no_keeper

-- The run is named after a tape, a study and what was seen of the keepers.
pub record IsRunOf {R : Type 0} (N : run.Ghosts R) (tape : List Lane) (s : Sizes) (starts : List KeeperState) : Type 0 where
  pub count : N.lane_count ≡ length tape
  pub told : N.told ≡ told_lane tape
  pub belongs : N.belongs_to ≡ is_lane_of tape
  pub sizes : N.sizes ≡ s
  pub keepers : N.keepers ≡ start_of starts

-- The book agrees with the names of a run.
pub record IsNamed {K R : Type 0} (U : keeper.Ghosts K) (N : run.Ghosts R) (book : TapeBook K) : Type 0 where
  pub count : length (lanes_of book) ≡ N.lane_count
  pub told : told_lane (lanes_of book) ≡ N.told
  pub belongs : is_lane_of (lanes_of book) ≡ N.belongs_to
  pub sizes : book.core.sizes ≡ N.sizes
  pub begun : HasBegun U (N.keepers book.core.rank) book

-- A book of a rank that took nothing and whose keeper wasn't called.
pub record IsFresh {K : Type 0} (tape : List Lane) (s : Sizes) (rank : ℕ) (keeper : K) (book : TapeBook K) : Type 0 where
  pub over : lanes_of book ≡ tape
  pub sizes : book.core.sizes ≡ s
  pub of_rank : book.core.rank ≡ rank
  pub own : book.keeper ≡ keeper
  pub unsaved : book.saved ≡ false
  pub clean : book.fault ≡ None

-- the keepers of the books, in order
abbrev pub keepers_of : {K : Type 0} → List (TapeBook K) → List K
keepers_of {K} books = map (λ (book : TapeBook K). book.keeper) books

-- each book agrees with the names of a run
abbrev pub AreNamed : {K R : Type 0} → keeper.Ghosts K → run.Ghosts R → List (TapeBook K) → Type 0
AreNamed {K} U N books = AllByRecursion (IsNamed {K = K} U N) books

-- the books agree with the names of a run and stand at their ranks' places
abbrev pub AreSeated : {K R : Type 0} → keeper.Ghosts K → run.Ghosts R → List (TapeBook K) → Type 0
AreSeated {K} U N books = (rank : ℕ) (book : TapeBook K) → element books rank ≡ Some book → IsNamed U N book × (book.core.rank ≡ rank)
