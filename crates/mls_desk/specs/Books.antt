-- The books of a server's ranks.
use Rattle.std.specs.Prelude.{◌≡◌, ℕ, ◌<◌, false, List, [], ◌∷◌, ◌++◌, length, map, Option, Some, None, IfSome, ⊤}
use Rattle.std.specs.List.{AllByRecursion}
use Rattle.mls_base.specs.declared.outside.Keeper as keeper
use Rattle.mls_model.specs.Numbers.{element}
use Rattle.mls_model.specs.Studies.{Sizes}
use Rattle.mls_tape.specs.declared.wire.Wire.{Wire}
use Rattle.mls_tape.specs.Wires.{wire_lanes}
use Rattle.mls_field.specs.declared.field.Field.{Field}
use Rattle.mls_field.specs.contracts.field.FieldRowFold.TheImpl.{ghosts as field_ghosts}
use Rattle.mls_book.specs.declared.faults.BookFault.{BookFault}
use Rattle.mls_book.specs.declared.faults.BookFault.TheVariants.{KeeperFault, CheckpointBad, Memory}
use Rattle.mls_book.specs.Books.{BookView}
use Rattle.mls_book.specs.Cores.{parts_bytes}
use Rattle.mls_held.specs.declared.run.Run as run
use Rattle.mls_held.specs.Begun.{HasBegun}
use Rattle.mls_serve.specs.declared.served.LaneFault.{LaneFault}
use Rattle.mls_desk.specs.Desks.{none_told, takes_below}

-- a rank's book over lanes that come over connections, with the sums of the field
abbrev pub WireBook : Type 0 → Type 0
WireBook K = BookView Wire Field K

-- The book agrees with the names of a run.
pub record IsNamed {K R : Type 0} (U : keeper.Ghosts K) (N : run.Ghosts R) (book : WireBook K) : Type 0 where
  pub count : wire_lanes book.lanes ≡ N.lane_count
  pub told : none_told ≡ N.told
  pub belongs : takes_below (wire_lanes book.lanes) ≡ N.belongs_to
  pub sizes : book.core.sizes ≡ N.sizes
  pub begun : HasBegun U (N.keepers book.core.rank) book

-- A book of a rank that took nothing and whose keeper wasn't called.
pub record IsFresh {K : Type 0} (lanes : ℕ) (s : Sizes) (rank : ℕ) (keeper : K) (book : WireBook K) : Type 0 where
  pub over : wire_lanes book.lanes ≡ lanes
  pub sizes : book.core.sizes ≡ s
  pub of_rank : book.core.rank ≡ rank
  pub own : book.keeper ≡ keeper
  pub unsaved : book.saved ≡ false
  pub clean : book.fault ≡ None

-- the keepers of the books, in order
abbrev pub keepers_of : {K : Type 0} → List (WireBook K) → List K
keepers_of {K} books = map (λ (book : WireBook K). book.keeper) books

-- each book agrees with the names of a run
abbrev pub AreNamed : {K R : Type 0} → keeper.Ghosts K → run.Ghosts R → List (WireBook K) → Type 0
AreNamed {K} U N books = AllByRecursion (IsNamed {K = K} U N) books

-- the books agree with the names of a run and stand at their ranks' places
abbrev pub AreSeated : {K R : Type 0} → keeper.Ghosts K → run.Ghosts R → List (WireBook K) → Type 0
AreSeated {K} U N books = (rank : ℕ) (book : WireBook K) → element books rank ≡ Some book → IsNamed U N book × (book.core.rank ≡ rank)

-- want of memory, or the store fault that the book's record shows
abbrev pub IsShown : BookFault → Option BookFault → Type 0
IsShown KeeperFault recorded = recorded ≡ Some KeeperFault
IsShown (CheckpointBad at why) recorded = recorded ≡ Some (CheckpointBad at why)
IsShown Memory recorded = ⊤

-- The fault is one of a rank of the run: want of memory, or the store fault that the rank's book shows.
pub record IsReported {K : Type 0} (books : List (WireBook K)) (fault : LaneFault) : Type 0 where
  pub here : fault.rank < length books
  pub shown : (book : WireBook K) → element books fault.rank ≡ Some book → IsShown fault.fault book.fault

-- no book shows a store fault
abbrev pub AreClean : {K : Type 0} → List (WireBook K) → Type 0
AreClean {K} books = (rank : ℕ) (book : WireBook K) → element books rank ≡ Some book → book.fault ≡ None

-- a keeper that tells holds the checkpoint of its book's core
abbrev pub HoldsOwn : {K : Type 0} → keeper.Ghosts K → WireBook K → Type 0
HoldsOwn U book = IfSome (U.held book.keeper) (λ kept. kept ≡ Some (parts_bytes field_ghosts book.core))

-- A book after a Save on its rank's control lane, which stood at this place before.
pub record HasSaved {K : Type 0} (U : keeper.Ghosts K) (old : List (WireBook K)) (rank : ℕ) (book : WireBook K) : Type 0 where
  pub before : WireBook K
  pub was : element old rank ≡ Some before
  pub journal : book.journal ≡ before.journal ++ rank ∷ []
  pub fault : book.fault ≡ before.fault
  pub holds : HoldsOwn U book

-- each book took a Save on its rank's control lane
abbrev pub HaveSaved : {K : Type 0} → keeper.Ghosts K → (old new : List (WireBook K)) → Type 0
HaveSaved {K} U old new = (rank : ℕ) (book : WireBook K) → element new rank ≡ Some book → HasSaved U old rank book

-- The Saves ended at a rank's fault, which its book shows. The books of the ranks below it took theirs, and those above it are as
-- before.
pub record StoppedAt {K : Type 0} (U : keeper.Ghosts K) (old new : List (WireBook K)) (fault : LaneFault) : Type 0 where
  pub reported : IsReported new fault
  pub below : (rank : ℕ) (book : WireBook K) → rank < fault.rank → element new rank ≡ Some book → HasSaved U old rank book
  pub above : (rank : ℕ) → fault.rank < rank → element new rank ≡ element old rank

-- no book shows a fault, and each keeper that tells holds the checkpoint of its book's core
abbrev pub AreSaved : {K : Type 0} → keeper.Ghosts K → List (WireBook K) → Type 0
AreSaved {K} U books = (rank : ℕ) (book : WireBook K) → element books rank ≡ Some book → (book.fault ≡ None) × HoldsOwn U book
