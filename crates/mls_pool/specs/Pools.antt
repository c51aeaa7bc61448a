-- What a run by workers answers: the books in rank order, the keepers that no rank took, and the fault.
use Rattle.std.specs.Prelude.{◌≡◌, ℕ, ◌<◌, ◌≤◌, true, List, length, map, drop, Option, Some, None, IfSome, ⊤}
use Rattle.std.specs.List.{AllByRecursion}
use Rattle.std.specs.Borrow.{Bor}
use Rattle.mls_base.specs.declared.outside.Keeper as keeper
use Rattle.mls_model.specs.Numbers.{element}
use Rattle.mls_model.specs.Studies.{Sizes}
use Rattle.mls_model.specs.Lanes.{Lane}
use Rattle.mls_model.specs.Histories.{history}
use Rattle.mls_model.specs.Schedules.{event_count, is_lane_of, is_legal_order, is_complete}
use Rattle.mls_tape.specs.Tapes.{TapeView, told_lane}
use Rattle.mls_field.specs.declared.field.Field.{Field}
use Rattle.mls_book.specs.declared.faults.BookFault.{BookFault}
use Rattle.mls_book.specs.declared.faults.BookFault.TheVariants.{KeeperFault, CheckpointBad, Memory}
use Rattle.mls_book.specs.Books.{BookView}
use Rattle.mls_book.specs.Keepers.{KeeperState, keepers_seen}
use Rattle.mls_held.specs.Begun.{HasBegun}
use Rattle.mls_pool.specs.declared.faults.PoolFault.{PoolFault}

-- a rank's book over a tape, with the sums of the field
abbrev pub TapeBook : Type 0 → Type 0
TapeBook K = BookView (Bor TapeView) Field K

-- the lanes of the tape that a book is over
abbrev pub lanes_of : {K : Type 0} → TapeBook K → List Lane
lanes_of book = book.lanes.now.lanes

-- the books' lists of lanes taken, in order
abbrev pub journals : {K : Type 0} → List (TapeBook K) → List (List ℕ)
journals {K} books = map (λ (book : TapeBook K). book.journal) books

-- Lanes that tell what the lanes of the tape tell: as many, of the same ranks, with the same kinds and frames. So they have as
-- many events, and each list of lanes has the same history over them and is legal for the same ranks.
pub record TellTape (tape own : List Lane) : Type 0 where
  pub count : length own ≡ length tape
  pub told : told_lane own ≡ told_lane tape
  pub ranks : is_lane_of own ≡ is_lane_of tape
  pub events : (k : ℕ) → event_count own k ≡ event_count tape k
  pub histories : (order : List ℕ) → history own order ≡ history tape order
  pub legal : (rank : ℕ) (order : List ℕ) → is_legal_order own rank order ≡ is_legal_order tape rank order

-- A book of the run: it is over the tape, of the study and of its rank, and has begun with this keeper.
pub record IsBookOf {K : Type 0} (U : keeper.Ghosts K) (tape : List Lane) (s : Sizes) (rank : ℕ) (start : KeeperState) (book : TapeBook K) : Type 0 where
  pub over : TellTape tape (lanes_of book)
  pub sizes : book.core.sizes ≡ s
  pub of_rank : book.core.rank ≡ rank
  pub begun : HasBegun U start book

-- As many books as the study has ranks, each of the run and at its rank's place. At each rank this was seen of the keeper when
-- the run began.
pub record AreBooks {K : Type 0} (U : keeper.Ghosts K) (tape : List Lane) (s : Sizes) (starts : List KeeperState) (books : List (TapeBook K)) : Type 0 where
  pub count : length books ≡ s.ranks
  pub enough : s.ranks ≤ length starts
  pub each : (rank : ℕ) (book : TapeBook K) (start : KeeperState) → element books rank ≡ Some book → element starts rank ≡ Some start → IsBookOf U tape s rank start book

-- want of memory, or the store fault that the book's record shows
abbrev pub IsShown : BookFault → Option BookFault → Type 0
IsShown KeeperFault recorded = recorded ≡ Some KeeperFault
IsShown (CheckpointBad at why) recorded = recorded ≡ Some (CheckpointBad at why)
IsShown Memory recorded = ⊤

-- The fault is one of a rank of the run: want of memory, or the store fault that the rank's book shows.
pub record IsReported {K : Type 0} (books : List (TapeBook K)) (fault : PoolFault) : Type 0 where
  pub here : fault.rank < length books
  pub shown : (book : TapeBook K) → element books fault.rank ≡ Some book → IsShown fault.fault book.fault

-- no book shows a store fault
abbrev pub AreClean : {K : Type 0} → List (TapeBook K) → Type 0
AreClean {K} books = (rank : ℕ) (book : TapeBook K) → element books rank ≡ Some book → book.fault ≡ None

-- The pool of a run that was handed these keepers: the tape's lanes are of the study's ranks, the books are of the run, the
-- keepers from the last rank on are left in order, and a fault is shown. Without a fault no book shows one.
pub record IsPool {K : Type 0} (U : keeper.Ghosts K) (tape : List Lane) (s : Sizes) (keepers : List K) (books : List (TapeBook K)) (spare : List K) (fault : Option PoolFault) : Type 0 where
  pub within : AllByRecursion (λ (lane : Lane). lane.rank < s.ranks) tape
  pub are : AreBooks U tape s (keepers_seen U keepers) books
  pub left : spare ≡ drop s.ranks keepers
  pub reported : IfSome fault (IsReported books)
  pub clean : fault ≡ None → AreClean books

-- The pool after what was left was taken. Without a fault the journals are a complete schedule.
pub record IsEnded {K : Type 0} (U : keeper.Ghosts K) (tape : List Lane) (s : Sizes) (keepers : List K) (books : List (TapeBook K)) (spare : List K) (fault : Option PoolFault) : Type 0 where
  pub pool : IsPool U tape s keepers books spare fault
  pub complete : fault ≡ None → is_complete s.ranks tape (journals books) ≡ true
