-- What the end of a run writes and saves, and what it hands back.
use Rattle.std.specs.Prelude.{◌≡◌, ℕ, List, [], ◌∷◌, ◌++◌, length, map, Some, Result, Ok, Err, IsTrue, ◌⊎◌}
use Rattle.std.specs.Global.{Vec}
use Rattle.std.specs.List.{AllByRecursion}
use Rattle.mls_base.specs.declared.outside.Keeper as keeper
use Rattle.mls_base.specs.Told.{Rose, Saved, MaySpoil}
use Rattle.mls_text.specs.Writing.{SinkState, Wrote, FailedAfter}
use Rattle.mls_model.specs.declared.lanes.LaneLine.{LaneLine}
use Rattle.mls_model.specs.Numbers.{element}
use Rattle.mls_model.specs.Studies.{Sizes, Study}
use Rattle.mls_model.specs.Lanes.{Lane}
use Rattle.mls_model.specs.Histories.{LaneEvent, history}
use Rattle.mls_model.specs.ResultText.{history_text, lines_of, result_text}
use Rattle.mls_field.specs.declared.field.Field.{Field}
use Rattle.mls_field.specs.contracts.field.FieldRowFold.TheImpl.{ghosts as field_ghosts}
use Rattle.mls_rank.specs.declared.rank_core.RankCore.{RankCore}
use Rattle.mls_book.specs.Books.{IsCarried}
use Rattle.mls_book.specs.Cores.{parts_of}
use Rattle.mls_book.specs.Histories.{Sure}
use Rattle.mls_result.specs.Histories.{AreCores, AllStand, states_text}
use Rattle.mls_launch.specs.declared.faults.OutFault.{OutFault}
use Rattle.mls_launch.specs.declared.faults.OutFault.TheVariants as fault
use Rattle.mls_load.specs.Refusals.{FileState}
use Rattle.mls_pool.specs.Pools.{TapeBook, TellTape, journals, lanes_of}

-- a core with the sums of the field
abbrev pub FieldCore : Type 0
FieldCore = RankCore Field field_ghosts

-- A book over a tape, of a study and a rank.
pub record IsOnTape {K : Type 0} (tape : List Lane) (s : Sizes) (rank : ℕ) (book : TapeBook K) : Type 0 where
  pub over : TellTape tape (lanes_of book)
  pub sizes : book.core.sizes ≡ s
  pub of_rank : book.core.rank ≡ rank

-- one book for each rank, in order
pub record AreOnTape {K : Type 0} (tape : List Lane) (s : Sizes) (books : List (TapeBook K)) : Type 0 where
  pub count : length books ≡ s.ranks
  pub each : (rank : ℕ) (book : TapeBook K) → element books rank ≡ Some book → IsOnTape tape s rank book

-- the book carries the history of its journal
abbrev pub IsKept : {K : Type 0} → keeper.Ghosts K → TapeBook K → Type 0
IsKept {K} U book = IsCarried field_ghosts U book (history (lanes_of book) book.journal)

-- it is sure of each book that its core stands for the history of its journal
abbrev pub AreAllSure : {K : Type 0} → keeper.Ghosts K → List (TapeBook K) → Type 0
AreAllSure {K} U books = (rank : ℕ) (book : TapeBook K) → element books rank ≡ Some book → Sure (U.held book.keeper) (history (lanes_of book) book.journal)

-- the keepers of books, in order
abbrev pub own_keepers : {K : Type 0} → List (TapeBook K) → List K
own_keepers {K} books = map (λ (book : TapeBook K). book.keeper) books

abbrev pub items_of : List (Vec ℕ) → List (List ℕ)
items_of lists = map (λ (v : Vec ℕ). v.items) lists

-- What books end with: their cores, their journals, and their keepers before some others. Each carried the history of its journal.
pub record AreOf {K : Type 0} (U : keeper.Ghosts K) (books : List (TapeBook K)) (cores : List FieldCore) (lists : List (Vec ℕ)) (spare keepers : List K) : Type 0 where
  pub cores_are : map parts_of cores ≡ map (λ (book : TapeBook K). book.core) books
  pub lists_are : items_of lists ≡ journals books
  pub keepers_are : keepers ≡ own_keepers books ++ spare
  pub kept : AllByRecursion (IsKept U) books

-- the last of some books was taken, and what it ends with put before what others ended with
pub record TookLast {K : Type 0} (U : keeper.Ghosts K) (books books' : List (TapeBook K)) (cores cores' : List FieldCore) (lists lists' : List (Vec ℕ)) (keepers keepers' : List K) : Type 0 where
  pub book : TapeBook K
  pub last : books ≡ books' ++ book ∷ []
  pub core_is : map parts_of cores' ≡ book.core ∷ map parts_of cores
  pub list_is : items_of lists' ≡ book.journal ∷ items_of lists
  pub keeper_is : keepers' ≡ book.keeper ∷ keepers
  pub kept : IsKept U book

-- The last books were taken so, up to those that are left.
pub record TookSome {K : Type 0} (U : keeper.Ghosts K) (all left : List (TapeBook K)) (cores : List FieldCore) (lists : List (Vec ℕ)) (spare keepers : List K) : Type 0 where
  pub taken : List (TapeBook K)
  pub split : all ≡ left ++ taken
  pub are : AreOf U taken cores lists spare keepers

-- The text of the cores goes out so; it is the text of the histories that they stand for.
pub record GoesOut (study : Study) (cores : List FieldCore) (lines : List LaneLine) (goes : List ℕ → Type 0) : Type 0 where
  pub states : goes (states_text study cores lines)
  pub histories : (histories : ℕ → List LaneEvent) → AllStand cores histories → goes (history_text study histories lines)

-- A text of some cores of a study, one for each rank in order, and of a tape's lanes goes out so. It is the result text of these
-- lists of lanes, where it is sure that the cores stand for their histories.
pub record OfRun (study : Study) (lanes : List Lane) (orders : List (List ℕ)) (sure : Type 0) (goes : List ℕ → Type 0) : Type 0 where
  pub cores : List FieldCore
  pub are : AreCores study.sizes cores
  pub form : goes (states_text study cores (lines_of lanes))
  pub right : sure → goes (result_text study lanes orders)

-- The same of books and their journals; each book carried the history of its journal.
abbrev pub OfBooks : {K : Type 0} → keeper.Ghosts K → Study → List Lane → List (TapeBook K) → (goes : List ℕ → Type 0) → Type 0
OfBooks U study lanes books goes = OfRun study lanes (journals books) (AreAllSure U books) goes × AllByRecursion (IsKept U) books

-- the bytes were saved under the name
pub record IsSaved (name bytes : List ℕ) (old new : FileState) : Type 0 where
  pub held : Saved name bytes old.held new.held
  pub loads : new.load_faults ≡ old.load_faults
  pub saves : new.save_faults ≡ old.save_faults

-- A save under the name failed: all other names are held as before. The files were not sound.
pub record IsSpoiled (name : List ℕ) (old new : FileState) : Type 0 where
  pub spoiled : MaySpoil name old.held new.held
  pub loads : new.load_faults ≡ old.load_faults
  pub rose : Rose old.save_faults new.save_faults
  pub unsound : IsTrue old.sound → ⊥

-- nothing was saved
pub record IsUnsaved (old new : FileState) : Type 0 where
  pub held : new.held ≡ old.held
  pub loads : new.load_faults ≡ old.load_faults
  pub saves : new.save_faults ≡ old.save_faults

-- How a text went out and then some bytes were saved under a name. After a write fault either a front of the text went out and
-- nothing was saved, or the whole text went out and the save failed. Where memory is wanting the text went out or nothing did, and
-- nothing was saved.
abbrev pub Ends : {A : Type 0} → ((List ℕ → Type 0) → Type 0) → (name bytes : List ℕ) → Result A OutFault → (files files' : FileState) (out out' : SinkState) → Type 0
Ends goes name bytes (Ok done) files files' out out' = goes (Wrote out out') × IsSaved name bytes files files'
Ends goes name bytes (Err fault.WriteFault) files files' out out' = (goes (FailedAfter out out') × IsUnsaved files files') ⊎ (goes (Wrote out out') × IsSpoiled name files files')
Ends goes name bytes (Err fault.Memory) files files' out out' = ((out' ≡ out) ⊎ goes (Wrote out out')) × IsUnsaved files files'

-- the keepers come back in order, but that want of memory may keep them all
abbrev pub ComeBack : {A K : Type 0} → Result A OutFault → (own back : List K) → Type 0
ComeBack (Err fault.Memory) own back = (back ≡ own) ⊎ (back ≡ [])
ComeBack result own back = back ≡ own
