-- What a server's desk ends with: the ranks' cores, and their keepers since the run began.
use Rattle.std.specs.Prelude.{◌≡◌, ℕ, ◌<◌, ◌≤◌, List, [], ◌∷◌, ◌++◌, length, map, drop, get_or, Some, None, IsSome, IfSome, IsTrue, ◌⊎◌, ⊤}
use Rattle.std.specs.List.{AllByRecursion}
use Rattle.mls_base.specs.declared.outside.Keeper as keeper
use Rattle.mls_base.specs.Told.{Rose}
use Rattle.mls_model.specs.Numbers.{element}
use Rattle.mls_model.specs.Studies.{Sizes}
use Rattle.mls_field.specs.declared.field.Field.{Field}
use Rattle.mls_field.specs.contracts.field.FieldRowFold.TheImpl.{ghosts as field_ghosts}
use Rattle.mls_rank.specs.declared.rank_core.RankCore.{RankCore}
use Rattle.mls_rank.specs.Cores.{sizes_of, rank_of as core_rank}
use Rattle.mls_book.specs.declared.faults.BookFault.{BookFault}
use Rattle.mls_book.specs.declared.faults.BookFault.TheVariants as book
use Rattle.mls_book.specs.Books.{IsRecord}
use Rattle.mls_book.specs.Cores.{CoreParts, parts_of, parts_bytes}
use Rattle.mls_book.specs.Keepers.{KeeperState, keepers_seen, AtRank, AreLeft}
use Rattle.mls_held.specs.declared.run.Run as run
use Rattle.mls_serve.specs.declared.served.LaneFault.{LaneFault}
use Rattle.mls_desk.specs.Desks.{IsDeskRun}
use Rattle.mls_desk.specs.Books.{WireBook, IsReported, AreSaved, keepers_of}

-- a core with the sums of the field
abbrev pub FieldCore : Type 0
FieldCore = RankCore Field field_ghosts

-- A keeper since the run began. Its count of faults never fell. One that told tells still, unless the count rose; one that didn't
-- tell doesn't. One that was sound is sound, none of its calls failed, and where it told it tells still.
pub record IsSince (start now : KeeperState) : Type 0 where
  pub counted : start.faults ≤ now.faults
  pub tells : IsSome start.held → IsSome now.held ⊎ Rose start.faults now.faults
  pub untold : IsSome now.held → IsSome start.held
  pub sound : IsTrue start.sound → IsTrue now.sound
  pub tells_on : IsTrue start.sound → IsSome start.held → IsSome now.held
  pub faultless : IsTrue start.sound → now.faults ≡ start.faults

-- A call of the keeper failed. It was not sound.
pub record HasFaulted (start now : KeeperState) : Type 0 where
  pub rose : Rose start.faults now.faults
  pub unsound : IsTrue start.sound → ⊥

-- The keeper gave no checkpoint. It doesn't tell what it holds; where it told, a call of it failed, and it was not sound.
pub record HasGivenBad (start now : KeeperState) : Type 0 where
  pub silent : now.held ≡ None
  pub rose : IsSome start.held → Rose start.faults now.faults
  pub unsound : IsSome start.held → IsTrue start.sound → ⊥

-- what a rank's fault says of its keeper since the run began
abbrev pub FaultSays : BookFault → KeeperState → KeeperState → Type 0
FaultSays book.KeeperFault start now = HasFaulted start now
FaultSays (book.CheckpointBad at why) start now = HasGivenBad start now
FaultSays book.Memory start now = ⊤

-- A keeper that tells holds the checkpoint of a core, and it tells where it told when the run began.
pub record HoldsCore (core : CoreParts Field) (start now : KeeperState) : Type 0 where
  pub holds : IfSome now.held (λ kept. kept ≡ Some (parts_bytes field_ghosts core))
  pub tells : IsSome start.held → IsSome now.held

-- the cores are of a study, one for each rank in order
pub record AreCoresOf (s : Sizes) (cores : List FieldCore) : Type 0 where
  pub count : length cores ≡ s.ranks
  pub sizes : (rank : ℕ) (d : FieldCore) → rank < length cores → sizes_of (get_or cores rank d) ≡ s
  pub ranks : (rank : ℕ) (d : FieldCore) → rank < length cores → core_rank (get_or cores rank d) ≡ rank

-- The ranks' cores, and the keepers in their places. Those that no rank has are as before.
pub record AreDeskEnds (s : Sizes) (cores : List FieldCore) (old new : List KeeperState) : Type 0 where
  pub are_cores : AreCoresOf s cores
  pub count : length new ≡ length old
  pub each : (rank : ℕ) → rank < s.ranks → AtRank rank old new IsSince
  pub left : AreLeft s.ranks old new

-- A fault of one of the ranks, with its cause.
pub record IsLaneFault (s : Sizes) (old new : List KeeperState) (fault : LaneFault) : Type 0 where
  pub here : fault.rank < s.ranks
  pub says : AtRank fault.rank old new (FaultSays fault.fault)

-- each keeper holds its rank's core
abbrev pub HoldLast : Sizes → List FieldCore → (old new : List KeeperState) → Type 0
HoldLast s cores old new = (rank : ℕ) (core : FieldCore) → element cores rank ≡ Some core → AtRank rank old new (HoldsCore (parts_of core))

-- What the end of a run by books with these keepers leaves: the cores and keepers, the cause of each fault that the books show, and
-- after the last saves the cores in their keepers.
pub record EndsBooks {K : Type 0} (U : keeper.Ghosts K) (s : Sizes) (books : List (WireBook K)) (cores : List FieldCore) (keepers back : List K) : Type 0 where
  pub ends : AreDeskEnds s cores (keepers_seen U keepers) (keepers_seen U back)
  pub fault : (fault : LaneFault) → IsReported books fault → IsLaneFault s (keepers_seen U keepers) (keepers_seen U back) fault
  pub last : AreSaved U books → HoldLast s cores (keepers_seen U keepers) (keepers_seen U back)

-- where the books are of a run that began with these keepers
abbrev pub EndsRun : {K R : Type 0} → keeper.Ghosts K → run.Ghosts R → (lanes : ℕ) → Sizes → (books : List (WireBook K)) → (cores : List FieldCore) → (spare keepers back : List K) → Type 0
EndsRun U N lanes s books cores spare keepers back = IsDeskRun N lanes s (keepers_seen U keepers) → s.ranks ≤ length keepers → length books ≡ s.ranks → spare ≡ drop s.ranks keepers → EndsBooks U s books cores keepers back

-- a recorded store fault has its cause
abbrev pub HasRecord : {K : Type 0} → keeper.Ghosts K → WireBook K → Type 0
HasRecord U book = IsRecord book.fault (U.faults book.keeper) (U.held book.keeper)

-- What books end with: their cores, and their keepers before some others.
pub record AreOf {K : Type 0} (U : keeper.Ghosts K) (books : List (WireBook K)) (cores : List FieldCore) (spare keepers : List K) : Type 0 where
  pub cores_are : map parts_of cores ≡ map (λ (book : WireBook K). book.core) books
  pub keepers_are : keepers ≡ keepers_of books ++ spare
  pub caused : AllByRecursion (HasRecord U) books

-- the last of some books was taken, and what it ends with put before what others ended with
pub record TookLast {K : Type 0} (U : keeper.Ghosts K) (books books' : List (WireBook K)) (cores cores' : List FieldCore) (keepers keepers' : List K) : Type 0 where
  pub book : WireBook K
  pub last : books ≡ books' ++ book ∷ []
  pub core_is : map parts_of cores' ≡ book.core ∷ map parts_of cores
  pub keeper_is : keepers' ≡ book.keeper ∷ keepers
  pub caused : HasRecord U book

-- The last books were taken so, up to those that are left.
pub record TookSome {K : Type 0} (U : keeper.Ghosts K) (all left : List (WireBook K)) (cores : List FieldCore) (spare keepers : List K) : Type 0 where
  pub taken : List (WireBook K)
  pub split : all ≡ left ++ taken
  pub are : AreOf U taken cores spare keepers
