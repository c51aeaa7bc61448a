-- The states of another number of ranks, which are cut from those of old ranks whose marks are the same.
use Rattle.std.specs.Prelude.{◌≡◌, ℕ, zero, suc, ◌+◌, ◌-◌, ◌*◌, ◌<◌, Bool, not, List, [], ◌++◌, length, map, take, drop, get_or, sum, Option, None, Some, Ok, Err, IsOk, ⊤}
use Rattle.mls_model.specs.declared.outcomes.Counts.{Counts}
use Rattle.mls_model.specs.Numbers.{below}
use Rattle.mls_model.specs.Studies.{Sizes, planes}
use Rattle.mls_model.specs.Blocks.{block, width, rank_of}
use Rattle.mls_ckpt.specs.Reading.{Read}
use Rattle.mls_ckpt.specs.States.{State, is_marked, marks_of_planes, overlapping}
use Rattle.mls_ckpt.specs.Spellings.{spelled_state}
use Rattle.mls_ckpt.specs.Checkpoints.{checkpoint_of}
use Rattle.mls_ckpt.specs.CellParts.{part_at}
use Rattle.mls_ckpt.specs.Histories.{marks_of}
use Rattle.mls_resume.specs.declared.faults.RecutFault.{RecutFault}
use Rattle.mls_resume.specs.declared.faults.RecutFault.TheVariants.{Differ, Memory}

-- the counts of so many accepted pieces and so many kept ones
abbrev pub taken_counts : ℕ → ℕ → Counts
taken_counts accepted kept = record { accepted = accepted; kept = kept; replay = 0; stale = 0; repeated = 0; f1 = 0; f2 = 0; f3 = 0; f4 = 0; f5 = 0; f6 = 0 }

-- the state that was read; what was refused counts as the one without any part
abbrev pub state_read : Read State → State
state_read (Ok state) = state
state_read (Err refusal) = record { counts = taken_counts 0 0; marks = []; part = []; pending = [] }

-- the state that the file of an old rank spells
unfoldable pub old_state : Sizes → List (List ℕ) → ℕ → State
old_state old files rank = state_read (checkpoint_of part_at old rank (get_or files rank []))

-- there is a file for each old rank, and it is a checkpoint of it
pub record AreFiles (old : Sizes) (files : List (List ℕ)) : Type 0 where
  pub one_each : length files ≡ old.ranks
  pub spelled : (rank : ℕ) → rank < old.ranks → IsOk (checkpoint_of part_at old rank (get_or files rank []))

-- whether an old rank has the mark of a group and a plane
abbrev pub has_old : Sizes → List (List ℕ) → ℕ → ℕ → ℕ → Bool
has_old old files rank group plane = is_marked (old_state old files rank).marks (record { group = group; plane = plane })

-- two sets of marks are the same in a plane, and in all planes
abbrev pub SamePlane : ℕ → (ℕ → ℕ → Bool) → (ℕ → ℕ → Bool) → ℕ → Type 0
SamePlane groups first other plane = (group : ℕ) → group < groups → other group plane ≡ first group plane

abbrev pub SameMarks : Sizes → (ℕ → ℕ → Bool) → (ℕ → ℕ → Bool) → Type 0
SameMarks s first other = (plane : ℕ) → plane < planes s → SamePlane s.groups first other plane

-- They differ first in this group of a plane, and first in this plane and group. The first set has the mark or lacks it.
pub record DifferInPlane (groups : ℕ) (first other : ℕ → ℕ → Bool) (plane group : ℕ) (first_has : Bool) : Type 0 where
  pub group_in : group < groups
  pub has : first group plane ≡ first_has
  pub has_not : other group plane ≡ not first_has
  pub before : (earlier : ℕ) → earlier < group → other earlier plane ≡ first earlier plane

pub record DifferAt (s : Sizes) (first other : ℕ → ℕ → Bool) (plane group : ℕ) (first_has : Bool) : Type 0 where
  pub plane_in : plane < planes s
  pub here : DifferInPlane s.groups first other plane group first_has
  pub before : (earlier : ℕ) → earlier < plane → SamePlane s.groups first other earlier

-- the marks of an old rank are those of rank 0
abbrev pub HasCommon : Sizes → List (List ℕ) → ℕ → Type 0
HasCommon old files rank = SameMarks old (has_old old files 0) (has_old old files rank)

-- The least rank whose marks differ from those of rank 0, and there the least plane, then group.
pub record FirstDiffers (old : Sizes) (files : List (List ℕ)) (other plane group : ℕ) (first_has : Bool) : Type 0 where
  pub rank_in : other < old.ranks
  pub here : DifferAt old (has_old old files 0) (has_old old files other) plane group first_has
  pub before : (rank : ℕ) → rank < other → HasCommon old files rank

-- the bytes of the sums of a cell
abbrev pub cell_size : Sizes → ℕ
cell_size s = 84 + 4 * length s.thresholds + 32 * s.parameters

-- the bytes of a place of a rank's block in the part of its sums
abbrev pub place_bytes : Sizes → ℕ → List ℕ → (plane place : ℕ) → List ℕ
place_bytes s rank part plane place = take (cell_size s) (drop ((plane * width (block s rank) + place) * cell_size s) part)

-- the bytes of a cell in the part of the old rank whose block has it
abbrev pub bytes_in : Sizes → List (List ℕ) → (plane cell : ℕ) → Option ℕ → List ℕ
bytes_in old parts plane cell None = []
bytes_in old parts plane cell (Some rank) = place_bytes old rank (get_or parts rank []) plane (cell - (block old rank).first)

abbrev pub cell_bytes : Sizes → List (List ℕ) → (plane cell : ℕ) → List ℕ
cell_bytes old parts plane cell = bytes_in old parts plane cell (rank_of old cell)

-- how long the part of an old rank's sums is
abbrev pub part_size : Sizes → ℕ → ℕ
part_size s rank = planes s * width (block s rank) * cell_size s

-- the pieces of the numbers below one, one after the other
abbrev pub pieces_below : (ℕ → List ℕ) → ℕ → List ℕ
pieces_below piece zero = []
pieces_below piece (suc n) = pieces_below piece n ++ piece n

-- the sums of the cells of a new rank's block in a plane, and in all planes
unfoldable pub recut_plane : Sizes → Sizes → List (List ℕ) → (rank plane : ℕ) → List ℕ
recut_plane s old parts rank plane = pieces_below (λ place. cell_bytes old parts plane ((block s rank).first + place)) (width (block s rank))

unfoldable pub recut_part : Sizes → Sizes → List (List ℕ) → ℕ → List ℕ
recut_part s old parts rank = pieces_below (recut_plane s old parts rank) (planes s)

-- Each key that is marked was accepted once, and before that a piece of each other client was kept.
unfoldable pub recut_counts : Sizes → ℕ → List (List ℕ) → Counts
recut_counts s rank marks = taken_counts (sum (marks_of_planes s marks)) (sum (marks_of_planes s marks) * (overlapping s rank - 1))

-- the marks that all old ranks have
unfoldable pub common_marks : Sizes → Sizes → List (List ℕ) → List (List ℕ)
common_marks s old files = marks_of s (is_marked (old_state old files 0).marks)

-- the parts of the sums of all old ranks
unfoldable pub old_parts : Sizes → List (List ℕ) → List (List ℕ)
old_parts old files = map (λ rank. (old_state old files rank).part) (below old.ranks)

-- The state of a new rank: these marks, the sums of its cells, no pending pieces, and the counts of what was accepted.
abbrev pub recut_of : Sizes → Sizes → List (List ℕ) → List (List ℕ) → ℕ → State
recut_of s old marks parts rank = record { counts = recut_counts s rank marks; marks = marks; part = recut_part s old parts rank; pending = [] }

unfoldable pub recut_state : Sizes → Sizes → List (List ℕ) → ℕ → State
recut_state s old files rank = recut_of s old (common_marks s old files) (old_parts old files) rank

-- the list of bytes of a new rank's state, in the version that is written
unfoldable pub recut_bytes : Sizes → Sizes → List (List ℕ) → ℕ → List ℕ
recut_bytes s old files rank = spelled_state 3 s rank (recut_state s old files rank)

-- Lists for all new ranks, where all old ranks have the same marks. Else the first difference.
pub record Recuts (s old : Sizes) (files lists : List (List ℕ)) : Type 0 where
  pub common : (rank : ℕ) → rank < old.ranks → HasCommon old files rank
  pub each : lists ≡ map (recut_bytes s old files) (below s.ranks)

abbrev pub Refuses : Sizes → List (List ℕ) → RecutFault → Type 0
Refuses old files (Differ other plane group first_has) = FirstDiffers old files other plane group first_has
Refuses old files Memory = ⊤
