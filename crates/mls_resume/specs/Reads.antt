-- What is read of the old ranks' files, and what contracts see of lists of bytes.
use Rattle.std.specs.Prelude.{◌≡◌, ℕ, ◌<◌, List, [], map, length, get_or}
use Rattle.std.specs.Global.{Vec}
use Rattle.mls_model.specs.Numbers.{below}
use Rattle.mls_model.specs.Studies.{Sizes, planes}
use Rattle.mls_ckpt.specs.States.{IsState}
use Rattle.mls_ckpt.specs.CellParts.{IsSumsPart}
use Rattle.mls_ledger.specs.MarkSets.{MarkSet, is_marked}
use Rattle.mls_resume.specs.Recut.{old_state, has_old, HasCommon, part_size}

-- the bytes of each list
abbrev pub lists_of : List (Vec ℕ) → List (List ℕ)
lists_of lists = map (λ v. v.items) lists

-- a set of keys of a study is the marks of the first old rank
pub record AreFirst (old : Sizes) (files : List (List ℕ)) (marks : MarkSet) : Type 0 where
  pub of_groups : marks.groups ≡ old.groups
  pub of_planes : marks.planes ≡ planes old
  pub same : (group plane : ℕ) → group < old.groups → plane < planes old → is_marked marks group plane ≡ has_old old files 0 group plane

-- the parts of the first old ranks, whose marks are the same
pub record AreRead (old : Sizes) (files : List (List ℕ)) (ranks : ℕ) (parts : List (List ℕ)) : Type 0 where
  pub each : parts ≡ map (λ rank. (old_state old files rank).part) (below ranks)
  pub long : (rank : ℕ) → rank < ranks → length (old_state old files rank).part ≡ part_size old rank
  pub valid : (rank : ℕ) → rank < ranks → IsState IsSumsPart old rank (old_state old files rank)
  pub common : (rank : ℕ) → rank < ranks → HasCommon old files rank

-- the part of each old rank's sums has its length
pub record AreLong (old : Sizes) (parts : List (List ℕ)) : Type 0 where
  pub one_each : length parts ≡ old.ranks
  pub long : (rank : ℕ) → rank < old.ranks → length (get_or parts rank []) ≡ part_size old rank
