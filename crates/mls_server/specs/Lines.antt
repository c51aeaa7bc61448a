-- The lines of the lanes that a server served.
use Rattle.std.specs.Prelude.{◌≡◌, ℕ, ◌+◌, ◌<◌, ◌≤◌, List, Option, Some}
use Rattle.mls_model.specs.Numbers.{element}
use Rattle.mls_model.specs.declared.lanes.LaneKind.TheVariants as kinds
use Rattle.mls_model.specs.declared.lanes.LaneLine.{LaneLine}

-- the line of this client lane, which is for one of the ranks
pub record IsLineOf (ranks lane : ℕ) (line : LaneLine) : Type 0 where
  pub own : line.lane ≡ lane
  pub client : line.kind ≡ kinds.Client
  pub rank_in : line.rank < ranks

-- The lines of client lanes below a number, in strictly rising number. The first numbers are those of the ranks' control lanes.
pub record AreLines (ranks end : ℕ) (lines : List LaneLine) : Type 0 where
  pub each : (i : ℕ) (line : LaneLine) → element lines i ≡ Some line → IsLineOf ranks line.lane line
  pub client : (i : ℕ) (line : LaneLine) → element lines i ≡ Some line → ranks ≤ line.lane
  pub within : (i : ℕ) (line : LaneLine) → element lines i ≡ Some line → line.lane < end
  pub rising : (i j : ℕ) (first second : LaneLine) → i < j → element lines i ≡ Some first → element lines j ≡ Some second → first.lane < second.lane

-- each line that stands at a place is that of the place's lane
abbrev pub ArePlaced : (ranks : ℕ) → List (Option LaneLine) → Type 0
ArePlaced ranks places = (i : ℕ) (line : LaneLine) → element places i ≡ Some (Some line) → IsLineOf ranks (ranks + i) line
