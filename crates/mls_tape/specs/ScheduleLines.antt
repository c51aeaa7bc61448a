-- The lines of a schedule, a rank and a lane each: their text, the lists that they make, and which of them is refused.
use Rattle.std.specs.Prelude.{◌≡◌, ℕ, ◌+◌, ◌^◌, ◌<◌, ◌≤◌, true, false, cond, List, [], ◌∷◌, ◌++◌, length, map, ◌==◌}
use Rattle.std.specs.List.{flat_map, AllByRecursion}
use Rattle.mls_model.specs.declared.lanes.SchedWhy.{SchedWhy}
use Rattle.mls_model.specs.declared.lanes.SchedWhy.TheVariants as why
use Rattle.mls_model.specs.Numbers.{below, times}
use Rattle.mls_model.specs.Lanes.{Lane}
use Rattle.mls_model.specs.Schedules.{event_count, is_lane_of, schedule_line}

-- the text of lines
unfoldable pub lines_text : List (ℕ × ℕ) → List ℕ
lines_text lines = flat_map (λ (line : ℕ × ℕ). schedule_line line.0 line.1) lines

-- the lanes of the lines
abbrev pub lanes_of : List (ℕ × ℕ) → List ℕ
lanes_of lines = map (λ (line : ℕ × ℕ). line.1) lines

-- a rank's list: the lanes of its lines in order
abbrev pub order_of : ℕ → List (ℕ × ℕ) → List ℕ
order_of rank lines = flat_map (λ (line : ℕ × ℕ). cond (line.0 == rank) (line.1 ∷ []) []) lines

-- the list of each rank
unfoldable pub orders_of : ℕ → List (ℕ × ℕ) → List (List ℕ)
orders_of ranks lines = map (λ (rank : ℕ). order_of rank lines) (below ranks)

-- Lines that all pass: the rank is one, the lane is of the rank, and none stands oftener than it has events.
pub record AreLegalLines (ranks : ℕ) (lanes : List Lane) (lines : List (ℕ × ℕ)) : Type 0 where
  pub own : AllByRecursion (λ (line : ℕ × ℕ). (line.0 < ranks) × (is_lane_of lanes line.0 line.1 ≡ true)) lines
  pub counts : (k : ℕ) → times k (lanes_of lines) ≤ event_count lanes k

-- The bytes are lines that pass, and the lists are theirs.
pub record IsScheduleOf (ranks : ℕ) (lanes : List Lane) (bytes : List ℕ) (orders : List (List ℕ)) : Type 0 where
  pub lines : List (ℕ × ℕ)
  pub is_text : bytes ≡ lines_text lines
  pub legal : AreLegalLines ranks lanes lines
  pub orders_are : orders ≡ orders_of ranks lines

-- The bytes begin with a line.
pub record BeginsWith (bytes : List ℕ) (line : ℕ × ℕ) : Type 0 where
  pub after : List ℕ
  pub is_text : bytes ≡ schedule_line line.0 line.1 ++ after
  pub rank_fits : line.0 < 2 ^ 32
  pub lane_fits : line.1 < 2 ^ 32

-- Why a line is refused behind lines that pass: the first of these that holds.
abbrev pub LineFails : ℕ → List Lane → List (ℕ × ℕ) → ℕ × ℕ → SchedWhy → Type 0
LineFails ranks lanes before line why.Form = ⊥
LineFails ranks lanes before line why.Rank = ranks ≤ line.0
LineFails ranks lanes before line why.Lane = (line.0 < ranks) × (is_lane_of lanes line.0 line.1 ≡ false)
LineFails ranks lanes before line why.Count = (line.0 < ranks) × (is_lane_of lanes line.0 line.1 ≡ true) × (event_count lanes line.1 < times line.1 (lanes_of (before ++ line ∷ [])))

-- Why the bytes behind lines that pass are refused: they begin with no line, or with a line that fails.
abbrev pub Fails : ℕ → List Lane → List (ℕ × ℕ) → List ℕ → SchedWhy → Type 0
Fails ranks lanes before rest why.Form = (line : ℕ × ℕ) → BeginsWith rest line → ⊥
Fails ranks lanes before rest why.Rank = (line : ℕ × ℕ) × BeginsWith rest line × LineFails ranks lanes before line why.Rank
Fails ranks lanes before rest why.Lane = (line : ℕ × ℕ) × BeginsWith rest line × LineFails ranks lanes before line why.Lane
Fails ranks lanes before rest why.Count = (line : ℕ × ℕ) × BeginsWith rest line × LineFails ranks lanes before line why.Count

-- The bytes are lines that pass up to a line, numbered from 1, that is refused.
pub record IsRefusedAt (ranks : ℕ) (lanes : List Lane) (bytes : List ℕ) (line : ℕ) (reason : SchedWhy) : Type 0 where
  pub before : List (ℕ × ℕ)
  pub rest : List ℕ
  pub is_text : bytes ≡ lines_text before ++ rest
  pub legal : AreLegalLines ranks lanes before
  pub line_is : line ≡ length before + 1
  pub some : 0 < length rest
  pub fails : Fails ranks lanes before rest reason
