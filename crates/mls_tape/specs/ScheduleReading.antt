-- How a schedule is read, line by line from the front of the bytes.
use Rattle.std.specs.Prelude.{ℕ, ◌+◌, zero, suc, cond, List, [], ◌∷◌, ◌++◌, length, Option, Some, None, Result, Ok, Err, nat_lt, nat_le}
use Rattle.std.specs.Option.{option_and_then}
use Rattle.mls_model.specs.declared.lanes.SchedWhy.{SchedWhy}
use Rattle.mls_model.specs.declared.lanes.SchedWhy.TheVariants as why
use Rattle.mls_model.specs.Numbers.{times}
use Rattle.mls_model.specs.Lanes.{Lane}
use Rattle.mls_model.specs.Schedules.{event_count, is_lane_of}
use Rattle.mls_text.specs.Fronts.{number_before}
use Rattle.mls_tape.specs.ScheduleLines.{lanes_of, orders_of}

-- the most bytes of a schedule's text
abbrev pub longest_schedule : ℕ
longest_schedule = 268435456

-- the line at the front: a rank, a space, a lane and a newline
unfoldable pub line_in : List ℕ → Option ((ℕ × ℕ) × List ℕ)
line_in bytes = option_and_then (λ (x : ℕ × List ℕ). option_and_then (λ (y : ℕ × List ℕ). Some ((x.0, y.0), y.1)) (number_before 10 x.1)) (number_before 32 bytes)

-- why a line is refused behind lines that pass
unfoldable pub line_refusal : ℕ → List Lane → List (ℕ × ℕ) → ℕ × ℕ → Option SchedWhy
line_refusal ranks lanes before line =
    cond (nat_lt line.0 ranks)
    (cond (is_lane_of lanes line.0 line.1)
    (cond (nat_le (times line.1 (lanes_of (before ++ line ∷ []))) (event_count lanes line.1)) None (Some why.Count))
    (Some why.Lane))
    (Some why.Rank)

-- a line, numbered from 1, with its reason
pub record LineRefusal : Type 0 where
  pub line : ℕ
  pub why : SchedWhy

abbrev pub refused_behind : List (ℕ × ℕ) → SchedWhy → Result (List (ℕ × ℕ)) LineRefusal
refused_behind before reason = Err (record { line = length before + 1; why = reason })

-- the lines that passed and those of the bytes behind them, which are at most so many, or the first that is refused
unfoldable pub lines_from : ℕ → List Lane → ℕ → List (ℕ × ℕ) → List ℕ → Result (List (ℕ × ℕ)) LineRefusal
lines_from ranks lanes most before [] = Ok before
lines_from ranks lanes zero before (b ∷ bytes) = refused_behind before why.Form
lines_from ranks lanes (suc most) before (b ∷ bytes) = elim (line_in (b ∷ bytes)) [
  | None ↦ refused_behind before why.Form
  | Some x ↦ elim (line_refusal ranks lanes before x.0) [ None ↦ lines_from ranks lanes most (before ++ x.0 ∷ []) x.1 | Some reason ↦ refused_behind before reason ]
]

abbrev pub lists_of : ℕ → Result (List (ℕ × ℕ)) LineRefusal → Result (List (List ℕ)) LineRefusal
lists_of ranks (Ok lines) = Ok (orders_of ranks lines)
lists_of ranks (Err refusal) = Err refusal

-- The lists of the schedule that the bytes are, or the first line that is refused. No line is empty.
unfoldable pub schedule_of : ℕ → List Lane → List ℕ → Result (List (List ℕ)) LineRefusal
schedule_of ranks lanes bytes = lists_of ranks (lines_from ranks lanes (length bytes) [] bytes)
