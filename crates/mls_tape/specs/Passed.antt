-- What is kept of the lines that passed.
use Rattle.std.specs.Prelude.{◌≡◌, ℕ, ◌<◌, List, length, map, get_or}
use Rattle.std.specs.Global.{Vec}
use Rattle.mls_model.specs.Numbers.{times}
use Rattle.mls_tape.specs.declared.lines.Passed.{Passed}
use Rattle.mls_tape.specs.ScheduleLines.{lanes_of, orders_of}

-- each rank's list, seen without the memory that it lies in
abbrev pub lists_seen : List (Vec ℕ) → List (List ℕ)
lists_seen lists = map (λ (v : Vec ℕ). v.items) lists

-- The lists are those of the lines, and each lane is counted as often as it stands in them.
pub record StandsFor (ranks lanes : ℕ) (passed : Passed) (lines : List (ℕ × ℕ)) : Type 0 where
  pub lists : lists_seen passed.lists.items ≡ orders_of ranks lines
  pub size : length passed.counts.items ≡ lanes
  pub each : (k : ℕ) → k < lanes → get_or passed.counts.items k 0 ≡ times k (lanes_of lines)
