-- What survives at a rank under a schedule, and what it counts and keeps.
use Rattle.std.specs.Prelude.{ℕ, List, ℤ}
use Rattle.mls_model.specs.declared.outcomes.Counts.{Counts}
use Rattle.mls_model.specs.Studies.{Study}
use Rattle.mls_model.specs.Lanes.{Lane}
use Rattle.mls_model.specs.Histories.{LaneEvent}
use Rattle.mls_model.specs.Survival.{surviving}
use Rattle.mls_model.specs.ResultText.{histories_of, history_rows, history_counts}

-- the surviving events of a rank
abbrev pub survivors : List Lane → List (List ℕ) → ℕ → List LaneEvent
survivors lanes orders rank = surviving (histories_of lanes orders rank)

-- the rows of a plane and cell
abbrev pub rows_of : Study → List Lane → List (List ℕ) → ℕ → ℕ → List (List ℤ)
rows_of study lanes orders = history_rows study.sizes (histories_of lanes orders)

-- the counts of the ranks
abbrev pub counts_of : Study → List Lane → List (List ℕ) → List Counts
counts_of study lanes orders = history_counts study.sizes (histories_of lanes orders)
