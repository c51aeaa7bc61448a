-- The three kinds of numbers of a cell.
use Rattle.std.proofs.Common.{◌≡◌, ℕ, ◌+◌, List, length, ◌∙◌, arith}
use Rattle.std.specs.Prelude.{IsTrue}
use Rattle.mls_model.specs.Studies.{rises}
use Rattle.mls_field.specs.Cells.{with_row}
use Rattle.mls_field.specs.ColumnSums.{sums_size, sums_step}
use Rattle.mls_field.specs.OutputSteps.{ends_step, numbers_step}
use Rattle.mls_field.specs.Kinds.{SumsWithin, HoldSums, ExtremaWithin, HoldExtrema, NumbersWithin, HoldNumbers}
use Rattle.mls_field.proofs.ColumnPlaces.{StepsSums}
use Rattle.mls_field.proofs.OneRow.{sums_within, sums_hold, StepsEnds, ends_within, ends_hold, StepsNumbers, numbers_within, numbers_hold}
use Rattle.mls_field.proofs.WholeCells.{IsKind, length-with_row, entry-with_row}

sums_steps : (p : ℕ) (cell row : List ℕ) → length cell ≡ sums_size p → StepsSums p cell (with_row (sums_step p) row cell) row
sums_steps p cell row long = record { each = λ c h. entry-with_row (sums_step p) row cell c (omega (arith, h, long)) }

pub sums_kind : (p : ℕ) → IsKind (SumsWithin p) (HoldSums p) (sums_step p) (sums_size p) (p + 2)
sums_kind p = record {
  more = λ m cell row long is h. sums_within m p cell _ row (sums_steps p cell row long) is.small h;
  adds = λ cell row long is rows h. sums_hold p cell _ row (sums_steps p cell row long) is.small is.long rows h;
}

ends_steps : (cell row : List ℕ) → length cell ≡ 2 → StepsEnds cell (with_row ends_step row cell) row
ends_steps cell row long = record { least = entry-with_row ends_step row cell 0 (omega (arith, long)); greatest = entry-with_row ends_step row cell 1 (omega (arith, long)) }

pub ends_kind : (n : ℕ) → IsKind ExtremaWithin HoldExtrema ends_step 2 n
ends_kind n = record {
  more = λ m cell row long is h. ends_within m cell _ row (ends_steps cell row long) is.small h;
  adds = λ cell row long is rows h. ends_hold cell _ row (ends_steps cell row long) is.small rows h;
}

numbers_steps : (ts cell row : List ℕ) → IsTrue (rises ts) → length cell ≡ length ts → StepsNumbers ts cell (with_row (numbers_step ts) row cell) row
numbers_steps ts cell row rises long = record {
  rises = rises;
  each = λ c h. entry-with_row (numbers_step ts) row cell c (omega (arith, h, long));
  long = long;
  long' = length-with_row (numbers_step ts) row cell ∙ long;
}

pub numbers_kind : (ts : List ℕ) (n : ℕ) → IsTrue (rises ts) → IsKind NumbersWithin (HoldNumbers ts) (numbers_step ts) (length ts) n
numbers_kind ts n rises = record {
  more = λ m cell row long is h. numbers_within m ts cell _ row (numbers_steps ts cell row rises long) h;
  adds = λ cell row long is rows h. numbers_hold ts cell _ row (numbers_steps ts cell row rises long) rows h;
}
