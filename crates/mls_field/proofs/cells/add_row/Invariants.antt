use Rattle.std.proofs.Common.{◌≡◌, ℕ, ◌+◌, ◌*◌, ◌≤◌, List, slice_index}
use Rattle.mls_field.specs.ColumnSums.{sums_step}
use Rattle.mls_field.specs.OneCell.{IsRowAt, Stepped}
use Rattle.mls_field.proofs.cells.add_row.Given as goal

-- the sums of A and B and of k parameters have the row, the others are as they were
abbrev pub invariant-loop-k : goal.invariant-loop-k
invariant-loop-k l = record {
  done : (row : List ℕ) → IsRowAt (l.parameters + 2) l.places l.at l.samples row → Stepped (sums_step l.parameters) (4 + 4 * l.k) row l.fn.sums l.sums;
  rest : (c : ℕ) → 4 + 4 * l.k ≤ c → slice_index l.sums c ≡ slice_index l.fn.sums c;
}
