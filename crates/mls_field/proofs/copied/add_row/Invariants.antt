use Rattle.std.proofs.Common.{◌≡◌, ℕ, ◌+◌, ◌*◌, ◌<◌, ◌≤◌, List, slice_index}
use Rattle.mls_field.specs.ColumnSums.{sums_size, sums_step}
use Rattle.mls_field.specs.Copied.{copied}
use Rattle.mls_field.specs.OneCell.{IsRowAt, Stepped}
use Rattle.mls_field.proofs.copied.add_row.Given as goal

-- the sums of A and B and of k parameters have the row, the others are as they were
abbrev pub invariant-loop-k : goal.invariant-loop-k
invariant-loop-k l = record {
  done : (i : ℕ) (row : List ℕ) → i < l.count → IsRowAt (l.parameters + 2) l.places (l.at + i) l.samples row → Stepped (sums_step l.parameters) (4 + 4 * l.k) row (copied (sums_size l.parameters) l.fn.sums i) (copied (sums_size l.parameters) l.sums i);
  rest : (i : ℕ) → (4 + 4 * l.k) * 64 ≤ i → slice_index l.sums i ≡ slice_index l.fn.sums i;
}
