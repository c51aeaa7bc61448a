use Rattle.std.proofs.Common.{◌≡◌, ℕ, ◌+◌, ◌*◌, ◌<◌, ◌≤◌, slice_index}
use Rattle.mls_model.specs.Samples.{shifted}
use Rattle.mls_field.proofs.gathered.gather.Given as goal

-- the rows before the loop's have their values
abbrev pub invariant-loop-row : goal.invariant-loop-row
invariant-loop-row g l = record {
  small : ((i : ℕ) → slice_index l.fn.samples i ≤ 65535) → (i : ℕ) → slice_index l.samples i ≤ 65535;
  values : (r i : ℕ) → r < l.row → i < g.R.Rows.place_count l.rows → slice_index l.samples (l.start + r * g.R.Rows.place_count l.rows + i) ≡ shifted l.signed (g.R.Rows.sample l.rows r i);
  before : (j : ℕ) → j < l.start → slice_index l.samples j ≡ slice_index l.fn.samples j;
  behind : (j : ℕ) → l.start + l.row * g.R.Rows.place_count l.rows ≤ j → slice_index l.samples j ≡ slice_index l.fn.samples j;
}
