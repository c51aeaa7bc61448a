use Rattle.std.proofs.Common.{◌≡◌, ℕ, ◌+◌, ◌<◌, ◌≤◌, slice_index}
use Rattle.mls_model.specs.Samples.{shifted}
use Rattle.mls_hist.proofs.adding.gather_row.Given as goal

-- the places before the loop's have their values
abbrev pub invariant-loop-place : goal.invariant-loop-place
invariant-loop-place g l = record {
  small : ((i : ℕ) → slice_index l.fn.samples i ≤ 65535) → (i : ℕ) → slice_index l.samples i ≤ 65535;
  values : (i : ℕ) → i < l.place → slice_index l.samples (l.at + i) ≡ shifted l.signed (g.R.Rows.sample l.rows l.row i);
  before : (j : ℕ) → j < l.at → slice_index l.samples j ≡ slice_index l.fn.samples j;
  behind : (j : ℕ) → l.at + l.place ≤ j → slice_index l.samples j ≡ slice_index l.fn.samples j;
}
