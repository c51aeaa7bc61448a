use Rattle.std.proofs.Common.{◌≡◌, ℕ, ◌+◌, ◌<◌, ◌≤◌, slice_index}
use Rattle.mls_model.specs.Samples.{shifted}
use Rattle.mls_field.proofs.gathered.read_piece.Given as goal

-- the places before the loop's have their values
abbrev pub invariant-loop-place : goal.invariant-loop-place
invariant-loop-place g l = record {
  small : (k : ℕ) → k < l.place → slice_index l.piece k ≤ 65535;
  values : (k : ℕ) → k < l.place → slice_index l.piece k ≡ shifted l.signed (g.R.Rows.sample l.rows l.row (l.from + k));
}
