use Rattle.std.proofs.Common.{◌≡◌, ℕ, ◌+◌, ◌-◌, ◌<◌, ◌≤◌, slice_index}
use Rattle.mls_model.specs.Samples.{shifted}
use Rattle.mls_field.proofs.gathered.gather_pieces.Given as goal

-- the places before the loop's have their values
abbrev pub invariant-loop-from : goal.invariant-loop-from
invariant-loop-from g l = record {
  inside : l.from ≤ l.places;
  small : ((i : ℕ) → slice_index l.fn.samples i ≤ 65535) → (i : ℕ) → slice_index l.samples i ≤ 65535;
  values : (i : ℕ) → i < l.from → slice_index l.samples (l.at + i) ≡ shifted l.signed (g.R.Rows.sample l.rows l.row i);
  before : (j : ℕ) → j < l.at → slice_index l.samples j ≡ slice_index l.fn.samples j;
  behind : (j : ℕ) → l.at + l.from ≤ j → slice_index l.samples j ≡ slice_index l.fn.samples j;
}

-- the loop ends since this falls in each round
abbrev pub decreases-loop-from : goal.decreases-loop-from
decreases-loop-from g l = l.places - l.from
