use Rattle.std.proofs.Common.{◌≡◌, ℕ, ◌≤◌, List, slice_index}
use Rattle.mls_field.specs.OutputSteps.{numbers_step}
use Rattle.mls_field.specs.OneCell.{Stepped}
use Rattle.mls_field.proofs.cells.add_pair_to_numbers.Given as goal

abbrev pub invariant-loop-c : goal.invariant-loop-c
invariant-loop-c l = record {
  done : (row : List ℕ) → slice_index row 0 ≡ l.a → slice_index row 1 ≡ l.b → Stepped (numbers_step l.shape.thresholds) l.c row l.fn.numbers l.numbers;
  rest : (c : ℕ) → l.c ≤ c → slice_index l.numbers c ≡ slice_index l.fn.numbers c;
}
