use Rattle.std.proofs.Common.{◌≡◌, ℕ, ◌+◌, ◌*◌, ◌<◌, ◌≤◌, List, slice_index}
use Rattle.mls_field.specs.OutputSteps.{numbers_step}
use Rattle.mls_field.proofs.copied.add_row_to_numbers.Given as goal

abbrev pub invariant-loop-c : goal.invariant-loop-c
invariant-loop-c l = record {
  done : (k : ℕ) (row : List ℕ) → k < l.count → slice_index row 0 ≡ slice_index l.samples (l.a + k) → slice_index row 1 ≡ slice_index l.samples (l.b + k) → (d : ℕ) → d < l.c → slice_index l.numbers (d * 64 + k) ≡ numbers_step l.shape.thresholds d row (slice_index l.fn.numbers (d * 64 + k));
  rest : (i : ℕ) → l.c * 64 ≤ i → slice_index l.numbers i ≡ slice_index l.fn.numbers i;
}
