use Rattle.std.proofs.Common.{◌≡◌, ℕ, ◌≤◌}
use Rattle.mls_field.specs.Stands.{shape_of, rank_of, row_count}
use Rattle.tests_of_sums.proofs.field.add_nine_times.Given as goal

abbrev pub invariant-loop-time : goal.invariant-loop-time
invariant-loop-time l = record {
  shape : shape_of l.field ≡ l.shape;
  rank : rank_of l.field ≡ 0;
  few : (plane : ℕ) → row_count l.field plane ≤ l._time;
}
