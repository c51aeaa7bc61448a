use Rattle.std.proofs.Common.{◌≡◌, ℕ, ◌+◌, ◌-◌, ◌*◌, ◌<◌, ◌≤◌, slice_index}
use Rattle.mls_ckpt.specs.Reading.{many}
use Rattle.mls_ckpt.specs.States.{after_one}
use Rattle.mls_ckpt.specs.Places.{cursor_of}
use Rattle.mls_ckpt.specs.CellParts.{column_at}
use Rattle.mls_cov.specs.Rules.{KeepsColumn}
use Rattle.mls_field.specs.Answered.{before}
use Rattle.mls_field.specs.Taken.{totals_of, columns_in, HoldOutputs}
use Rattle.mls_field.proofs.taken.take_columns.Given as goal

-- the columns so far were read and stand at their places
abbrev pub invariant-loop-k : goal.invariant-loop-k
invariant-loop-k l = record {
  read : before (columns_in l.sums l.k) (many (λ i from. column_at l.n (totals_of l.outputs) from) after_one (l.parameters - l.k) l.k (cursor_of l.from)) ≡ many (λ i from. column_at l.n (totals_of l.outputs) from) after_one l.parameters 0 (cursor_of l.fn.from);
  rules : (k : ℕ) → k < l.k → KeepsColumn l.n k l.sums;
  outputs : HoldOutputs l.outputs l.sums;
  beyond : (i : ℕ) → 4 + 4 * l.parameters ≤ i → slice_index l.sums i ≡ slice_index l.fn.sums i;
}
