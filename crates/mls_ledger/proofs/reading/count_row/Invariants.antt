use Rattle.std.proofs.Common.{◌≡◌, ◌≤◌}
use Rattle.std.specs.Prelude.{count_by}
use Rattle.mls_model.specs.Numbers.{below}
use Rattle.mls_ckpt.specs.States.{is_set}
use Rattle.mls_ledger.proofs.reading.count_row.Given as goal

abbrev pub invariant-loop-group : goal.invariant-loop-group
invariant-loop-group l = (l.count ≡ count_by (is_set l.row) (below l.group)) × (l.count ≤ l.group)
