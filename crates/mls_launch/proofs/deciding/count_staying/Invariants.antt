use Rattle.std.proofs.Common.{◌≡◌, ◌≤◌}
use Rattle.mls_launch.specs.Rows.{staying}
use Rattle.mls_launch.proofs.deciding.count_staying.Given as goal

abbrev pub invariant-loop-row : goal.invariant-loop-row
invariant-loop-row l = record { counted : l.count ≡ staying l.silence l.lives l.time l.rows l.row-index; within : l.count ≤ l.row-index }
