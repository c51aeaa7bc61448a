use Rattle.std.proofs.Common.{◌≡◌, ◌++◌}
use Rattle.mls_launch.specs.Rows.{groups_due}
use Rattle.mls_launch.proofs.deciding.answer_groups.Given as goal

abbrev pub invariant-loop-group : goal.invariant-loop-group
invariant-loop-group l = l.actions.items ≡ l.initial.actions.items ++ groups_due l.silence l.lives l.time l.rows l.group
