use Rattle.std.proofs.Common.{◌≡◌, take}
use Rattle.mls_launch.specs.Rows.{lasts_after, rows_after}
use Rattle.mls_launch.proofs.changes.carry_out_all.Given as goal

abbrev pub invariant-loop-action : goal.invariant-loop-action
invariant-loop-action l = record {
  lasts : l.lasts ≡ lasts_after l.time l.initial.lasts (take l.action-index l.actions);
  rows : l.rows ≡ rows_after l.time l.initial.rows (take l.action-index l.actions);
}
