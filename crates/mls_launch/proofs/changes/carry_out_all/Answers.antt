use Rattle.std.proofs.Common.{refl, sym, ap, ◌∙◌, get_or}
use Rattle.mls_model.specs.declared.launcher.Action.TheVariants.{Start}
use Rattle.mls_launch.specs.Rows.{lasts_with, rows_with, lasts_after, rows_after}
use Rattle.mls_launch.proofs.RowsAfter.{lasts_after_more, rows_after_more}
use Rattle.mls_launch.proofs.changes.carry_out_all.Goals as goal

pub loop-action-init : goal.loop-action-init
unfolding lasts_after rows_after
loop-action-init c = record { lasts = refl; rows = refl }

pub loop-action-preserved : goal.loop-action-preserved
loop-action-preserved c = record {
  lasts = c.carry_out.ensures.lasts
      ∙ ap (λ ls. lasts_with c.args.time ls (get_or c.args.actions.now c.loop-action.action-index (Start 0 0))) c.loop-action.invariant.lasts
      ∙ sym (lasts_after_more c.args.time c.args.lasts.now c.args.actions.now c.loop-action.action-index (Start 0 0) c.loop-action-test.true);
  rows = c.carry_out.ensures.rows
      ∙ ap (λ rs. rows_with c.args.time rs (get_or c.args.actions.now c.loop-action.action-index (Start 0 0))) c.loop-action.invariant.rows
      ∙ sym (rows_after_more c.args.time c.args.rows.now c.args.actions.now c.loop-action.action-index (Start 0 0) c.loop-action-test.true);
}
