use Rattle.std.proofs.Common.{get_or, refl, sym, ◌∙◌, ap, [], ◌∷◌, ◌++◌}
use Rattle.mls_launch.specs.declared.group_state.GroupState.TheVariants.{Waiting}
use Rattle.mls_launch.proofs.Chosen.{groups_due_none, groups_due_true, groups_due_false, none_due, one_due, same_due}
use Rattle.mls_launch.proofs.deciding.answer_groups.Goals as goal
use Rattle.mls_launch.proofs.deciding.answer_groups.Goals.{then-is_due+in_ok-push, else-is_due}

pub loop-group-init : goal.loop-group-init
loop-group-init c = none_due _ _ (groups_due_none c.args.silence c.args.lives c.args.time c.args.rows.now)

pub loop-group-preserved : goal.loop-group-preserved
loop-group-preserved c = elim c.if-is_due.branch [
  | then-is_due+in_ok-push w ↦
      rw w.actions-is (one_due _ _ _ _ _ _ c.loop-group.invariant
      (w.in_ok-push.ensures.items ∙ ap (λ a. c.loop-group.actions.items ++ a ∷ []) w.answer.ensures)
      (groups_due_true c.args.silence c.args.lives c.args.time c.args.rows.now c.loop-group.group (get_or c.args.rows.now c.loop-group.group Waiting) refl (sym c.is_due.ensures ∙ w.if-is_due.true)))
  | else-is_due w ↦
      rw w.actions-is (same_due _ _ _ _ c.loop-group.invariant
      (groups_due_false c.args.silence c.args.lives c.args.time c.args.rows.now c.loop-group.group (get_or c.args.rows.now c.loop-group.group Waiting) refl (sym c.is_due.ensures ∙ w.if-is_due.false)))
]
