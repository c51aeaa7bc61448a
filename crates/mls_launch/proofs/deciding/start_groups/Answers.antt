use Rattle.std.proofs.Common.{refl, sym, ◌∙◌, inl, inr}
use Rattle.mls_launch.proofs.Chosen.{started_none, started_one, started_same}
use Rattle.mls_launch.proofs.deciding.start_groups.Goals as goal
use Rattle.mls_launch.proofs.deciding.start_groups.Goals.{then-running-slots+then-is_waiting+in_ok-push, else-running-slots, else-running-slots-via-then-running-slots+else-is_waiting, else-running-slots-via-else-running-slots}

pub loop-group-init : goal.loop-group-init
loop-group-init c = started_none c.args.slots c.args.running c.args.rows.now c.args.actions.now.items

pub loop-group-preserved : goal.loop-group-preserved
loop-group-preserved c = elim c.if-running-slots.branch [
  | then-running-slots+then-is_waiting+in_ok-push w ↦
      rw (w.actions-is, w.running-is) (started_one _ _ _ _ _ _ _ _ _ c.loop-group.invariant (sym w.is_waiting.ensures ∙ w.if-is_waiting.true) w.if-running-slots.true w.in_ok-push.ensures.items refl)
  | else-running-slots w ↦
      rw (w.actions-is, w.running-is) (started_same _ _ _ _ _ _ _ c.loop-group.invariant (elim w.else-running-slots.branch [
        | else-running-slots-via-then-running-slots+else-is_waiting w' ↦ inl (sym w'.is_waiting.ensures ∙ w'.if-is_waiting.false)
        | else-running-slots-via-else-running-slots w' ↦ inr w'.if-running-slots.false
      ]))
]
