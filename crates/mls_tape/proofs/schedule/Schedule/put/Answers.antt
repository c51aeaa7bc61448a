use Rattle.std.proofs.Common.{◌≡◌, length, ap, sym, ◌∙◌, arith}
use Rattle.std.proofs.lemmas.List.{length-map}
use Rattle.mls_tape.proofs.ScheduleText.{texts_all, texts_step, order_seen}
use Rattle.mls_tape.proofs.schedule.Schedule.put.Goals as goal

pub loop-rank-init : goal.loop-rank-init
loop-rank-init c = rw c.new-text.ensures.items (texts_all c.args.self.now)

pub loop-rank-preserved : goal.loop-rank-preserved
loop-rank-preserved c =
    let seen = order_seen c.self.inside.lists.items c.deref-order-items.result.now c.args.self.now c.loop-rank.rank c.order-item.result c.deref-order-items.ensures.value (sym c.self.view_is) (omega (arith, c.loop-rank-test.true)) c.order-item.is in
    let size : length c.deref-order-items.result.now ≡ length c.args.self.now = ap length c.deref-order-items.ensures.value ∙ sym (length-map c.self.inside.lists.items _) ∙ ap length c.self.view_is in
    texts_step c.args.self.now c.loop-rank.rank _ c.loop-rank.text.items c.add_order.new.text.items _ (omega (arith, c.loop-rank-test.true, size)) (seen ∙ sym c.as_slice.ensures.value) c.loop-rank.invariant c.in_ok-add_order.ensures
