use Rattle.std.proofs.Common.{◌∙◌, ap, sym}
use Rattle.mls_wire.specs.Doors.{after_close}
use Rattle.mls_group.proofs.Fronts.{on_ok}
use Rattle.mls_group.proofs.Closing.{link_left}
use Rattle.mls_group.proofs.sending_group.send_link.Goals as goal

pub returns-in-Err-sent-clause-left : goal.returns-in-Err-sent-clause-left
returns-in-Err-sent-clause-left g c =
    let closed = on_ok c.close.result _ (sym c.is_err.ensures.value ∙ c.if-is_err.false) c.close.ensures.closed in
    rw c.from.ensures (link_left c.in-Err-sent.fault c.args.study.now c.args.group c.args.life c.args.pair.now c.args.last (g.D.Door.closed c.args.door.now) (g.D.Door.closed c.close.new.self) (g.D.L.Link.told c.in-Ok.link) (g.D.L.Link.told c.send_pair-sent.new.link) (g.D.L.Link.faults c.in-Ok.link) (g.D.L.Link.faults c.send_pair-sent.new.link)
    c.in-Ok.ensures.fresh c.in-Ok.ensures.tells c.in-Err-sent.ensures.left c.in-Err-sent.ensures.faults
    (closed ∙ ap (λ d. after_close d (g.D.L.Link.told c.send_pair-sent.new.link) (g.D.L.Link.faults c.send_pair-sent.new.link)) c.in-Ok.ensures.closed))
