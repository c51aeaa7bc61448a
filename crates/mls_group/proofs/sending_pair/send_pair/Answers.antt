use Rattle.std.proofs.Common.{◌∙◌, ap, arith, length, length-append, Option, Some, subst}
use Rattle.std.proofs.lemmas.Result.{err_from_is_err_and}
use Rattle.mls_wire.specs.Sessions.{hello_bytes, welcomed_bytes, session}
use Rattle.mls_wire.specs.declared.reply.Reply.{Reply}
use Rattle.mls_group.specs.Hearing.{Heard}
use Rattle.mls_group.proofs.Fronts.{sure_more}
use Rattle.mls_group.proofs.Cuts.{hello_stop, hear_stop, welcomed_stop, pair_sent, pair_sure}
use Rattle.mls_group.proofs.sending_pair.send_pair.Goals as goal

pub returns-in_err-send_hello-clause-left : goal.returns-in_err-send_hello-clause-left
unfolding session
returns-in_err-send_hello-clause-left g c =
    let p = err_from_is_err_and c.from_residual.result c.from_residual.ensures.1 in
    rw (p.1, p.2) (hello_stop (hello_bytes c.args.group c.args.life c.args.pair.now) (welcomed_bytes c.args.study.now c.args.group c.args.life c.args.pair.now c.args.last) _ _ _ c.in_err-send_hello.ensures.front)

pub returns-in_err-send_hello-clause-surely : goal.returns-in_err-send_hello-clause-surely
unfolding session
returns-in_err-send_hello-clause-surely g c =
    let h = hello_bytes c.args.group c.args.life c.args.pair.now in
    let w = welcomed_bytes c.args.study.now c.args.group c.args.life c.args.pair.now c.args.last in
    let p = err_from_is_err_and c.from_residual.result c.from_residual.ensures.1 in
    rw (p.1, p.2) (pair_sure _ _ _ _ (sure_more _ (g.L.Link.sure c.args.link.now) (g.L.Link.sure c.args.link.now) 0 (length h) _ (omega arith) (omega (arith, length-append h w)) c.in_err-send_hello.ensures.unsure))

pub returns-in_err-hear-clause-left : goal.returns-in_err-hear-clause-left
unfolding session
returns-in_err-hear-clause-left g c =
    let p = err_from_is_err_and c.from_residual-in_err-hear.result c.from_residual-in_err-hear.ensures.1 in
    rw (p.1, p.2) (hear_stop (hello_bytes c.args.group c.args.life c.args.pair.now) (welcomed_bytes c.args.study.now c.args.group c.args.life c.args.pair.now c.args.last) _ _ _ _ c.in_ok-send_hello.ensures.written c.in_err-hear.ensures.nothing)

pub returns-in_err-send_welcomed-in-Some-Welcome-clause-left :
    goal.returns-in_err-send_welcomed-in-Some-Welcome-clause-left
unfolding session
returns-in_err-send_welcomed-in-Some-Welcome-clause-left g c =
    let p = err_from_is_err_and c.from_residual-in_err-send_welcomed-in-Some-Welcome.result c.from_residual-in_err-send_welcomed-in-Some-Welcome.ensures.1 in
    rw (p.1, p.2) (welcomed_stop (hello_bytes c.args.group c.args.life c.args.pair.now) (welcomed_bytes c.args.study.now c.args.group c.args.life c.args.pair.now c.args.last) _ _ _ _ _ _ c.in_ok-send_hello.ensures.written (subst (λ (r : Option Reply). Heard r (g.L.Link.told c.send_hello.new.link) (g.L.Link.told c.hear.new.link)) (c.in-Some-Welcome.is ∙ ap (λ (r : Reply). Some r) c.in-Some-Welcome.field-0-is) c.in_ok-hear.ensures.heard) c.in_err-send_welcomed-in-Some-Welcome.ensures.front)

pub returns-in_err-send_welcomed-in-Some-Welcome-clause-surely :
    goal.returns-in_err-send_welcomed-in-Some-Welcome-clause-surely
unfolding session
returns-in_err-send_welcomed-in-Some-Welcome-clause-surely g c =
    let h = hello_bytes c.args.group c.args.life c.args.pair.now in
    let w = welcomed_bytes c.args.study.now c.args.group c.args.life c.args.pair.now c.args.last in
    let p = err_from_is_err_and c.from_residual-in_err-send_welcomed-in-Some-Welcome.result c.from_residual-in_err-send_welcomed-in-Some-Welcome.ensures.1 in
    rw (p.1, p.2) (pair_sure _ _ _ _ (sure_more _ _ _ (length h) (length w) _ (omega (arith, c.in_ok-send_hello.ensures.sure, c.in_ok-hear.ensures.sure)) (omega (arith, length-append h w)) c.in_err-send_welcomed-in-Some-Welcome.ensures.unsure))

pub returns-in_ok-send_welcomed-in-Some-Welcome-clause-sent :
    goal.returns-in_ok-send_welcomed-in-Some-Welcome-clause-sent
unfolding session
returns-in_ok-send_welcomed-in-Some-Welcome-clause-sent g c = pair_sent (hello_bytes c.args.group c.args.life c.args.pair.now) (welcomed_bytes c.args.study.now c.args.group c.args.life c.args.pair.now c.args.last) _ _ _ _ _ c.in_ok-send_hello.ensures.written (subst (λ (r : Option Reply). Heard r (g.L.Link.told c.send_hello.new.link) (g.L.Link.told c.hear.new.link)) (c.in-Some-Welcome.is ∙ ap (λ (r : Reply). Some r) c.in-Some-Welcome.field-0-is) c.in_ok-hear.ensures.heard) c.in_ok-send_welcomed-in-Some-Welcome.ensures.written
