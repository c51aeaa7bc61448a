use Rattle.std.proofs.Common.{◌+◌, ◌++◌, ◌∙◌, ap, arith, length, append_assoc, length-append}
use Rattle.std.proofs.lemmas.Result.{err_from_is_err_and, on_ok_weaker, on_err_weaker, IfErr-weaker}
use Rattle.mls_model.specs.Frames.{beat, spelling}
use Rattle.mls_wire.specs.Links.{after_write}
use Rattle.mls_wire.specs.Sessions.{pieces_bytes, bye_bytes, welcomed_bytes}
use Rattle.mls_wire.proofs.Sent.{write-write}
use Rattle.mls_group.proofs.Fronts.{front_after, front_more, on_err, sure_more}
use Rattle.mls_group.proofs.texts.send_welcomed.Goals as goal

pub returns-in_err-send_frame-clause-front : goal.returns-in_err-send_frame-clause-front
unfolding welcomed_bytes
returns-in_err-send_frame-clause-front g c = on_err _ _ (front_more _ _ (spelling (beat c.args.group c.args.life)) _ c.in_err-send_frame.ensures.front)

pub returns-in_err-send_frame-clause-unsure : goal.returns-in_err-send_frame-clause-unsure
unfolding welcomed_bytes
returns-in_err-send_frame-clause-unsure g c =
    let b = spelling (beat c.args.group c.args.life) in
    let q = pieces_bytes c.args.study.now c.args.group c.args.life c.args.pair in
    let e = bye_bytes c.args.group c.args.life c.args.last in
    let p = err_from_is_err_and c.from_residual.result c.from_residual.ensures.1 in
    rw (p.1, p.2) (sure_more _ (g.L.Link.sure c.args.link.now) (g.L.Link.sure c.args.link.now) 0 (length b) _ (omega arith) (omega (arith, length-append b (q ++ e))) c.in_err-send_frame.ensures.unsure)

pub returns-in_err-send_steps-clause-front : goal.returns-in_err-send_steps-clause-front
unfolding welcomed_bytes
returns-in_err-send_steps-clause-front g c =
    let q = pieces_bytes c.args.study.now c.args.group c.args.life c.args.pair in
    let e = bye_bytes c.args.group c.args.life c.args.last in
    on_err _ _ (front_after _ _ _ (spelling (beat c.args.group c.args.life)) (q ++ e) c.in_ok-send_frame.ensures.written (front_more _ _ q e c.in_err-send_steps.ensures.front))

pub returns-in_err-send_steps-clause-unsure : goal.returns-in_err-send_steps-clause-unsure
unfolding welcomed_bytes
returns-in_err-send_steps-clause-unsure g c =
    let b = spelling (beat c.args.group c.args.life) in
    let q = pieces_bytes c.args.study.now c.args.group c.args.life c.args.pair in
    let e = bye_bytes c.args.group c.args.life c.args.last in
    let p = err_from_is_err_and c.from_residual-in_err-send_steps.result c.from_residual-in_err-send_steps.ensures.1 in
    rw (p.1, p.2) (sure_more _ _ _ (length b) (length q) _ c.in_ok-send_frame.ensures.sure (omega (arith, length-append b (q ++ e), length-append q e)) c.in_err-send_steps.ensures.unsure)

pub returns-clause-written : goal.returns-clause-written
unfolding welcomed_bytes
returns-clause-written g c =
    let b = spelling (beat c.args.group c.args.life) in
    let q = pieces_bytes c.args.study.now c.args.group c.args.life c.args.pair in
    let e = bye_bytes c.args.group c.args.life c.args.last in
    on_ok_weaker c.send_bye.result (λ w. w ∙ ap (λ o. after_write e o) (c.in_ok-send_steps.ensures.written ∙ ap (λ o. after_write q o) c.in_ok-send_frame.ensures.written)
    ∙ ap (λ o. after_write e o) (write-write (g.L.Link.told c.args.link.now) b q) ∙ write-write (g.L.Link.told c.args.link.now) (b ++ q) e ∙ ap (λ t. after_write t (g.L.Link.told c.args.link.now)) (append_assoc b q e)) c.send_bye.ensures.written

pub returns-clause-front : goal.returns-clause-front
unfolding welcomed_bytes
returns-clause-front g c =
    let b = spelling (beat c.args.group c.args.life) in
    let q = pieces_bytes c.args.study.now c.args.group c.args.life c.args.pair in
    let e = bye_bytes c.args.group c.args.life c.args.last in
    on_err_weaker c.send_bye.result (λ f. front_after _ _ _ b (q ++ e) c.in_ok-send_frame.ensures.written (front_after _ _ _ q e c.in_ok-send_steps.ensures.written f)) c.send_bye.ensures.front

pub returns-clause-sure : goal.returns-clause-sure
unfolding welcomed_bytes
returns-clause-sure g c =
    let b = spelling (beat c.args.group c.args.life) in
    let q = pieces_bytes c.args.study.now c.args.group c.args.life c.args.pair in
    let e = bye_bytes c.args.group c.args.life c.args.last in
    on_ok_weaker c.send_bye.result (λ s. omega (arith, s, c.in_ok-send_steps.ensures.sure, c.in_ok-send_frame.ensures.sure, length-append b (q ++ e), length-append q e)) c.send_bye.ensures.sure

pub returns-clause-unsure : goal.returns-clause-unsure
unfolding welcomed_bytes
returns-clause-unsure g c =
    let b = spelling (beat c.args.group c.args.life) in
    let q = pieces_bytes c.args.study.now c.args.group c.args.life c.args.pair in
    let e = bye_bytes c.args.group c.args.life c.args.last in
    IfErr-weaker c.send_bye.result _ _ (λ why f. sure_more why _ _ (length b + length q) (length e) _ (omega (arith, c.in_ok-send_frame.ensures.sure, c.in_ok-send_steps.ensures.sure)) (omega (arith, length-append b (q ++ e), length-append q e)) f) c.send_bye.ensures.unsure
