use Rattle.std.proofs.Common.{◌≡◌, ◌+◌, ◌≤◌, length, OnOk, OnErr, IfErr, List, ℕ, subst}
use Rattle.mls_wire.specs.Links.{SentFront, after_write}
use Rattle.mls_group.specs.Faults.{SureStop}
use Rattle.mls_group.proofs.Fronts.{bye_last, no_bye, write_none}
use Rattle.mls_group.proofs.texts.send_bye.Goals as goal

pub returns-then-not-last-clause-written : goal.returns-then-not-last-clause-written
returns-then-not-last-clause-written g c = write_none _ _ (no_bye c.args.group c.args.life c.args.last c.if-not-last.true)

pub returns-clause-written : goal.returns-clause-written
returns-clause-written g c = subst (λ (text : List ℕ). OnOk c.send_frame.result (g.L.Link.told c.send_frame.new.link ≡ after_write text (g.L.Link.told c.args.link.now))) (bye_last c.args.group c.args.life c.args.last c.if-not-last.false) c.send_frame.ensures.written

pub returns-clause-front : goal.returns-clause-front
returns-clause-front g c = subst (λ (text : List ℕ). OnErr c.send_frame.result (SentFront (g.L.Link.told c.args.link.now) (g.L.Link.told c.send_frame.new.link) text)) (bye_last c.args.group c.args.life c.args.last c.if-not-last.false) c.send_frame.ensures.front

pub returns-clause-sure : goal.returns-clause-sure
returns-clause-sure g c = subst (λ (text : List ℕ). OnOk c.send_frame.result (g.L.Link.sure c.args.link.now ≤ g.L.Link.sure c.send_frame.new.link + length text)) (bye_last c.args.group c.args.life c.args.last c.if-not-last.false) c.send_frame.ensures.sure

pub returns-clause-unsure : goal.returns-clause-unsure
returns-clause-unsure g c = subst (λ (text : List ℕ). IfErr c.send_frame.result (λ stop. SureStop stop (g.L.Link.sure c.args.link.now) (length text))) (bye_last c.args.group c.args.life c.args.last c.if-not-last.false) c.send_frame.ensures.unsure
