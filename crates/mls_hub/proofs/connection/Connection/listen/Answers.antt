use Rattle.std.proofs.Common.{refl, ◌∷◌, []}
use Rattle.mls_hub.proofs.Connecting.{says_more}
use Rattle.mls_hub.proofs.connection.Connection.listen.Goals as goal

pub returns-in-Ready-Some-Event-clause-says : goal.returns-in-Ready-Some-Event-clause-says
returns-in-Ready-Some-Event-clause-says g c = λ s lane given frames says.
    let e = c.in-Ready-Some-Event.ensures in
    let f = c.in-Ready-Some-Event.frame in
    says_more g.L.PollLink s lane given frames (f ∷ []) c.args.self.now (record { stream = c.poll_next.new.self; stage = c.args.self.now.stage; answer = c.args.self.now.answer; written = c.args.self.now.written }) _ c.requires.listens e.reads (rw (c.in-Ready-Some-Event.field-0-is, c.in-Ready-Some-Event.field-0-0-is) at e.given given says.has) refl refl refl says
