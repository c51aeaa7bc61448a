use Rattle.std.proofs.Common.{refl, ◌∙◌, ap, ℕ}
use Rattle.mls_hub.specs.Connections.{stage_after}
use Rattle.mls_hub.proofs.Connecting.{says_replied}
use Rattle.mls_hub.proofs.connection.Connection.reply.Goals as goal

pub returns-in-Ready-Ok-clause-says : goal.returns-in-Ready-Ok-clause-says
returns-in-Ready-Ok-clause-says g c = λ s lane given frames says.
    let greeting = c.in-Answering.greeting in
    says_replied g.L.PollLink s lane given frames c.args.self.now c.write_answer.new.self _ greeting c.in-Answering.is c.in-Ready-Ok.ensures.wrote (rw c.in-Ready-Ok.field-0-is at c.in-Ready-Ok.ensures.whole) refl (c.after_answer-self.ensures ∙ ap (λ (n : ℕ). stage_after greeting n) c.offset.ensures) refl refl says
