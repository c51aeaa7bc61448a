use Rattle.std.proofs.Common.{take, subst, sym}
use Rattle.mls_poll.specs.Streams.{HasGiven}
use Rattle.mls_poll.proofs.Going.{given_write}
use Rattle.mls_poll.proofs.stream.FrameStream.poll_write.Goals as goal

pub returns-clause-given : goal.returns-clause-given
returns-clause-given g c = λ fs h.
    given_write c.poll_write.result (λ n. take n c.args.piece.now) _ _ c.self.inside.offset c.self.inside.held.items fs c.poll_write.ensures.written c.poll_write.ensures.ceased c.poll_write.ensures.still
    (subst (λ v. HasGiven (g.L.PollLink.told v.link) v.offset v.held fs) (sym c.self.view_is) h)
