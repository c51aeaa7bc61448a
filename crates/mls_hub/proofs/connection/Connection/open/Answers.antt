use Rattle.std.proofs.Common.{refl, sym, ◌≤◌, subst, ◌∷◌, [], ◌++◌}
use Rattle.mls_poll.specs.Streams.{StreamView, HasGiven}
use Rattle.mls_hub.proofs.connection.Connection.open.Goals as goal

pub returns-in-Ok-clause-settled : goal.returns-in-Ok-clause-settled
returns-in-Ok-clause-settled g c = record {
  later = subst (λ (v : StreamView g.row.L.Denot). g.L.PollLink.waits c.args.self.now.stream.link ≤ g.L.PollLink.waits v.link) (sym c.greet.ensures.stream) c.in-Frame.ensures.later;
  more = c.in-Frame.frame ∷ [];
  count = refl;
  gave = λ given has. subst (λ (v : StreamView g.row.L.Denot). HasGiven (g.L.PollLink.told v.link) v.offset v.held (given ++ c.in-Frame.frame ∷ [])) (sym c.greet.ensures.stream) (c.in-Frame.ensures.gave given has);
}
