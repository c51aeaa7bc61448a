use Rattle.std.proofs.Common.{refl, ◌∙◌, ap}
use Rattle.mls_model.specs.Frames.{Frame}
use Rattle.mls_wire.specs.Sessions.{greeting}
use Rattle.mls_hub.proofs.Connecting.{says_greeted}
use Rattle.mls_hub.proofs.connection.Connection.greet.Goals as goal

pub returns-in-Ok-clause-says : goal.returns-in-Ok-clause-says
returns-in-Ok-clause-says g c = λ given says.
    says_greeted g.L.PollLink c.args.shape.now c.args.lane given c.args.frame.now c.args.self.now _ c.greet-greeting.result c.requires (c.greet-greeting.ensures.exact ∙ ap (λ (f : Frame). greeting c.args.shape.now f) c.view.ensures.frame) refl c.in-Ok.ensures refl refl says
