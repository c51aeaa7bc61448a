use Rattle.std.proofs.Common.{ap, ◌∙◌}
use Rattle.mls_hub.specs.Connections.{is_live}
use Rattle.mls_hub.proofs.connection.Connection.settle.Goals as goal

pub open-requires-clause-open : goal.open-requires-clause-open
open-requires-clause-open g c = c.reply.ensures.ended ∙ c.requires.live (c.reply.ensures.live (ap is_live c.in-Opening.is))

pub returns-in-Opening-clause-kept : goal.returns-in-Opening-clause-kept
returns-in-Opening-clause-kept g c = λ frames con. c.open.ensures.kept frames (record {
  given = con.given;
  says = c.reply.ensures.says c.args.shape.now c.args.lane con.given frames con.says;
  live = λ l. c.reply.ensures.ended ∙ con.live (c.reply.ensures.live l);
})

pub returns-in-Lane-clause-kept : goal.returns-in-Lane-clause-kept
returns-in-Lane-clause-kept g c = λ frames con. record {
  given = con.given;
  says = c.reply.ensures.says c.args.shape.now c.args.lane con.given frames con.says;
  live = λ l. c.reply.ensures.ended ∙ con.live (c.reply.ensures.live l);
}
