use Rattle.mls_wire.proofs.Sent.{reading_is}
use Rattle.mls_poll.proofs.mem_link.MemPollLink.read.Goals as goal

pub returns-clause-moved : goal.returns-clause-moved
returns-clause-moved c = reading_is c.args.self.now.at c.min-n.result c.args.self.now.bytes.items c.args.self.now.written.items
