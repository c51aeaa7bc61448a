use Rattle.std.proofs.Common.{◌≡◌, ◌-◌, length}
use Rattle.futures.specs.Task.{Keeps}
use Rattle.mls_hub.specs.Connections.{WroteMore}
use Rattle.mls_hub.proofs.connection.Connection.write_answer.Given as goal

abbrev pub invariant-loop-self : goal.invariant-loop-self
invariant-loop-self g l = record {
  wrote : WroteMore g.L.PollLink l.initial.self l.self;
  waits : g.L.PollLink.waits l.self.stream.link ≡ g.L.PollLink.waits l.initial.self.stream.link;
  kept : Keeps l.initial.cx l.cx;
}

abbrev pub decreases-loop-self : goal.decreases-loop-self
decreases-loop-self g l = length l.self.answer.items - l.self.written
