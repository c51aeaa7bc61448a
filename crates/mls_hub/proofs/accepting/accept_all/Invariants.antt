use Rattle.std.proofs.Common.{◌≡◌, ◌-◌, ◌≤◌, length}
use Rattle.futures.specs.Task.{Keeps}
use Rattle.mls_hub.specs.Accepts.{HaveCome}
use Rattle.mls_hub.proofs.accepting.accept_all.Given as goal

abbrev pub invariant-loop-alloc : goal.invariant-loop-alloc
invariant-loop-alloc g l = record {
  come : HaveCome g.D.L.PollLink l.initial.connections.items l.connections.items;
  few : length l.connections.items ≤ l.wanted;
  faults : g.D.PollDoor.faults l.door ≡ g.D.PollDoor.faults l.initial.door;
  waits : g.D.PollDoor.waits l.door ≡ g.D.PollDoor.waits l.initial.door;
  kept : Keeps l.initial.cx l.cx;
}

abbrev pub decreases-loop-alloc : goal.decreases-loop-alloc
decreases-loop-alloc g l = l.wanted - length l.connections.items
