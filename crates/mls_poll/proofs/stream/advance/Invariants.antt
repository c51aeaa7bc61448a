use Rattle.std.proofs.Common.{◌≡◌, ◌+◌, ◌-◌, ◌≤◌, length}
use Rattle.futures.specs.Task.{Keeps}
use Rattle.mls_base.specs.Told.{StaysSound}
use Rattle.mls_poll.specs.Looks.{Gathers}
use Rattle.mls_poll.proofs.stream.advance.Given as goal

abbrev pub invariant-loop-link : goal.invariant-loop-link
invariant-loop-link g l = record {
  so_far : Gathers l.offset
      (record { told = g.L.PollLink.told l.initial.link; faults = g.L.PollLink.faults l.initial.link; held = l.initial.held.items })
      (record { told = g.L.PollLink.told l.link; faults = g.L.PollLink.faults l.link; held = l.held.items });
  waits : g.L.PollLink.waits l.link ≡ g.L.PollLink.waits l.initial.link;
  sound : StaysSound (g.L.PollLink.sound l.initial.link) (g.L.PollLink.sound l.link);
  sure : g.L.PollLink.sure l.initial.link ≤ g.L.PollLink.sure l.link;
  kept : Keeps l.initial.cx l.cx;
}

abbrev pub decreases-loop-link : goal.decreases-loop-link
decreases-loop-link g l = 1073741824 - (l.offset + length l.held.items)
