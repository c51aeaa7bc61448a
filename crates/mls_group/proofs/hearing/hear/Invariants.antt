use Rattle.std.proofs.Common.{◌≡◌, ◌-◌, ◌≤◌, length}
use Rattle.mls_base.specs.Told.{StaysSound}
use Rattle.mls_wire.specs.Sessions.{reply_in}
use Rattle.mls_group.proofs.Reading.{HasRead}
use Rattle.mls_group.proofs.hearing.hear.Given as goal

abbrev pub invariant-loop-reply : goal.invariant-loop-reply
invariant-loop-reply g l = record {
  read : HasRead l.bytes.items (g.L.Link.told l.fn.link) (g.L.Link.told l.link);
  says : l.reply ≡ reply_in l.bytes.items;
  sound : StaysSound (g.L.Link.sound l.fn.link) (g.L.Link.sound l.link);
  sure : g.L.Link.sure l.fn.link ≤ g.L.Link.sure l.link;
  faultless : g.L.Link.faults l.link ≡ g.L.Link.faults l.fn.link;
}

abbrev pub decreases-loop-reply : goal.decreases-loop-reply
decreases-loop-reply g l = 67108868 - length l.bytes.items
