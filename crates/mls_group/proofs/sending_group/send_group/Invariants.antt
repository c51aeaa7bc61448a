use Rattle.std.proofs.Common.{◌≡◌, None, length}
use Rattle.std.specs.List.{AllByRecursion}
use Rattle.mls_base.specs.Told.{StaysSound}
use Rattle.mls_wire.specs.Sessions.{IsPair, pairs_of}
use Rattle.mls_group.specs.Groups.{TellsOn, AreEnough}
use Rattle.mls_group.proofs.Serving.{ServesTo}
use Rattle.mls_group.proofs.sending_group.send_group.Given as goal

abbrev pub invariant-loop-pair : goal.invariant-loop-pair
invariant-loop-pair g l = record {
  serves : TellsOn (ServesTo l.study l.group l.life (pairs_of l.study.sizes) l.rest) (g.D.Door.closed l.fn.door) (g.D.Door.closed l.door);
  silent : g.D.Door.closed l.fn.door ≡ None → g.D.Door.closed l.door ≡ None;
  each : AllByRecursion (IsPair l.study.sizes) l.rest;
  faults : g.D.Door.faults l.door ≡ g.D.Door.faults l.fn.door;
  link_faults : g.D.Door.link_faults l.door ≡ g.D.Door.link_faults l.fn.door;
  accepts : g.D.Door.accepts l.door ≡ g.D.Door.accepts l.fn.door;
  sound : StaysSound (g.D.Door.sound l.fn.door) (g.D.Door.sound l.door);
  enough : AreEnough l.study l.group l.life (pairs_of l.study.sizes) (g.D.Door.awaited l.fn.door) → AreEnough l.study l.group l.life l.rest (g.D.Door.awaited l.door);
}

abbrev pub decreases-loop-pair : goal.decreases-loop-pair
decreases-loop-pair g l = length l.rest
