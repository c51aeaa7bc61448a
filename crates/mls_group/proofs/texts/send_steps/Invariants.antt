use Rattle.std.proofs.Common.{◌≡◌, ◌+◌, ◌≤◌, length}
use Rattle.std.specs.List.{flat_map}
use Rattle.mls_base.specs.Told.{StaysSound}
use Rattle.mls_model.specs.Numbers.{below}
use Rattle.mls_wire.specs.Links.{after_write}
use Rattle.mls_wire.specs.Sessions.{step_bytes}
use Rattle.mls_group.proofs.texts.send_steps.Given as goal

abbrev pub invariant-loop-step : goal.invariant-loop-step
invariant-loop-step g l =
    let text = flat_map (step_bytes l.study l.group l.life l.pair) (below l.step) in
    record {
      written : g.L.Link.told l.link ≡ after_write text (g.L.Link.told l.fn.link);
      sound : StaysSound (g.L.Link.sound l.fn.link) (g.L.Link.sound l.link);
      sure : g.L.Link.sure l.fn.link ≤ g.L.Link.sure l.link + length text;
      faultless : g.L.Link.faults l.link ≡ g.L.Link.faults l.fn.link;
    }
