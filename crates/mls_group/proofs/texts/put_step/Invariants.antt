use Rattle.std.proofs.Common.{◌≡◌, ◌++◌}
use Rattle.std.specs.List.{flat_map}
use Rattle.mls_model.specs.Numbers.{below}
use Rattle.mls_wire.specs.Sessions.{piece_bytes}
use Rattle.mls_group.proofs.texts.put_step.Given as goal

abbrev pub invariant-loop-field : goal.invariant-loop-field
invariant-loop-field l = l.out.items ≡ l.fn.out.items ++ flat_map (piece_bytes l.study l.group l.life l.pair l.step) (below l.field)
