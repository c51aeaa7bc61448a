use Rattle.std.proofs.Common.{◌≡◌, ◌++◌, replicate}
use Rattle.mls_frame.specs.Owned.{owned_frame}
use Rattle.mls_design.specs.Trial.{frame_bytes}
use Rattle.mls_design.proofs.trial.lanes.put_copies.Given as goal

abbrev pub invariant-loop : goal.invariant-loop
invariant-loop l = l.out.items ≡ l.fn.out.items ++ frame_bytes (replicate l.counter (owned_frame l.frame))
