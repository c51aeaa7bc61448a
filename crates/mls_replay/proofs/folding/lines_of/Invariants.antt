use Rattle.std.proofs.Common.{◌≡◌, take}
use Rattle.mls_model.specs.ResultText.{lines_of}
use Rattle.mls_replay.proofs.folding.lines_of.Given as goal

abbrev pub invariant-loop-lane : goal.invariant-loop-lane
invariant-loop-lane l = l.lines.items ≡ take l.lane (lines_of l.tape.lanes)
