use Rattle.std.proofs.Common.{◌≡◌, [], replicate}
use Rattle.mls_tape.specs.Passed.{lists_seen}
use Rattle.mls_tape.proofs.lines.empty_lists.Given as goal

abbrev pub invariant-loop-rank : goal.invariant-loop-rank
invariant-loop-rank l = lists_seen l.lists.items ≡ replicate l._rank []
