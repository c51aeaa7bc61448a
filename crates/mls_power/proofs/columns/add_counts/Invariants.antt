use Rattle.mls_power.specs.CountsAdded.{AreCountsAdded}
use Rattle.mls_power.proofs.columns.add_counts.Given as goal

abbrev pub invariant-loop-j : goal.invariant-loop-j
invariant-loop-j l = AreCountsAdded l.at l.j l.counts l.fn.numbers l.numbers
