use Rattle.mls_hist.proofs.Counted.{Counted}
use Rattle.mls_hist.proofs.adding.add_samples.Given as goal

-- the samples before the loop's were added
abbrev pub invariant-loop-k : goal.invariant-loop-k
invariant-loop-k l = Counted l.start l.places l.at l.k l.samples l.fn.bins l.bins
