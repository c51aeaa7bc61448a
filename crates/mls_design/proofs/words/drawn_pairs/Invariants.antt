use Rattle.mls_design.proofs.Drawing.{Drew}
use Rattle.mls_design.proofs.words.drawn_pairs.Given as goal

abbrev pub invariant-loop-n : goal.invariant-loop-n
invariant-loop-n l = Drew l.seed l._n l.pairs.items l.generator
