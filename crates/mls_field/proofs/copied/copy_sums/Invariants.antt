use Rattle.mls_field.specs.Copied.{AreCopied}
use Rattle.mls_field.proofs.copied.copy_sums.Given as goal

abbrev pub invariant-loop-c : goal.invariant-loop-c
invariant-loop-c l = AreCopied l.row l.c l.places l.from l.count l.words l.columns
