use Rattle.mls_field.specs.Copied.{AreCopied}
use Rattle.mls_field.proofs.copied.copy_ends.Given as goal

abbrev pub invariant-loop-c : goal.invariant-loop-c
invariant-loop-c l = AreCopied l.row l.c l.places l.from l.count l.ends l.columns
