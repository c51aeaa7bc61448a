use Rattle.mls_field.specs.StoredCells.{Stored}
use Rattle.mls_field.proofs.stored.put_ends.Given as goal

abbrev pub invariant-loop-c : goal.invariant-loop-c
invariant-loop-c l = Stored l.row l.c l.places l.place l.fn.ends l.ends l.cell
