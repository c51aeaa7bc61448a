use Rattle.mls_field.specs.PutCells.{PutsCells}
use Rattle.mls_field.proofs.field.Field.put_copied.Given as goal

abbrev pub invariant-loop-place : goal.invariant-loop-place
invariant-loop-place l = PutsCells l.self l.step l.from l.place l.fn.out l.out
