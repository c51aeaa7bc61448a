use Rattle.mls_replay.specs.Folding.{IsUnderWay}
use Rattle.mls_replay.proofs.ranks.take_all.Given as goal

abbrev pub invariant-loop-place : goal.invariant-loop-place
invariant-loop-place g l = IsUnderWay g.F.RowFold g.K.Keeper l.tape.lanes l.order l.place l.fn.book l.book
