use Rattle.mls_held.proofs.Beginnings.{offered_of_run}
use Rattle.mls_held.proofs.held.Held.offer.Goals as goal

pub invariant_of-self : goal.invariant_of-self
invariant_of-self g c = offered_of_run g.F.RowFold {L = g.T.Lanes} {U = g.K.Keeper} {N = g.R.Run} c.self.inside.book c.offer.new.self c.args.event.now c.offer.result
    c.self.invariant c.offer.ensures.stale c.offer.ensures.next c.offer.ensures.taken c.offer.ensures.refused
