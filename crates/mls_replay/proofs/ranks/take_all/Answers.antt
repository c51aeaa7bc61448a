use Rattle.mls_replay.proofs.Taking.{reserved}
use Rattle.mls_replay.proofs.ranks.take_all.Goals as goal

pub loop-place-init : goal.loop-place-init
loop-place-init g c = reserved {R = g.F.RowFold} {U = g.K.Keeper} c.args.tape.now.lanes c.args.order.now c.reserve.new.self.spare c.args.book.now c.reserve.new.self c.reserve.ensures.same c.requires.journal
