use Rattle.mls_pool.proofs.Pooling.{ended}
use Rattle.mls_pool.proofs.pool.drain.Goals as goal

pub returns-clause-ended : goal.returns-clause-ended
returns-clause-ended g c = λ tape s keepers pool.
    ended {U = g.K.Keeper} tape s keepers c.args.pooled.books.items c.drain_books-fault.new.books.items c.args.pooled.spare.items c.args.pooled.fault c.drain_books-fault.result c.in-None.is pool
    c.drain_books-fault.ensures.go_on c.drain_books-fault.ensures.drained c.drain_books-fault.ensures.clean c.drain_books-fault.ensures.reported
