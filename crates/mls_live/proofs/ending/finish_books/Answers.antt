-- The books are taken from the last on.
use Rattle.std.proofs.Common.{length, ap, arith}
use Rattle.mls_live.proofs.Taking.{took_none, took_more}
use Rattle.mls_live.proofs.ending.finish_books.Goals as goal

pub loop-init : goal.loop-init
loop-init g c =
    (took_none _ _ _ _ _ c.requires.cores.0 c.requires.lists.0, (omega (arith, c.requires.cores.1, ap length c.requires.cores.0, c.args.cores.ok.0), (omega (arith, c.requires.lists.1, ap length c.requires.lists.0, c.args.lists.ok.0), (c.requires.keepers, omega (arith, c.len-end.ensures)))))

pub loop-preserved : goal.loop-preserved
loop-preserved g c =
    let f = c.finish_last.ensures in
    let i = c.loop.invariant in
    (took_more _ _ _ _ _ _ _ _ _ _ _ i.0 f.took, (omega (arith, i.1.0, f.books, f.cores.0, f.cores.1), (omega (arith, i.1.1.0, f.books, f.lists.0, f.lists.1), (omega (arith, i.1.1.1.0, f.books, f.keepers.0, f.keepers.1), omega (arith, i.1.1.1.1, f.books)))))
