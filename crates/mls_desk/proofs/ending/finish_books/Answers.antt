-- The books are taken from the last on.
use Rattle.std.proofs.Common.{arith}
use Rattle.mls_desk.proofs.Taking.{none_left, took_none, took_more}
use Rattle.mls_desk.proofs.ending.finish_books.Goals as goal

pub loop-init : goal.loop-init
loop-init g c =
    let none = c.requires.cores.0 in
    let room = c.requires.cores.1 in
    let end = c.len-end.ensures in
    let own = c.args.cores.ok.0 in (
      took_none g.K.Keeper _ _ _ (none_left _ (omega (arith, none, own))),
      omega (arith, none, room),
      c.requires.keepers,
      omega (arith, end),
    )

pub loop-preserved : goal.loop-preserved
loop-preserved g c =
    let f = c.finish_last.ensures in
    let i = c.loop.invariant in
    let one = i.1 in
    let two = i.2 in
    let three = i.3 in
    let books = f.books in
    let cores = f.cores.0 in
    let cores_room = f.cores.1 in
    let keepers = f.keepers.0 in
    let keepers_room = f.keepers.1 in (
      took_more _ _ _ _ _ _ _ _ _ i.0 f.took,
      omega (arith, one, books, cores, cores_room),
      omega (arith, two, books, keepers, keepers_room),
      omega (arith, three, books),
    )
