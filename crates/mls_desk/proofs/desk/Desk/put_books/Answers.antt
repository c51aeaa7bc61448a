use Rattle.mls_desk.proofs.Naming.{seated_named}
use Rattle.mls_desk.proofs.desk.Desk.put_books.Goals as goal

pub reseat-requires-clause-named : goal.reseat-requires-clause-named
reseat-requires-clause-named g c = seated_named {U = g.K.Keeper} {N = g.N.Run} c.args.books.now.items c.requires.seated
