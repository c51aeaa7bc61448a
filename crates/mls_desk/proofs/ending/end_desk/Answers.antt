use Rattle.mls_desk.proofs.Closing.{ends_books}
use Rattle.mls_desk.proofs.ending.end_desk.Goals as goal

pub returns : goal.returns
returns g c = λ lanes s keepers names enough count left.
    ends_books g.K.Keeper g.N.Run lanes s c.args.books.items c.finish_books.result.cores.items c.args.spare.items keepers c.finish_books.result.keepers.items
    c.requires.seated c.finish_books.ensures names enough count left
