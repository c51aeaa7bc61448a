use Rattle.std.proofs.Common.{sym, subst}
use Rattle.mls_desk.specs.Books.{WireBook, IsNamed}
use Rattle.mls_desk.proofs.seats.take_one.Goals as goal

pub returns-then-rank-clause-named : goal.returns-then-rank-clause-named
returns-then-rank-clause-named g c =
    let r = c.into_book.ensures.of_run in
    subst (λ (b : WireBook g.row.K.Denot). IsNamed g.K.Keeper g.N.Run b) (sym c.into_book.ensures.book) (record { count = r.count; told = r.told; belongs = r.belongs; sizes = r.sizes; begun = r.begun })
