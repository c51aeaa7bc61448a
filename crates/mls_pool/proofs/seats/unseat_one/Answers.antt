use Rattle.std.proofs.Common.{sym, subst}
use Rattle.mls_pool.specs.Pools.{TapeBook}
use Rattle.mls_pool.specs.Named.{IsNamed}
use Rattle.mls_pool.proofs.seats.unseat_one.Goals as goal

pub returns-then-rank-clause-named : goal.returns-then-rank-clause-named
returns-then-rank-clause-named g c =
    let r = c.into_book.ensures.of_run in
    subst (λ (b : TapeBook g.row.K.Denot). IsNamed g.K.Keeper g.N.Run b) (sym c.into_book.ensures.book) (record { count = r.count; told = r.told; belongs = r.belongs; sizes = r.sizes; begun = r.begun })
