use Rattle.std.proofs.Common.{arith, sym, ◌∙◌}
use Rattle.mls_desk.proofs.Elements.{within}
use Rattle.mls_desk.proofs.Naming.{clean_more}
use Rattle.mls_desk.proofs.reports.least_rank.Goals as goal

pub loop-rank-preserved : goal.loop-rank-preserved
loop-rank-preserved g c = clean_more c.args.books.now c.loop-rank.rank c.index-books-rank.result c.loop-rank.invariant (sym c.index-books-rank.is) (sym c.store_fault.ensures ∙ c.in-None.is)

pub returns-clause-clean : goal.returns-clause-clean
returns-clause-clean g c = λ _ r book e.
    let there = within c.args.books.now r book e in
    let end = c.loop-rank-test.false in
    c.loop-rank.invariant r book (omega (arith, there, end)) e
