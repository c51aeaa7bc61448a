use Rattle.std.proofs.Common.{refl, arith}
use Rattle.mls_pool.specs.Moving.{IsDrained}
use Rattle.mls_pool.proofs.Elements.{within}
use Rattle.mls_pool.proofs.Going.{all_same, go_on, more_at, clean_at, shown_at}
use Rattle.mls_pool.proofs.left.drain_books.Goals as goal

pub loop-rank-init : goal.loop-rank-init
loop-rank-init g c = (all_same {U = g.K.Keeper} c.args.books.now.items, λ r book lt e. absurd (omega (arith, lt)), λ clean. clean, refl)

pub returns-in-Err-clause-go_on : goal.returns-in-Err-clause-go_on
returns-in-Err-clause-go_on g c =
    go_on {U = g.K.Keeper} c.args.books.now.items c.loop-rank.books.items c.loop-rank.rank c.index_mut.result.now c.drain_book.new.book c.loop-rank.invariant.0
    (let lt = c.loop-rank-test.true in let end = c.len-rank-end.ensures in let same = c.loop-rank.invariant.3 in let own = c.loop-rank.books.ok.0 in omega (arith, lt, end, same, own)) c.index_mut.ensures.value c.in-Err.ensures.goes_on

pub returns-in-Err-clause-reported : goal.returns-in-Err-clause-reported
returns-in-Err-clause-reported g c = shown_at c.loop-rank.books.items c.loop-rank.rank c.drain_book.new.book _ refl (let lt = c.loop-rank-test.true in let end = c.len-rank-end.ensures in let same = c.loop-rank.invariant.3 in let own = c.loop-rank.books.ok.0 in omega (arith, lt, end, same, own)) c.in-Err.ensures.shown

pub loop-rank-preserved : goal.loop-rank-preserved
loop-rank-preserved g c =
    let inv = c.loop-rank.invariant in (
      go_on {U = g.K.Keeper} c.args.books.now.items c.loop-rank.books.items c.loop-rank.rank c.index_mut.result.now c.drain_book.new.book inv.0 (let lt = c.loop-rank-test.true in let end = c.len-rank-end.ensures in let same = c.loop-rank.invariant.3 in let own = c.loop-rank.books.ok.0 in omega (arith, lt, end, same, own)) c.index_mut.ensures.value c.in-Ok.ensures.goes_on,
      more_at IsDrained c.loop-rank.books.items c.loop-rank.rank c.drain_book.new.book inv.1 c.in-Ok.ensures.drained,
      λ clean. clean_at c.loop-rank.books.items c.loop-rank.rank c.index_mut.result.now c.drain_book.new.book (inv.2 clean) (let lt = c.loop-rank-test.true in let end = c.len-rank-end.ensures in let same = c.loop-rank.invariant.3 in let own = c.loop-rank.books.ok.0 in omega (arith, lt, end, same, own)) c.index_mut.ensures.value c.in-Ok.ensures.clean,
      inv.3,
    )

pub returns-clause-drained : goal.returns-clause-drained
returns-clause-drained g c = λ _ rank book e.
    let there = within c.loop-rank.books.items rank book e in
    c.loop-rank.invariant.1 rank book (let lt = c.loop-rank-test.false in let end = c.len-rank-end.ensures in let same = c.loop-rank.invariant.3 in let own = c.loop-rank.books.ok.0 in omega (arith, there, lt, end, same, own)) e
