use Rattle.std.proofs.Common.{◌≡◌, List, length, sym, subst, ◌∙◌, arith}
use Rattle.mls_desk.specs.Books.{WireBook, AreSeated}
use Rattle.mls_desk.proofs.Naming.{seated_more}
use Rattle.mls_desk.proofs.seats.unseat.Goals as goal

pub loop-rank-preserved : goal.loop-rank-preserved
loop-rank-preserved g c =
    let inv = c.loop-rank.invariant in
    let books = c.loop-rank.books.items in
    let count : length books ≡ c.loop-rank.rank = (let own = c.loop-rank.books.ok.0 in let len = inv.1 in omega (arith, own, len)) in
    let more = seated_more {U = g.K.Keeper} {N = g.N.Run} books c.take_one-book.result c.loop-rank.rank inv.0 count c.take_one-book.ensures.named c.take_one-book.ensures.rank in
    let len = inv.1 in
    let lens = c.push_reserved.ensures.len in (
      subst (λ (bs : List (WireBook g.row.K.Denot)). AreSeated g.K.Keeper g.N.Run bs) (sym c.push_reserved.ensures.items) more,
      omega (arith, lens, len),
      c.push_reserved.ensures.capacity ∙ inv.2,
    )
