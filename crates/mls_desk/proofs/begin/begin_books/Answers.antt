use Rattle.std.proofs.Common.{◌≡◌, ◌++◌, ◌∷◌, List, length, sym, ap, subst, ◌∙◌, arith}
use Rattle.mls_book.proofs.JournalLaws.{all_more}
use Rattle.mls_desk.specs.Books.{WireBook, IsNamed, AreNamed, keepers_of}
use Rattle.mls_desk.proofs.Naming.{begins_named, keepers_pop}
use Rattle.mls_desk.proofs.begin.begin_books.Goals as goal

pub loop-rank-preserved : goal.loop-rank-preserved
loop-rank-preserved g c =
    let inv = c.loop-rank.invariant in
    let book = c.in-Ok.book in
    let books = c.loop-rank.books.items in
    let took = c.in-Ok.ensures.took in
    let fresh = c.in-Ok.ensures.fresh in
    let order : keepers_of books ++ book.keeper ∷ c.begin_one.new.keepers.items ≡ c.args.keepers.items = ap (λ (ks : List g.row.K.Denot). keepers_of books ++ ks) took ∙ inv.1 in
    let begun = c.beginnings_go_on.ensures.begins book fresh.clean fresh.unsaved in
    let count : length books ≡ c.loop-rank.rank = (let own = c.loop-rank.books.ok.0 in let len = inv.2 in omega (arith, own, len)) in
    let named = begins_named {U = g.K.Keeper} {N = g.N.Run} c.args.lanes c.args.shape.now c.loop-rank.rank c.args.keepers.items books book c.begin_one.new.keepers.items c.requires.names fresh begun order count in
    let pushed = c.push_reserved.ensures.items in
    let lens = c.push_reserved.ensures.len in
    let old_ok = c.loop-rank.keepers.ok.0 in
    let new_ok = c.begin_one.new.keepers.ok.0 in
    let fewer = ap (λ (ks : List g.row.K.Denot). length ks) took in
    let room = c.in-Ok.ensures.room in
    let cap = c.push_reserved.ensures.capacity in
    let two = inv.2 in
    let three = inv.3 in
    let four = inv.4 in
    let five = inv.5 in (
      subst (λ (bs : List (WireBook g.row.K.Denot)). AreNamed g.K.Keeper g.N.Run bs) (sym pushed) (all_more (λ (b : WireBook g.row.K.Denot). IsNamed g.K.Keeper g.N.Run b) books book inv.0 named),
      ap (λ (bs : List (WireBook g.row.K.Denot)). keepers_of bs ++ c.begin_one.new.keepers.items) pushed ∙ keepers_pop books book c.begin_one.new.keepers.items ∙ order,
      omega (arith, lens, two),
      omega (arith, lens, three, old_ok, new_ok, fewer),
      omega (arith, four, cap),
      omega (arith, five, room),
    )
