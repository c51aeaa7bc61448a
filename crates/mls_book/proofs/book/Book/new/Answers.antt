-- Nothing is taken at the beginning.
use Rattle.std.proofs.Common.{[]}
use Rattle.mls_book.proofs.PartLaws.{parts_stand}
use Rattle.mls_book.proofs.RankTakes.{stands_none, kept_none}
use Rattle.mls_book.proofs.book.Book.new.Goals as goal

pub invariant_of-result : goal.invariant_of-result
invariant_of-result g c =
    let x = c.in-Ok-new.saved in
    let is = c.in-Ok-new.ensures in
    kept_none (g.T.Lanes.told c.args.lanes) (g.T.Lanes.belongs_to c.args.lanes) (g.T.Lanes.lane_count c.args.lanes) c.lanes.result x c.new-2.result.items c.in-Ok.taken.items
    c.new-2.ensures.items c.in-Ok.ensures c.lanes.ensures is.counts is.opening is.carries is.few

pub returns-clause-stands : goal.returns-clause-stands
returns-clause-stands g c = parts_stand c.in-Ok-new.saved.core [] (stands_none c.in-Ok-new.saved c.in-Ok-new.ensures.carries)
