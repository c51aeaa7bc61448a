-- The journal of a book over a tape.
use Rattle.std.proofs.Common.{List, subst, length}
use Rattle.mls_model.specs.Histories.{LaneEvent}
use Rattle.mls_book.specs.Books.{IsCarried}
use Rattle.mls_book.proofs.TapeBooks.{legal_journal, journal_tells, told_tape}
use Rattle.mls_book.proofs.book.Book+ref+Tape+F+K.on_tape.Goals as goal

pub returns-clause-legal : goal.returns-clause-legal
returns-clause-legal g c = legal_journal c.args.self.now.lanes.now.lanes c.args.self.now.core.rank (length c.args.self.now.lanes.now.lanes) c.args.self.now.journal c.args.self.now.taken c.valid.ensures.places

pub returns-clause-carried : goal.returns-clause-carried
returns-clause-carried g c =
    let lanes = c.args.self.now.lanes.now.lanes in
    let tells = journal_tells lanes c.args.self.now.core.rank (length c.args.self.now.lanes.now.lanes) c.args.self.now.journal c.args.self.now.taken c.valid.ensures.places in
    subst (λ (h : List LaneEvent). IsCarried g.F.RowFold g.K.Keeper c.args.self.now h) (told_tape lanes c.args.self.now.journal) (c.valid.ensures.carried tells)
