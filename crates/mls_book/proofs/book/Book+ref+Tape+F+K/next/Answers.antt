-- All events of a lane are taken.
use Rattle.std.proofs.Common.{ap, arith}
use Rattle.mls_model.specs.Numbers.{times}
use Rattle.mls_model.specs.Schedules.{event_count}
use Rattle.mls_book.proofs.TapeBooks.{told_within}
use Rattle.mls_book.proofs.book.Book+ref+Tape+F+K.next.Goals as goal

pub returns-clause-none : goal.returns-clause-none
returns-clause-none g c =
    let lanes = c.args.self.now.lanes.now.lanes in
    let few = told_within lanes c.args.lane (times c.args.lane c.args.self.now.journal) c.requires (c.valid.ensures.places.within c.args.lane) in
    let count = c.valid.ensures.places.each c.args.lane c.requires in
    let is = c.taken-number.ensures in
    let tape = ap (λ t. event_count t.now.lanes c.args.lane) c.lanes.ensures in
    let events = c.events.ensures in
    let all = c.if-number-events.false in
    omega (arith, few, count, is, tape, events, all)
