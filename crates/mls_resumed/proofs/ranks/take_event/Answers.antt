-- The event that a place names is the next of its lane.
use Rattle.std.proofs.Common.{◌≡◌, ◌<◌, length, get_or, take, refl, arith}
use Rattle.mls_model.specs.Numbers.{times}
use Rattle.mls_frame.specs.Views.{frame_of}
use Rattle.mls_book.specs.SavedRanks.{number_of}
use Rattle.mls_book.proofs.JournalLaws.{get_or_any}
use Rattle.mls_replay.proofs.Orders.{is_next, lane_there}
use Rattle.mls_resumed.proofs.Going.{is_here, one_taken, one_refused, one_quiet, taken_more}
use Rattle.mls_resumed.proofs.ranks.take_event.Goals as goal

pub index-number-requires : goal.index-number-requires
index-number-requires g c =
    let lanes = c.args.tape.now.lanes in
    let order = c.args.order.now in
    let next = is_next lanes (number_of c.args.saved.now) order c.args.place c.requires.legal c.requires.here in
    let there = lane_there lanes (number_of c.args.saved.now) (get_or order c.args.place 0) next.of_rank in
    let size = c.requires.taken.one_each in
    omega (arith, there, size, c.args.taken.now.ok.0)

pub events-events-requires : goal.events-events-requires
events-events-requires g c =
    let lanes = c.args.tape.now.lanes in
    let order = c.args.order.now in
    let next = is_next lanes (number_of c.args.saved.now) order c.args.place c.requires.legal c.requires.here in
    lane_there lanes (number_of c.args.saved.now) (get_or order c.args.place 0) next.of_rank

pub event-event-requires : goal.event-event-requires
event-event-requires g c =
    let lanes = c.args.tape.now.lanes in
    let order = c.args.order.now in
    let k = get_or order c.args.place 0 in
    let taken = c.args.taken.now.items in
    let next = is_next lanes (number_of c.args.saved.now) order c.args.place c.requires.legal c.requires.here in
    let there = lane_there lanes (number_of c.args.saved.now) k next.of_rank in
    let size = c.requires.taken.one_each in
    let here : k < length taken = omega (arith, there, size) in
    let any = get_or_any taken k c.index-number.result.now 0 here in
    let is = c.index-number.ensures in
    let count = c.requires.taken.each k there in
    omega (arith, next.left, any, is, count)

pub overflow_add-number : goal.overflow_add-number
overflow_add-number g c =
    let lanes = c.args.tape.now.lanes in
    let order = c.args.order.now in
    let k = get_or order c.args.place 0 in
    let taken = c.args.taken.now.items in
    let next = is_next lanes (number_of c.args.saved.now) order c.args.place c.requires.legal c.requires.here in
    let there = lane_there lanes (number_of c.args.saved.now) k next.of_rank in
    let size = c.requires.taken.one_each in
    let here : k < length taken = omega (arith, there, size) in
    let any = get_or_any taken k c.index-number.result.now 0 here in
    let is = c.index-number.ensures in
    let count = c.requires.taken.each k there in
    let events = c.events-events.ensures in
    let fits : c.events-events.result < 4294967296 = c.events-events.type_inv in
    omega (arith, next.left, any, is, count, events, fits)

pub index_mut-requires : goal.index_mut-requires
index_mut-requires g c =
    let lanes = c.args.tape.now.lanes in
    let order = c.args.order.now in
    let next = is_next lanes (number_of c.args.saved.now) order c.args.place c.requires.legal c.requires.here in
    let there = lane_there lanes (number_of c.args.saved.now) (get_or order c.args.place 0) next.of_rank in
    let size = c.requires.taken.one_each in
    omega (arith, there, size, c.args.taken.now.ok.0)

pub returns-in-Ok-clause-taken : goal.returns-in-Ok-clause-taken
returns-in-Ok-clause-taken g c =
    let lanes = c.args.tape.now.lanes in
    let order = c.args.order.now in
    let k = get_or order c.args.place 0 in
    let taken = c.args.taken.now.items in
    let next = is_next lanes (number_of c.args.saved.now) order c.args.place c.requires.legal c.requires.here in
    let there = lane_there lanes (number_of c.args.saved.now) k next.of_rank in
    let size = c.requires.taken.one_each in
    let here : k < length taken = omega (arith, there, size) in
    let any = get_or_any taken k c.index-number.result.now 0 here in
    let is = c.index-number.ensures in
    taken_more lanes order c.args.place c.index-number.result.now taken _ c.requires.taken c.requires.here there (omega (arith, any, is)) refl

pub returns-in-Ok-clause-goes_on : goal.returns-in-Ok-clause-goes_on
returns-in-Ok-clause-goes_on g c = λ s rank opening entry going.
    let lanes = c.args.tape.now.lanes in
    let order = c.args.order.now in
    let k = get_or order c.args.place 0 in
    let taken = c.args.taken.now.items in
    let next = is_next lanes (number_of c.args.saved.now) order c.args.place c.requires.legal c.requires.here in
    let there = lane_there lanes (number_of c.args.saved.now) k next.of_rank in
    let size = c.requires.taken.one_each in
    let here : k < length taken = omega (arith, there, size) in
    let any = get_or_any taken k c.index-number.result.now 0 here in
    let is = c.index-number.ensures in
    let each = c.requires.taken.each k there in
    let count : c.index-number.result.now ≡ times k (take c.args.place order) = omega (arith, any, is, each) in
    let event = is_here lanes order c.args.place c.index-number.result.now c.event-event.result.kind c.kind.result c.event-event.result.frame (frame_of c.view.result.now) c.requires.here c.requires.short count c.event-event.ensures.event c.kind.ensures c.view.ensures in
    let t = c.in-Ok.ensures in
    one_taken {R = g.F.RowFold} {U = g.K.Keeper} s rank opening lanes order c.args.place entry (record { kind = c.kind.result; frame = frame_of c.view.result.now }) c.in-Ok.field-0 c.args.saved.now c.take.new.self event
    (record { right = t.outcome; carries = t.carries; counts = t.counts; stands = t.stands; sizes = t.sizes; rank = t.rank; sum = t.sum; saved = t.saved; opening = t.opening; reopens = t.reopens; untouched = t.untouched; put = t.put; held = t.held; gets = t.gets; given = t.given; sound = t.sound; faults = t.faults })
    going

pub returns-in-Ok-clause-quiet : goal.returns-in-Ok-clause-quiet
returns-in-Ok-clause-quiet g c = λ s rank opening entry going none. (returns-in-Ok-clause-goes_on g c s rank opening entry going).quiet none

pub returns-in-Err-clause-goes_on : goal.returns-in-Err-clause-goes_on
returns-in-Err-clause-goes_on g c = λ s rank opening entry going.
    let lanes = c.args.tape.now.lanes in
    let order = c.args.order.now in
    let k = get_or order c.args.place 0 in
    let taken = c.args.taken.now.items in
    let next = is_next lanes (number_of c.args.saved.now) order c.args.place c.requires.legal c.requires.here in
    let there = lane_there lanes (number_of c.args.saved.now) k next.of_rank in
    let size = c.requires.taken.one_each in
    let here : k < length taken = omega (arith, there, size) in
    let any = get_or_any taken k c.index-number.result.now 0 here in
    let is = c.index-number.ensures in
    let each = c.requires.taken.each k there in
    let count : c.index-number.result.now ≡ times k (take c.args.place order) = omega (arith, any, is, each) in
    let event = is_here lanes order c.args.place c.index-number.result.now c.event-event.result.kind c.kind.result c.event-event.result.frame (frame_of c.view.result.now) c.requires.here c.requires.short count c.event-event.ensures.event c.kind.ensures c.view.ensures in
    let t = c.in-Err.ensures in
    one_refused {R = g.F.RowFold} {U = g.K.Keeper} s rank opening lanes order c.args.place entry (record { kind = c.kind.result; frame = frame_of c.view.result.now }) c.in-Err.fault c.args.saved.now c.take.new.self event
    (record { keeps = t.keeps; fewer = t.fewer; untold = t.untold_few; stands = t.err; same = t.same; saved = t.unsaved; opening = t.opening; untouched = t.untouched; leaves = t.leaves; sound = t.sound; faults = t.faults; surely = t.surely; cause = t.cause; got = t.got; read = t.refused })
    going

pub returns-in-Err-clause-quiet : goal.returns-in-Err-clause-quiet
returns-in-Err-clause-quiet g c = λ s rank opening entry going none.
    let lanes = c.args.tape.now.lanes in
    let order = c.args.order.now in
    let k = get_or order c.args.place 0 in
    let taken = c.args.taken.now.items in
    let next = is_next lanes (number_of c.args.saved.now) order c.args.place c.requires.legal c.requires.here in
    let there = lane_there lanes (number_of c.args.saved.now) k next.of_rank in
    let size = c.requires.taken.one_each in
    let here : k < length taken = omega (arith, there, size) in
    let any = get_or_any taken k c.index-number.result.now 0 here in
    let is = c.index-number.ensures in
    let each = c.requires.taken.each k there in
    let count : c.index-number.result.now ≡ times k (take c.args.place order) = omega (arith, any, is, each) in
    let event = is_here lanes order c.args.place c.index-number.result.now c.event-event.result.kind c.kind.result c.event-event.result.frame (frame_of c.view.result.now) c.requires.here c.requires.short count c.event-event.ensures.event c.kind.ensures c.view.ensures in
    let t = c.in-Err.ensures in
    one_quiet {R = g.F.RowFold} {U = g.K.Keeper} s rank opening lanes order c.args.place entry (record { kind = c.kind.result; frame = frame_of c.view.result.now }) c.in-Err.fault c.args.saved.now c.take.new.self event
    (record { keeps = t.keeps; fewer = t.fewer; untold = t.untold_few; stands = t.err; same = t.same; saved = t.unsaved; opening = t.opening; untouched = t.untouched; leaves = t.leaves; sound = t.sound; faults = t.faults; surely = t.surely; cause = t.cause; got = t.got; read = t.refused })
    going none
