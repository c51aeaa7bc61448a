-- The event that a place names is the next of its lane.
use Rattle.std.proofs.Common.{get_or, length, Bor, refl, subst, arith, ap, ◌∙◌}
use Rattle.mls_tape.specs.declared.tape.Tape.{Tape}
use Rattle.mls_book.specs.declared.offered.Offered.{Offered}
use Rattle.mls_book.specs.Offers.{IfTaken, IsTaken}
use Rattle.mls_model.specs.Numbers.{times}
use Rattle.mls_model.specs.Schedules.{is_lane_of, event_count}
use Rattle.mls_replay.proofs.Orders.{is_next, lane_there}
use Rattle.mls_replay.proofs.Taking.{named, taken_runs, refused_runs, no_call_here}
use Rattle.mls_replay.proofs.ranks.take_event.Goals as goal

pub next-requires : goal.next-requires
next-requires g c =
    let n = is_next c.args.tape.now.lanes c.args.book.now.core.rank c.args.order.now c.args.place c.requires.legal c.requires.here in
    let there = lane_there c.args.tape.now.lanes c.args.book.now.core.rank (get_or c.args.order.now c.args.place 0) n.of_rank in
    let same = ap (λ t. length t.lanes) c.requires.tape in
    omega (arith, there, same)

pub unreachable-requires : goal.unreachable-requires
unreachable-requires g c =
    let k = get_or c.args.order.now c.args.place 0 in
    let n = is_next c.args.tape.now.lanes c.args.book.now.core.rank c.args.order.now c.args.place c.requires.legal c.requires.here in
    let there = lane_there c.args.tape.now.lanes c.args.book.now.core.rank k n.of_rank in
    let same = ap (λ t. length t.lanes) c.requires.tape in
    let count = c.valid.ensures.places.each k (omega (arith, there, same)) in
    let journal = ap (times k) c.requires.journal in
    let lanes = ap (λ t. event_count t.lanes k) c.requires.tape in
    let all = c.in-None.ensures.none in
    omega (arith, n.left, count, journal, lanes, all)

pub offer-requires-clause-lane_in : goal.offer-requires-clause-lane_in
offer-requires-clause-lane_in g c =
    let k = get_or c.args.order.now c.args.place 0 in
    let n = is_next c.args.tape.now.lanes c.args.book.now.core.rank c.args.order.now c.args.place c.requires.legal c.requires.here in
    let there = lane_there c.args.tape.now.lanes c.args.book.now.core.rank k n.of_rank in
    let same = ap (λ t. length t.lanes) c.requires.tape in
    let lane = c.event-event.ensures.place.0 in
    omega (arith, there, same, lane)

pub offer-requires-clause-own : goal.offer-requires-clause-own
offer-requires-clause-own g c =
    let n = is_next c.args.tape.now.lanes c.args.book.now.core.rank c.args.order.now c.args.place c.requires.legal c.requires.here in
    let same = ap (λ t. is_lane_of t.lanes c.args.book.now.core.rank (get_or c.args.order.now c.args.place 0)) c.requires.tape in
    ap (is_lane_of c.args.book.now.lanes.now.lanes c.args.book.now.core.rank) c.event-event.ensures.place.0 ∙ (same ∙ n.of_rank)

pub returns-in-Ok-Taken-clause-runs : goal.returns-in-Ok-Taken-clause-runs
returns-in-Ok-Taken-clause-runs g c = λ entry run.
    let lanes = c.args.tape.now.lanes in
    let own = c.args.book.now.lanes.now.lanes in
    let order = c.args.order.now in
    let k = get_or order c.args.place 0 in
    let next = is_next lanes c.args.book.now.core.rank order c.args.place c.requires.legal c.requires.here in
    let there = lane_there lanes c.args.book.now.core.rank k next.of_rank in
    let same = ap (λ t. length t.lanes) c.requires.tape in
    let count = c.valid.ensures.places.each k (omega (arith, there, same)) in
    let n = named {R = g.F.RowFold} {U = g.K.Keeper} lanes own order c.args.place k c.in-Some.number (get_or c.args.book.now.taken k 0) c.args.book.now c.event-event.result
    (ap (λ t. t.lanes) c.requires.tape) c.requires.here c.requires.journal refl c.event-event.ensures.place.0 c.event-event.ensures.place.1 c.in-Some.ensures.some.0 count c.event-event.ensures.event c.on_tape.ensures.carried in
    let t = subst (λ (a : Offered). IfTaken a (IsTaken g.F.RowFold g.K.Keeper c.args.book.now c.offer.new.self c.event-event.result)) c.in-Ok-Taken.field-0-is c.in-Ok-Taken.ensures.taken in
    let lanes_same = ap (λ (l : Bor Tape). l.now.lanes) t.same.lanes ∙ ap (λ t. t.lanes) c.requires.tape in
    taken_runs {R = g.F.RowFold} {U = g.K.Keeper} lanes c.offer.new.self.lanes.now.lanes order c.args.place c.args.book.now c.offer.new.self c.event-event.result
    c.in-Ok-Taken.field-0-0 c.in-Ok-Taken.field-0-1 entry n t lanes_same c.on_tape-in-Ok-Taken.ensures.carried run

pub returns-in-Ok-Taken-clause-quiet : goal.returns-in-Ok-Taken-clause-quiet
returns-in-Ok-Taken-clause-quiet g c = λ none.
    let lanes = c.args.tape.now.lanes in
    let own = c.args.book.now.lanes.now.lanes in
    let order = c.args.order.now in
    let k = get_or order c.args.place 0 in
    let next = is_next lanes c.args.book.now.core.rank order c.args.place c.requires.legal c.requires.here in
    let there = lane_there lanes c.args.book.now.core.rank k next.of_rank in
    let same = ap (λ t. length t.lanes) c.requires.tape in
    let count = c.valid.ensures.places.each k (omega (arith, there, same)) in
    let n = named {R = g.F.RowFold} {U = g.K.Keeper} lanes own order c.args.place k c.in-Some.number (get_or c.args.book.now.taken k 0) c.args.book.now c.event-event.result
    (ap (λ t. t.lanes) c.requires.tape) c.requires.here c.requires.journal refl c.event-event.ensures.place.0 c.event-event.ensures.place.1 c.in-Some.ensures.some.0 count c.event-event.ensures.event c.on_tape.ensures.carried in
    let t = subst (λ (a : Offered). IfTaken a (IsTaken g.F.RowFold g.K.Keeper c.args.book.now c.offer.new.self c.event-event.result)) c.in-Ok-Taken.field-0-is c.in-Ok-Taken.ensures.taken in
    t.store.untouched (no_call_here {R = g.F.RowFold} {U = g.K.Keeper} lanes order c.args.place c.args.book.now c.event-event.result n none)

pub returns-in-Err-clause-runs : goal.returns-in-Err-clause-runs
returns-in-Err-clause-runs g c = λ entry run.
    let lanes = c.args.tape.now.lanes in
    let own = c.args.book.now.lanes.now.lanes in
    let order = c.args.order.now in
    let k = get_or order c.args.place 0 in
    let next = is_next lanes c.args.book.now.core.rank order c.args.place c.requires.legal c.requires.here in
    let there = lane_there lanes c.args.book.now.core.rank k next.of_rank in
    let same = ap (λ t. length t.lanes) c.requires.tape in
    let count = c.valid.ensures.places.each k (omega (arith, there, same)) in
    let n = named {R = g.F.RowFold} {U = g.K.Keeper} lanes own order c.args.place k c.in-Some.number (get_or c.args.book.now.taken k 0) c.args.book.now c.event-event.result
    (ap (λ t. t.lanes) c.requires.tape) c.requires.here c.requires.journal refl c.event-event.ensures.place.0 c.event-event.ensures.place.1 c.in-Some.ensures.some.0 count c.event-event.ensures.event c.on_tape.ensures.carried in
    refused_runs {R = g.F.RowFold} {U = g.K.Keeper} lanes order c.args.place c.args.book.now c.offer.new.self c.event-event.result c.in-Err.fault entry n c.in-Err.ensures.refused run

pub returns-in-Err-clause-quiet : goal.returns-in-Err-clause-quiet
returns-in-Err-clause-quiet g c = λ none.
    let lanes = c.args.tape.now.lanes in
    let own = c.args.book.now.lanes.now.lanes in
    let order = c.args.order.now in
    let k = get_or order c.args.place 0 in
    let next = is_next lanes c.args.book.now.core.rank order c.args.place c.requires.legal c.requires.here in
    let there = lane_there lanes c.args.book.now.core.rank k next.of_rank in
    let same = ap (λ t. length t.lanes) c.requires.tape in
    let count = c.valid.ensures.places.each k (omega (arith, there, same)) in
    let n = named {R = g.F.RowFold} {U = g.K.Keeper} lanes own order c.args.place k c.in-Some.number (get_or c.args.book.now.taken k 0) c.args.book.now c.event-event.result
    (ap (λ t. t.lanes) c.requires.tape) c.requires.here c.requires.journal refl c.event-event.ensures.place.0 c.event-event.ensures.place.1 c.in-Some.ensures.some.0 count c.event-event.ensures.event c.on_tape.ensures.carried in
    c.in-Err.ensures.refused.untouched (no_call_here {R = g.F.RowFold} {U = g.K.Keeper} lanes order c.args.place c.args.book.now c.event-event.result n none)
