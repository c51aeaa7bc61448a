-- What an offer makes of a book.
use Rattle.std.proofs.Common.{◌≡◌, ℕ, ◌+◌, ◌-◌, ◌<◌, ◌^◌, ◌≤◌, true, List, [], ◌∷◌, ◌++◌, length, get_or, refl, sym, ap, ◌∙◌, subst, arith}
use Rattle.std.specs.Prelude.{slice_set, vec_len, vec_capacity}
use Rattle.mls_model.specs.declared.lanes.LaneKind.{LaneKind}
use Rattle.mls_model.specs.Frames.{Frame}
use Rattle.mls_model.specs.Histories.{LaneEvent}
use Rattle.mls_frame.specs.Views.{frame_of}
use Rattle.mls_tape.specs.Events.{IsToldEvent}
use Rattle.mls_book.specs.declared.faults.BookFault.TheVariants.{Memory}
use Rattle.mls_book.specs.SavedRanks.{number_of, saved_of, study_of}
use Rattle.mls_book.specs.Journals.{ToldLane}
use Rattle.mls_book.specs.Books.{BookView, BookKept}
use Rattle.mls_book.specs.Offers.{lane_event, NeedsMore, recorded}
use Rattle.mls_book.proofs.JournalLaws.{times_few, get_or_any}
use Rattle.mls_book.proofs.RankTakes.{RankTakes, RankRefuses, kept_event, kept_refused, not_asked, same_event}
use Rattle.mls_book.proofs.Offering.{taken_is, refused_is, needs_more}
use Rattle.mls_book.proofs.book.Book.offer.Goals as goal

pub overflow_add-taken : goal.overflow_add-taken
overflow_add-taken g c =
    let there : c.lane-lane.result < g.T.Lanes.lane_count c.self.inside.lanes = subst (λ (m : ℕ). m < g.T.Lanes.lane_count c.self.inside.lanes) (sym c.lane-lane.ensures)
    (subst (λ (v : BookView g.row.T.Denot g.row.F.Denot g.row.K.Denot). c.args.event.now.lane < g.T.Lanes.lane_count v.lanes) (sym c.self.view_is) c.requires.lane_in) in
    let here : c.lane-lane.result < length c.self.inside.taken.items = subst (λ (m : ℕ). c.lane-lane.result < m) (sym c.self.invariant.places.size) there in
    let any = get_or_any c.self.inside.taken.items c.lane-lane.result c.index-taken.result.now 0 here in
    let count = c.self.invariant.places.each c.lane-lane.result there in
    let few = times_few c.lane-lane.result c.self.inside.journal.items in
    let small = c.place_count-place.ensures.small in
    let value = c.place_count-place.ensures.value in
    let items = ap length c.as_slice.ensures.value in
    let is = c.index-taken.ensures in
    omega (arith, any, count, few, small, value, items, is)

pub invariant_of-self-in-Ok-take : goal.invariant_of-self-in-Ok-take
invariant_of-self-in-Ok-take g c =
    let there : c.lane-lane.result < g.T.Lanes.lane_count c.self.inside.lanes = subst (λ (m : ℕ). m < g.T.Lanes.lane_count c.self.inside.lanes) (sym c.lane-lane.ensures)
    (subst (λ (v : BookView g.row.T.Denot g.row.F.Denot g.row.K.Denot). c.args.event.now.lane < g.T.Lanes.lane_count v.lanes) (sym c.self.view_is) c.requires.lane_in) in
    let own : g.T.Lanes.belongs_to c.self.inside.lanes (number_of c.self.inside.saved) c.lane-lane.result ≡ true = subst (λ (m : ℕ). g.T.Lanes.belongs_to c.self.inside.lanes (number_of c.self.inside.saved) m ≡ true) (sym c.lane-lane.ensures)
    (subst (λ (v : BookView g.row.T.Denot g.row.F.Denot g.row.K.Denot). g.T.Lanes.belongs_to v.lanes v.core.rank c.args.event.now.lane ≡ true) (sym c.self.view_is) c.requires.own) in
    let told : g.T.Lanes.told c.args.event.now.lanes c.args.event.now.lane ≡ g.T.Lanes.told c.self.inside.lanes c.args.event.now.lane =
    subst (λ (v : BookView g.row.T.Denot g.row.F.Denot g.row.K.Denot). g.T.Lanes.told c.args.event.now.lanes c.args.event.now.lane ≡ g.T.Lanes.told v.lanes c.args.event.now.lane) (sym c.self.view_is) c.requires.told in
    let here : c.lane-lane.result < length c.self.inside.taken.items = subst (λ (m : ℕ). c.lane-lane.result < m) (sym c.self.invariant.places.size) there in
    let any = get_or_any c.self.inside.taken.items c.lane-lane.result c.index-taken.result.now 0 here in
    let is = c.index-taken.ensures in
    let next : c.index-taken.result.now ≡ get_or c.self.inside.taken.items c.lane-lane.result 0 = omega (arith, is, any) in
    let value = c.place_count-place.ensures.value in
    let small = c.place_count-place.ensures.small in
    let items = ap length c.as_slice.ensures.value in
    let short : length c.self.inside.journal.items ≤ 2 ^ 62 = omega (arith, value, small, items) in
    let numbers = c.number.ensures in
    let same = c.if-number-taken.false in
    let number : c.args.event.now.number ≡ c.index-taken.result.now = omega (arith, numbers, same) in
    let at : IsToldEvent (g.T.Lanes.told c.self.inside.lanes c.lane-lane.result) c.index-taken.result.now c.kind.result (frame_of c.view.result.now) =
    subst (λ (m : ℕ). IsToldEvent (g.T.Lanes.told c.self.inside.lanes m) c.index-taken.result.now c.kind.result (frame_of c.view.result.now)) (sym c.lane-lane.ensures)
    (subst (λ (t : ToldLane). IsToldEvent t c.index-taken.result.now c.kind.result (frame_of c.view.result.now)) told
    (subst (λ (m : ℕ). IsToldEvent (g.T.Lanes.told c.args.event.now.lanes c.args.event.now.lane) m c.kind.result (frame_of c.view.result.now)) number
    (subst (λ (q : LaneKind). IsToldEvent (g.T.Lanes.told c.args.event.now.lanes c.args.event.now.lane) c.args.event.now.number q (frame_of c.view.result.now)) (sym c.kind.ensures)
    (subst (λ (f : Frame). IsToldEvent (g.T.Lanes.told c.args.event.now.lanes c.args.event.now.lane) c.args.event.now.number c.args.event.now.kind f) (sym c.view.ensures) c.told.ensures)))) in
    let longer = c.push_reserved.ensures.items ∙ ap (λ (j : List ℕ). j ++ c.lane-lane.result ∷ []) c.make_room.ensures.items in
    let t = c.in-Ok-take.ensures in
    kept_event (g.T.Lanes.told c.self.inside.lanes) (g.T.Lanes.belongs_to c.self.inside.lanes) (g.T.Lanes.lane_count c.self.inside.lanes) c.self.inside.saved c.take.new.self c.self.inside.journal.items c.push_reserved.new.self.items c.self.inside.taken.items c.self.inside.fault
    c.lane-lane.result c.index-taken.result.now c.kind.result (frame_of c.view.result.now) c.in-Ok-take.outcome there own next short at longer
    (record { right = t.outcome; carries = t.carries; counts = t.counts; stands = t.stands; sizes = t.sizes; rank = t.rank; sum = t.sum; saved = t.saved; opening = t.opening; reopens = t.reopens; untouched = t.untouched; put = t.put; held = t.held; gets = t.gets; given = t.given; sound = t.sound; faults = t.faults })
    c.self.invariant

pub returns-in-Ok-take-clause-taken : goal.returns-in-Ok-take-clause-taken
returns-in-Ok-take-clause-taken g c =
    let there : c.lane-lane.result < g.T.Lanes.lane_count c.self.inside.lanes = subst (λ (m : ℕ). m < g.T.Lanes.lane_count c.self.inside.lanes) (sym c.lane-lane.ensures)
    (subst (λ (v : BookView g.row.T.Denot g.row.F.Denot g.row.K.Denot). c.args.event.now.lane < g.T.Lanes.lane_count v.lanes) (sym c.self.view_is) c.requires.lane_in) in
    let here : c.lane-lane.result < length c.self.inside.taken.items = subst (λ (m : ℕ). c.lane-lane.result < m) (sym c.self.invariant.places.size) there in
    let any = get_or_any c.self.inside.taken.items c.lane-lane.result c.index-taken.result.now 0 here in
    let is = c.index-taken.ensures in
    let next : c.index-taken.result.now ≡ get_or c.self.inside.taken.items c.lane-lane.result 0 = omega (arith, is, any) in
    let numbers = c.number.ensures in
    let same = c.if-number-taken.false in
    let number : c.args.event.now.number ≡ c.index-taken.result.now = omega (arith, numbers, same) in
    let first : c.args.event.now.number ≡ get_or c.self.inside.taken.items c.args.event.now.lane 0 = number ∙ (next ∙ ap (λ (m : ℕ). get_or c.self.inside.taken.items m 0) c.lane-lane.ensures) in
    let place = c.place_count-place.ensures.value ∙ ap length c.as_slice.ensures.value in
    let longer = c.push_reserved.ensures.items ∙ (ap (λ (j : List ℕ). j ++ c.lane-lane.result ∷ []) c.make_room.ensures.items ∙ ap (λ (m : ℕ). c.self.inside.journal.items ++ m ∷ []) c.lane-lane.ensures) in
    let more : slice_set c.self.inside.taken.items c.lane-lane.result (c.index-taken.result.now + 1) ≡ slice_set c.self.inside.taken.items c.args.event.now.lane (c.args.event.now.number + 1) =
    ap (λ (m : ℕ). slice_set c.self.inside.taken.items m (c.index-taken.result.now + 1)) c.lane-lane.ensures ∙ ap (λ (m : ℕ). slice_set c.self.inside.taken.items c.args.event.now.lane (m + 1)) (sym number) in
    let t = c.in-Ok-take.ensures in
    let e' : LaneEvent = record { kind = c.kind.result; frame = frame_of c.view.result.now } in
    let takes : RankTakes c.self.inside.saved c.take.new.self e' c.in-Ok-take.outcome =
    record { right = t.outcome; carries = t.carries; counts = t.counts; stands = t.stands; sizes = t.sizes; rank = t.rank; sum = t.sum; saved = t.saved; opening = t.opening; reopens = t.reopens; untouched = t.untouched; put = t.put; held = t.held; gets = t.gets; given = t.given; sound = t.sound; faults = t.faults } in
    let at : RankTakes c.self.inside.saved c.take.new.self (lane_event c.args.event.now) c.in-Ok-take.outcome =
    subst (λ (e : LaneEvent). RankTakes c.self.inside.saved c.take.new.self e c.in-Ok-take.outcome) (same_event c.kind.result c.args.event.now.kind (frame_of c.view.result.now) c.args.event.now.frame c.kind.ensures c.view.ensures) takes in
    let room = c.make_room.ensures.spare in
    let len = c.make_room.ensures.len in
    let pushed = c.push_reserved.ensures.len in
    let block = c.push_reserved.ensures.capacity in
    taken_is c.args.self.now c.self.inside.lanes c.self.inside.saved c.take.new.self c.self.inside.journal.items c.push_reserved.new.self.items c.self.inside.taken.items (slice_set c.self.inside.taken.items c.lane-lane.result (c.index-taken.result.now + 1)) c.self.inside.fault
    (vec_capacity c.self.inside.journal - vec_len c.self.inside.journal) (vec_capacity c.push_reserved.new.self - vec_len c.push_reserved.new.self) c.args.event.now c.place_count-place.result c.in-Ok-take.outcome
    c.self.view_is at c.self.invariant.opens first place longer more
    (λ some. let left = room (omega (arith, some)) in omega (arith, some, left, len, pushed, block))

pub returns-in-Err-clause-refused : goal.returns-in-Err-clause-refused
returns-in-Err-clause-refused g c =
    let there : c.lane-lane.result < g.T.Lanes.lane_count c.self.inside.lanes = subst (λ (m : ℕ). m < g.T.Lanes.lane_count c.self.inside.lanes) (sym c.lane-lane.ensures)
    (subst (λ (v : BookView g.row.T.Denot g.row.F.Denot g.row.K.Denot). c.args.event.now.lane < g.T.Lanes.lane_count v.lanes) (sym c.self.view_is) c.requires.lane_in) in
    let here : c.lane-lane.result < length c.self.inside.taken.items = subst (λ (m : ℕ). c.lane-lane.result < m) (sym c.self.invariant.places.size) there in
    let any = get_or_any c.self.inside.taken.items c.lane-lane.result c.index-taken.result.now 0 here in
    let is = c.index-taken.ensures in
    let next : c.index-taken.result.now ≡ get_or c.self.inside.taken.items c.lane-lane.result 0 = omega (arith, is, any) in
    let numbers = c.number.ensures in
    let same = c.if-number-taken.false in
    let number : c.args.event.now.number ≡ c.index-taken.result.now = omega (arith, numbers, same) in
    let first : c.args.event.now.number ≡ get_or c.self.inside.taken.items c.args.event.now.lane 0 = number ∙ (next ∙ ap (λ (m : ℕ). get_or c.self.inside.taken.items m 0) c.lane-lane.ensures) in
    let full = c.in-Err.ensures.full in
    refused_is c.args.self.now c.self.inside.lanes c.self.inside.saved c.self.inside.saved c.self.inside.journal.items c.make_room.new.journal.items c.self.inside.taken.items c.self.inside.fault c.self.inside.fault
    (vec_capacity c.self.inside.journal - vec_len c.self.inside.journal) (vec_capacity c.make_room.new.journal - vec_len c.make_room.new.journal) (length c.self.inside.journal.items) c.args.event.now Memory
    c.self.view_is (not_asked c.self.inside.saved (lane_event c.args.event.now)) c.self.invariant.few first c.make_room.ensures.items refl
    (λ some. absurd (omega (arith, some, full))) (λ some. absurd (omega (arith, some, full)))

pub invariant_of-self-in-Err-take : goal.invariant_of-self-in-Err-take
invariant_of-self-in-Err-take g c =
    let r = c.in-Err-take.ensures in
    let e' : LaneEvent = record { kind = c.kind.result; frame = frame_of c.view.result.now } in
    let refuses : RankRefuses c.self.inside.saved c.take.new.self e' c.in-Err-take.fault =
    record { keeps = r.keeps; fewer = r.fewer; untold = r.untold_few; stands = r.err; same = r.same; saved = r.unsaved; opening = r.opening; untouched = r.untouched; leaves = r.leaves; sound = r.sound; faults = r.faults; surely = r.surely; cause = r.cause; got = r.got; read = r.refused } in
    subst (λ f. BookKept (g.T.Lanes.told c.self.inside.lanes) (g.T.Lanes.belongs_to c.self.inside.lanes) (g.T.Lanes.lane_count c.self.inside.lanes) c.take.new.self c.make_room.new.journal.items c.self.inside.taken.items f) (sym c.recorded-self-inside.ensures)
    (subst (λ (j : List ℕ). BookKept (g.T.Lanes.told c.self.inside.lanes) (g.T.Lanes.belongs_to c.self.inside.lanes) (g.T.Lanes.lane_count c.self.inside.lanes) c.take.new.self j c.self.inside.taken.items (recorded c.in-Err-take.fault c.self.inside.fault)) (sym c.make_room.ensures.items)
    (kept_refused (g.T.Lanes.told c.self.inside.lanes) (g.T.Lanes.belongs_to c.self.inside.lanes) (g.T.Lanes.lane_count c.self.inside.lanes) c.self.inside.saved c.take.new.self c.self.inside.journal.items c.self.inside.taken.items c.self.inside.fault e' c.in-Err-take.fault refuses c.self.invariant))

pub returns-in-Err-take-clause-refused : goal.returns-in-Err-take-clause-refused
returns-in-Err-take-clause-refused g c =
    let there : c.lane-lane.result < g.T.Lanes.lane_count c.self.inside.lanes = subst (λ (m : ℕ). m < g.T.Lanes.lane_count c.self.inside.lanes) (sym c.lane-lane.ensures)
    (subst (λ (v : BookView g.row.T.Denot g.row.F.Denot g.row.K.Denot). c.args.event.now.lane < g.T.Lanes.lane_count v.lanes) (sym c.self.view_is) c.requires.lane_in) in
    let here : c.lane-lane.result < length c.self.inside.taken.items = subst (λ (m : ℕ). c.lane-lane.result < m) (sym c.self.invariant.places.size) there in
    let any = get_or_any c.self.inside.taken.items c.lane-lane.result c.index-taken.result.now 0 here in
    let is = c.index-taken.ensures in
    let next : c.index-taken.result.now ≡ get_or c.self.inside.taken.items c.lane-lane.result 0 = omega (arith, is, any) in
    let numbers = c.number.ensures in
    let same = c.if-number-taken.false in
    let number : c.args.event.now.number ≡ c.index-taken.result.now = omega (arith, numbers, same) in
    let first : c.args.event.now.number ≡ get_or c.self.inside.taken.items c.args.event.now.lane 0 = number ∙ (next ∙ ap (λ (m : ℕ). get_or c.self.inside.taken.items m 0) c.lane-lane.ensures) in
    let r = c.in-Err-take.ensures in
    let e' : LaneEvent = record { kind = c.kind.result; frame = frame_of c.view.result.now } in
    let equal = same_event c.kind.result c.args.event.now.kind (frame_of c.view.result.now) c.args.event.now.frame c.kind.ensures c.view.ensures in
    let refuses : RankRefuses c.self.inside.saved c.take.new.self e' c.in-Err-take.fault =
    record { keeps = r.keeps; fewer = r.fewer; untold = r.untold_few; stands = r.err; same = r.same; saved = r.unsaved; opening = r.opening; untouched = r.untouched; leaves = r.leaves; sound = r.sound; faults = r.faults; surely = r.surely; cause = r.cause; got = r.got; read = r.refused } in
    let at : RankRefuses c.self.inside.saved c.take.new.self (lane_event c.args.event.now) c.in-Err-take.fault = subst (λ (e : LaneEvent). RankRefuses c.self.inside.saved c.take.new.self e c.in-Err-take.fault) equal refuses in
    let needs : NeedsMore (study_of c.self.inside.saved) (number_of c.self.inside.saved) (saved_of c.self.inside.saved) (lane_event c.args.event.now) =
    subst (λ (e : LaneEvent). NeedsMore (study_of c.self.inside.saved) (number_of c.self.inside.saved) (saved_of c.self.inside.saved) e) equal (needs_more c.self.inside.saved e' c.self.invariant.opens r.needs) in
    let room = c.make_room.ensures.spare in
    let len = c.make_room.ensures.len in
    refused_is c.args.self.now c.self.inside.lanes c.self.inside.saved c.take.new.self c.self.inside.journal.items c.make_room.new.journal.items c.self.inside.taken.items c.self.inside.fault c.recorded-self-inside.result
    (vec_capacity c.self.inside.journal - vec_len c.self.inside.journal) (vec_capacity c.make_room.new.journal - vec_len c.make_room.new.journal) (length c.self.inside.journal.items) c.args.event.now c.in-Err-take.fault
    c.self.view_is at c.self.invariant.few first c.make_room.ensures.items c.recorded-self-inside.ensures (λ _. needs)
    (λ some. let left = room (omega (arith, some)) in omega (arith, some, left, len))
