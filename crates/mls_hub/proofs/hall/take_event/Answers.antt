use Rattle.std.proofs.Common.{true, false, ◌≡◌, ℕ, ◌<◌, ◌∷◌, [], ◌++◌, List, length, set, length-set, refl, sym, ap, subst, ◌∙◌, inl, arith}
use Rattle.mls_model.specs.Frames.{Frame}
use Rattle.mls_model.specs.declared.lanes.LaneKind.TheVariants as kinds
use Rattle.mls_model.specs.declared.lanes.LaneLine.{LaneLine}
use Rattle.mls_frame.specs.Views.{frame_of}
use Rattle.mls_rank.specs.Standing.{as_event}
use Rattle.mls_hub.specs.declared.connection.Connection.{Connection}
use Rattle.mls_hub.specs.declared.connection.Stage.{Stage}
use Rattle.mls_hub.specs.declared.connection.Stage.TheVariants as stages
use Rattle.mls_hub.specs.Books.{TookAt}
use Rattle.mls_hub.specs.Connections.{listens, is_live, IsOf, IsConnected, behind}
use Rattle.mls_hub.proofs.Elements.{given_at, element_set_same, same_element, one_set, more_moved}
use Rattle.mls_hub.proofs.Hallways.{weaker, as_strong}
use Rattle.mls_hub.proofs.Seats.{refused_caused}
use Rattle.mls_hub.proofs.Leaving.{welcomed_of, few_events, leaves_moved, leaves_frame, leaves_lost, leaves_ended, leaves_unsaved, rank_there, book_there, lane_there, control_there, events_fit}
use Rattle.mls_hub.proofs.Laning.{frame_heard, frame_lost, lane_ended, nothing_heard, stopped_at, ended_at}
use Rattle.mls_hub.proofs.Going.{ends_at, gave_at, waited_at}
use Rattle.mls_hub.proofs.hall.take_event.Goals as goal

pub listen-requires-clause-listens : goal.listen-requires-clause-listens
listen-requires-clause-listens g c =
    let at = given_at c.args.connections.now.items c.args.i c.index_mut.result.now c.requires.here c.index_mut.ensures.value in
    ap listens (c.requires.stage c.index_mut.result.now at)

pub listen-requires-clause-open : goal.listen-requires-clause-open
listen-requires-clause-open g c =
    let at = given_at c.args.connections.now.items c.args.i c.index_mut.result.now c.requires.here c.index_mut.ensures.value in
    (c.requires.kept.says.each c.args.i c.index_mut.result.now at).live (ap is_live (c.requires.stage c.index_mut.result.now at))

pub returns-in-Waits-clause-kept : goal.returns-in-Waits-clause-kept
returns-in-Waits-clause-kept g c =
    let conns = c.args.connections.now.items in
    let books = c.args.books.now.items in
    let before = c.index_mut.result.now in
    let mid = c.listen.new.self in
    let at = given_at conns c.args.i before c.requires.here c.index_mut.ensures.value in
    let stage : before.stage ≡ stages.Lane c.args.rank c.args.head = c.requires.stage before at in
    let stage' : mid.stage ≡ stages.Lane c.args.rank c.args.head = c.listen.ensures.stage ∙ stage in
    leaves_moved g.L.PollLink g.F.RowFold g.K.Keeper g.N.Run true books conns _ c.args.i before mid (as_strong g.L.PollLink g.N.Run.sizes) (one_set conns c.args.i mid) at (element_set_same conns c.args.i mid c.requires.here)
    (λ frames con. nothing_heard g.L.PollLink g.N.Run.sizes _ con.given frames mid c.in-Waits.ensures.ended (c.in-Waits.ensures.says g.N.Run.sizes _ con.given frames con.says))
    (λ rank of. inl (subst (λ (st : Stage). IsOf st rank) c.listen.ensures.stage of)) c.requires.kept

pub returns-in-Memory-clause-stopped : goal.returns-in-Memory-clause-stopped
returns-in-Memory-clause-stopped g c =
    let conns = c.args.connections.now.items in
    let books = c.args.books.now.items in
    let before = c.index_mut.result.now in
    let mid = c.listen.new.self in
    let at = given_at conns c.args.i before c.requires.here c.index_mut.ensures.value in
    let stage : before.stage ≡ stages.Lane c.args.rank c.args.head = c.requires.stage before at in
    let stage' : mid.stage ≡ stages.Lane c.args.rank c.args.head = c.listen.ensures.stage ∙ stage in
    leaves_moved g.L.PollLink g.F.RowFold g.K.Keeper g.N.Run false books conns _ c.args.i before mid (weaker g.L.PollLink g.N.Run.sizes) (one_set conns c.args.i mid) at (element_set_same conns c.args.i mid c.requires.here)
    (λ frames con. weaker g.L.PollLink g.N.Run.sizes _ frames mid (nothing_heard g.L.PollLink g.N.Run.sizes _ con.given frames mid c.in-Memory.ensures.ended (c.in-Memory.ensures.says g.N.Run.sizes _ con.given frames con.says)))
    (λ rank of. inl (subst (λ (st : Stage). IsOf st rank) c.listen.ensures.stage of)) c.requires.kept

pub returns-in-Waits-clause-gone : goal.returns-in-Waits-clause-gone
returns-in-Waits-clause-gone g c =
    let at = given_at c.args.connections.now.items c.args.i c.index_mut.result.now c.requires.here c.index_mut.ensures.value in
    waited_at g.L.PollLink c.args.connections.now.items c.args.i c.index_mut.result.now c.listen.new.self c.requires.here at c.in-Waits.ensures.waits

pub offer_at-requires-clause-rank_in : goal.offer_at-requires-clause-rank_in
offer_at-requires-clause-rank_in g c =
    let conns = c.args.connections.now.items in
    let books = c.args.books.now.items in
    let before = c.index_mut.result.now in
    let at = given_at conns c.args.i before c.requires.here c.index_mut.ensures.value in
    let stage : before.stage ≡ stages.Lane c.args.rank c.args.head = c.requires.stage before at in
    let lt = rank_there g.L.PollLink g.F.RowFold g.K.Keeper g.N.Run books conns c.args.i c.args.rank c.args.head before at stage c.requires.kept in
    book_there g.L.PollLink g.F.RowFold g.K.Keeper g.N.Run books conns c.args.rank lt c.requires.kept

pub offer_at-requires-clause-lane_in : goal.offer_at-requires-clause-lane_in
offer_at-requires-clause-lane_in g c = λ book there. lane_there g.L.PollLink g.F.RowFold g.K.Keeper g.N.Run c.args.books.now.items c.args.connections.now.items c.args.i c.args.lane c.args.rank book c.requires.lane c.requires.here c.requires.kept there

pub taken_at-events-requires-clause-rank_in : goal.taken_at-events-requires-clause-rank_in
taken_at-events-requires-clause-rank_in g c =
    let conns = c.args.connections.now.items in
    let books = c.args.books.now.items in
    let before = c.index_mut.result.now in
    let at = given_at conns c.args.i before c.requires.here c.index_mut.ensures.value in
    let stage : before.stage ≡ stages.Lane c.args.rank c.args.head = c.requires.stage before at in
    let lt = rank_there g.L.PollLink g.F.RowFold g.K.Keeper g.N.Run books conns c.args.i c.args.rank c.args.head before at stage c.requires.kept in
    book_there g.L.PollLink g.F.RowFold g.K.Keeper g.N.Run books conns c.args.rank lt c.requires.kept

pub taken_at-events-requires-clause-lane_in : goal.taken_at-events-requires-clause-lane_in
taken_at-events-requires-clause-lane_in g c = λ book there. lane_there g.L.PollLink g.F.RowFold g.K.Keeper g.N.Run c.args.books.now.items c.args.connections.now.items c.args.i c.args.lane c.args.rank book c.requires.lane c.requires.here c.requires.kept there

pub offer_at-requires-in-End-clause-rank_in : goal.offer_at-requires-in-End-clause-rank_in
offer_at-requires-in-End-clause-rank_in g c =
    let conns = c.args.connections.now.items in
    let books = c.args.books.now.items in
    let before = c.index_mut.result.now in
    let at = given_at conns c.args.i before c.requires.here c.index_mut.ensures.value in
    let stage : before.stage ≡ stages.Lane c.args.rank c.args.head = c.requires.stage before at in
    let lt = rank_there g.L.PollLink g.F.RowFold g.K.Keeper g.N.Run books conns c.args.i c.args.rank c.args.head before at stage c.requires.kept in
    book_there g.L.PollLink g.F.RowFold g.K.Keeper g.N.Run books conns c.args.rank lt c.requires.kept

pub offer_at-requires-in-End-clause-lane_in : goal.offer_at-requires-in-End-clause-lane_in
offer_at-requires-in-End-clause-lane_in g c = λ book there.
    let conns = c.args.connections.now.items in
    let books = c.args.books.now.items in
    let before = c.index_mut.result.now in
    let at = given_at conns c.args.i before c.requires.here c.index_mut.ensures.value in
    let stage : before.stage ≡ stages.Lane c.args.rank c.args.head = c.requires.stage before at in
    let lt = rank_there g.L.PollLink g.F.RowFold g.K.Keeper g.N.Run books conns c.args.i c.args.rank c.args.head before at stage c.requires.kept in
    control_there g.L.PollLink g.F.RowFold g.K.Keeper g.N.Run books conns c.args.rank book lt c.requires.kept there

pub returns-in-Ok-clause-kept : goal.returns-in-Ok-clause-kept
returns-in-Ok-clause-kept g c =
    let conns = c.args.connections.now.items in
    let books = c.args.books.now.items in
    let before = c.index_mut.result.now in
    let mid = c.listen.new.self in
    let at = given_at conns c.args.i before c.requires.here c.index_mut.ensures.value in
    let stage : before.stage ≡ stages.Lane c.args.rank c.args.head = c.requires.stage before at in
    let stage' : mid.stage ≡ stages.Lane c.args.rank c.args.head = c.listen.ensures.stage ∙ stage in
    let frame = c.in-Frame.frame in
    let same : frame_of c.view.result ≡ frame = (let a = c.view.ensures.frame in let b = c.frame.view_is in cc) in
    let took = subst (λ (f : Frame). TookAt g.F.RowFold g.K.Keeper c.args.rank c.args.lane (as_event kinds.Client f) books c.offer_at.new.books.items) same c.in-Ok.ensures.took in
    leaves_frame g.L.PollLink g.F.RowFold g.K.Keeper g.N.Run books c.offer_at.new.books.items conns _ c.args.i c.args.lane c.args.rank c.args.head before mid frame c.requires.lane (one_set conns c.args.i mid) at (element_set_same conns c.args.i mid c.requires.here) stage stage' took
    (λ frames con. frame_heard g.L.PollLink g.N.Run.sizes _ c.args.rank c.args.head (con.given ++ frame ∷ []) frames frame mid stage' c.in-Frame.ensures.ended (c.in-Frame.ensures.says g.N.Run.sizes _ con.given frames con.says)) c.requires.kept

pub returns-in-Ok-clause-gone : goal.returns-in-Ok-clause-gone
returns-in-Ok-clause-gone g c =
    let at = given_at c.args.connections.now.items c.args.i c.index_mut.result.now c.requires.here c.index_mut.ensures.value in
    gave_at g.L.PollLink 1 c.args.connections.now.items c.args.i c.index_mut.result.now c.listen.new.self c.requires.here at (record { later = c.in-Frame.ensures.later; more = c.in-Frame.frame ∷ []; count = refl; gave = c.in-Frame.ensures.gave })

pub returns-in-Frame-clause-stopped : goal.returns-in-Frame-clause-stopped
returns-in-Frame-clause-stopped g c =
    let conns = c.args.connections.now.items in
    let books = c.args.books.now.items in
    let before = c.index_mut.result.now in
    let mid = c.listen.new.self in
    let at = given_at conns c.args.i before c.requires.here c.index_mut.ensures.value in
    let stage : before.stage ≡ stages.Lane c.args.rank c.args.head = c.requires.stage before at in
    let stage' : mid.stage ≡ stages.Lane c.args.rank c.args.head = c.listen.ensures.stage ∙ stage in
    let frame = c.in-Frame.frame in
    let list = set conns c.args.i mid in
    let len = length-set conns c.args.i mid in
    let here' : c.args.i < length list = (let h = c.requires.here in omega (arith, h, len)) in
    let now = c.index_mut-in-Err.result.now in
    let same : now ≡ mid = same_element list c.args.i now mid (given_at list c.args.i now here' c.index_mut-in-Err.ensures.value) (element_set_same conns c.args.i mid c.requires.here) in
    let last = stopped_at now in
    leaves_lost g.L.PollLink g.F.RowFold g.K.Keeper g.N.Run books c.offer_at.new.books.items conns _ c.args.i c.args.rank c.in-Err.fault before last (more_moved c.args.i conns list _ (one_set conns c.args.i mid) (one_set list c.args.i last)) at (element_set_same list c.args.i last here') c.in-Err.ensures.refused
    (λ frames con. frame_lost g.L.PollLink g.N.Run.sizes _ c.args.rank c.args.head (con.given ++ frame ∷ []) frames frame mid last stage' (c.in-Frame.ensures.says g.N.Run.sizes _ con.given frames con.says) (ap (λ (x : Connection g.row.L.Denot). x.stream) same) (ap (λ (x : Connection g.row.L.Denot). x.answer.items) same) (ap (λ (x : Connection g.row.L.Denot). x.written) same) refl)
    (λ rank of. absurd of) c.requires.kept

pub returns-in-Frame-clause-caused : goal.returns-in-Frame-clause-caused
returns-in-Frame-clause-caused g c = refused_caused g.F.RowFold g.K.Keeper c.args.rank c.in-Err.fault c.args.books.now.items c.offer_at.new.books.items c.in-Err.ensures.refused

pub line_of-line-requires : goal.line_of-line-requires
line_of-line-requires g c =
    let conns = c.args.connections.now.items in
    let books = c.args.books.now.items in
    let before = c.index_mut.result.now in
    let mid = c.listen.new.self in
    let at = given_at conns c.args.i before c.requires.here c.index_mut.ensures.value in
    let stage : before.stage ≡ stages.Lane c.args.rank c.args.head = c.requires.stage before at in
    let stage' : mid.stage ≡ stages.Lane c.args.rank c.args.head = c.listen.ensures.stage ∙ stage in
    events_fit g.L.PollLink g.F.RowFold g.K.Keeper g.N.Run books conns c.args.i c.args.lane c.args.rank c.args.head c.taken_at-events.result before mid c.requires.lane at stage stage' c.taken_at-events.ensures c.in-End.ensures.bound (λ given frames says. c.in-End.ensures.says g.N.Run.sizes _ given frames says) c.requires.kept

pub returns-in-Ok-offer_at-clause-kept : goal.returns-in-Ok-offer_at-clause-kept
returns-in-Ok-offer_at-clause-kept g c =
    let conns = c.args.connections.now.items in
    let books = c.args.books.now.items in
    let before = c.index_mut.result.now in
    let mid = c.listen.new.self in
    let at = given_at conns c.args.i before c.requires.here c.index_mut.ensures.value in
    let stage : before.stage ≡ stages.Lane c.args.rank c.args.head = c.requires.stage before at in
    let stage' : mid.stage ≡ stages.Lane c.args.rank c.args.head = c.listen.ensures.stage ∙ stage in
    let lt = rank_there g.L.PollLink g.F.RowFold g.K.Keeper g.N.Run books conns c.args.i c.args.rank c.args.head before at stage c.requires.kept in
    let list = set conns c.args.i mid in
    let len = length-set conns c.args.i mid in
    let here' : c.args.i < length list = (let h = c.requires.here in omega (arith, h, len)) in
    let now = c.index_mut-in-End.result.now in
    let same : now ≡ mid = same_element list c.args.i now mid (given_at list c.args.i now here' c.index_mut-in-End.ensures.value) (element_set_same conns c.args.i mid c.requires.here) in
    let line = c.line_of-line.result in
    let last = ended_at now line in
    leaves_ended g.L.PollLink g.F.RowFold g.K.Keeper g.N.Run books c.offer_at-in-End.new.books.items conns _ c.args.i c.args.lane c.args.rank c.args.head c.taken_at-events.result before last c.requires.lane lt (more_moved c.args.i conns list _ (one_set conns c.args.i mid) (one_set list c.args.i last)) at (element_set_same list c.args.i last here') stage
    c.taken_at-events.ensures c.in-Ok-offer_at.ensures.took
    (λ frames count con. lane_ended g.L.PollLink g.N.Run.sizes _ c.args.rank c.args.head c.taken_at-events.result con.given frames c.in-End.end line mid last stage' (c.in-End.ensures.says g.N.Run.sizes _ con.given frames con.says) (c.in-End.ensures.ends con.given con.says.has)
    (c.line_of-line.ensures ∙ ap (λ (n : ℕ). record { lane = n; rank = c.args.rank; kind = kinds.Client; events = c.taken_at-events.result; end = behind c.args.head c.in-End.end }) c.requires.lane) count
    (ap (λ (x : Connection g.row.L.Denot). x.stream) same) (ap (λ (x : Connection g.row.L.Denot). x.answer.items) same) (ap (λ (x : Connection g.row.L.Denot). x.written) same) refl)
    (λ rank of. inl (subst (λ (st : Stage). IsOf st rank) (sym stage) (sym (ap (λ (l : LaneLine). l.rank) c.line_of-line.ensures) ∙ of))) c.requires.kept

pub returns-in-Ok-offer_at-clause-gone : goal.returns-in-Ok-offer_at-clause-gone
returns-in-Ok-offer_at-clause-gone g c =
    let conns = c.args.connections.now.items in
    let books = c.args.books.now.items in
    let before = c.index_mut.result.now in
    let mid = c.listen.new.self in
    let at = given_at conns c.args.i before c.requires.here c.index_mut.ensures.value in
    let stage : before.stage ≡ stages.Lane c.args.rank c.args.head = c.requires.stage before at in
    let stage' : mid.stage ≡ stages.Lane c.args.rank c.args.head = c.listen.ensures.stage ∙ stage in
    let lt = rank_there g.L.PollLink g.F.RowFold g.K.Keeper g.N.Run books conns c.args.i c.args.rank c.args.head before at stage c.requires.kept in
    let list = set conns c.args.i mid in
    let len = length-set conns c.args.i mid in
    let here' : c.args.i < length list = (let h = c.requires.here in omega (arith, h, len)) in
    let now = c.index_mut-in-End.result.now in
    let same : now ≡ mid = same_element list c.args.i now mid (given_at list c.args.i now here' c.index_mut-in-End.ensures.value) (element_set_same conns c.args.i mid c.requires.here) in
    let line = c.line_of-line.result in
    let last = ended_at now line in
    ends_at list c.args.i last here' refl

pub returns-clause-stopped : goal.returns-clause-stopped
returns-clause-stopped g c =
    let conns = c.args.connections.now.items in
    let books = c.args.books.now.items in
    let before = c.index_mut.result.now in
    let mid = c.listen.new.self in
    let at = given_at conns c.args.i before c.requires.here c.index_mut.ensures.value in
    let stage : before.stage ≡ stages.Lane c.args.rank c.args.head = c.requires.stage before at in
    let stage' : mid.stage ≡ stages.Lane c.args.rank c.args.head = c.listen.ensures.stage ∙ stage in
    let lt = rank_there g.L.PollLink g.F.RowFold g.K.Keeper g.N.Run books conns c.args.i c.args.rank c.args.head before at stage c.requires.kept in
    let list = set conns c.args.i mid in
    let len = length-set conns c.args.i mid in
    let here' : c.args.i < length list = (let h = c.requires.here in omega (arith, h, len)) in
    let now = c.index_mut-in-End.result.now in
    let same : now ≡ mid = same_element list c.args.i now mid (given_at list c.args.i now here' c.index_mut-in-End.ensures.value) (element_set_same conns c.args.i mid c.requires.here) in
    let line = c.line_of-line.result in
    let last = ended_at now line in
    leaves_unsaved g.L.PollLink g.F.RowFold g.K.Keeper g.N.Run books c.offer_at-in-End.new.books.items conns _ c.args.i c.args.lane c.args.rank c.args.head c.taken_at-events.result c.in-Err-offer_at.fault before last c.requires.lane (more_moved c.args.i conns list _ (one_set conns c.args.i mid) (one_set list c.args.i last)) at (element_set_same list c.args.i last here') stage
    c.taken_at-events.ensures c.in-Err-offer_at.ensures.refused
    (λ frames count con. lane_ended g.L.PollLink g.N.Run.sizes _ c.args.rank c.args.head c.taken_at-events.result con.given frames c.in-End.end line mid last stage' (c.in-End.ensures.says g.N.Run.sizes _ con.given frames con.says) (c.in-End.ensures.ends con.given con.says.has)
    (c.line_of-line.ensures ∙ ap (λ (n : ℕ). record { lane = n; rank = c.args.rank; kind = kinds.Client; events = c.taken_at-events.result; end = behind c.args.head c.in-End.end }) c.requires.lane) count
    (ap (λ (x : Connection g.row.L.Denot). x.stream) same) (ap (λ (x : Connection g.row.L.Denot). x.answer.items) same) (ap (λ (x : Connection g.row.L.Denot). x.written) same) refl)
    (λ rank of. inl (subst (λ (st : Stage). IsOf st rank) (sym stage) (sym (ap (λ (l : LaneLine). l.rank) c.line_of-line.ensures) ∙ of))) c.requires.kept

pub returns-clause-caused : goal.returns-clause-caused
returns-clause-caused g c = refused_caused g.F.RowFold g.K.Keeper c.args.rank c.in-Err-offer_at.fault c.args.books.now.items c.offer_at-in-End.new.books.items c.in-Err-offer_at.ensures.refused
