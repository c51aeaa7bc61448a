use Rattle.std.proofs.Common.{◌≡◌, ℕ, ◌<◌, ◌≤◌, length, arith}
use Rattle.mls_hub.proofs.Seats.{go_further, refused_goes, refused_caused}
use Rattle.mls_hub.proofs.Leaving.{control_there}
use Rattle.mls_hub.proofs.Turnings.{caused_from}
use Rattle.mls_hub.proofs.Polling.{saved_none, saved_next, unsaved, saved_all, rank_fits}
use Rattle.mls_hub.proofs.turning.save_all.Goals as goal

pub loop-rank-init : goal.loop-rank-init
loop-rank-init g c = record { saved = saved_none g.L.PollLink g.F.RowFold g.K.Keeper g.N.Run c.args.books.now.items c.args.connections.now.items c.requires.kept }

pub offer_at-requires-clause-rank_in : goal.offer_at-requires-clause-rank_in
offer_at-requires-clause-rank_in g c =
    let here : c.loop-rank.rank < length c.args.books.now.items = (let lt = c.loop-rank-test.true in let end = c.len-rank-end.ensures in omega (arith, lt, end)) in
    (rank_fits g.L.PollLink g.F.RowFold g.K.Keeper g.N.Run c.loop-rank.rank c.args.books.now.items c.loop-rank.books.items c.args.connections.now.items here c.loop-rank.invariant.saved).1

pub offer_at-requires-clause-lane_in : goal.offer_at-requires-clause-lane_in
offer_at-requires-clause-lane_in g c = λ book there.
    let here : c.loop-rank.rank < length c.args.books.now.items = (let lt = c.loop-rank-test.true in let end = c.len-rank-end.ensures in omega (arith, lt, end)) in
    let fits = rank_fits g.L.PollLink g.F.RowFold g.K.Keeper g.N.Run c.loop-rank.rank c.args.books.now.items c.loop-rank.books.items c.args.connections.now.items here c.loop-rank.invariant.saved in
    control_there g.L.PollLink g.F.RowFold g.K.Keeper g.N.Run c.loop-rank.books.items c.args.connections.now.items c.loop-rank.rank book fits.0 c.loop-rank.invariant.saved.kept there

pub returns-in-Err-clause-stopped : goal.returns-in-Err-clause-stopped
returns-in-Err-clause-stopped g c = unsaved g.L.PollLink g.F.RowFold g.K.Keeper g.N.Run c.loop-rank.rank c.in-Err.fault c.args.books.now.items c.loop-rank.books.items c.offer_at.new.books.items c.args.connections.now.items c.loop-rank.invariant.saved c.in-Err.ensures.refused

pub returns-in-Err-clause-go_on : goal.returns-in-Err-clause-go_on
returns-in-Err-clause-go_on g c = go_further g.K.Keeper c.args.books.now.items c.loop-rank.books.items c.offer_at.new.books.items c.loop-rank.invariant.saved.go_on (refused_goes g.F.RowFold g.K.Keeper c.loop-rank.rank c.in-Err.fault c.loop-rank.books.items c.offer_at.new.books.items c.in-Err.ensures.refused)

pub returns-in-Err-clause-caused : goal.returns-in-Err-clause-caused
returns-in-Err-clause-caused g c = caused_from g.K.Keeper c.in-Err.fault c.args.books.now.items c.loop-rank.books.items c.offer_at.new.books.items c.loop-rank.invariant.saved.go_on (refused_caused g.F.RowFold g.K.Keeper c.loop-rank.rank c.in-Err.fault c.loop-rank.books.items c.offer_at.new.books.items c.in-Err.ensures.refused)

pub loop-rank-preserved : goal.loop-rank-preserved
loop-rank-preserved g c =
    let here : c.loop-rank.rank < length c.args.books.now.items = (let lt = c.loop-rank-test.true in let end = c.len-rank-end.ensures in omega (arith, lt, end)) in
    record { saved = saved_next g.L.PollLink g.F.RowFold g.K.Keeper g.N.Run c.loop-rank.rank c.args.books.now.items c.loop-rank.books.items c.offer_at.new.books.items c.args.connections.now.items here c.loop-rank.invariant.saved c.in-Ok.ensures.took }

pub returns-clause-saved : goal.returns-clause-saved
returns-clause-saved g c =
    saved_all g.L.PollLink g.F.RowFold g.K.Keeper g.N.Run c.loop-rank.rank c.args.books.now.items c.loop-rank.books.items c.args.connections.now.items c.loop-rank.invariant.saved
    (let end = c.loop-rank-test.false in let len = c.len-rank-end.ensures in omega (arith, end, len))
