use Rattle.std.proofs.Common.{◌≡◌, ℕ, ◌<◌, ◌≤◌, length, true, false, ◌∙◌, arith}
use Rattle.std.proofs.lemmas.Bool.{true≢false}
use Rattle.mls_hub.proofs.Seats.{go_further}
use Rattle.mls_hub.proofs.Turnings.{caused_from}
use Rattle.mls_hub.proofs.Polling.{polled_none, polled_more, polled_all, polled_waits, armed_more}
use Rattle.mls_hub.proofs.turning.poll_all.Goals as goal

pub loop-i-init : goal.loop-i-init
loop-i-init g c = record {
  polled = polled_none g.L.PollLink g.F.RowFold g.K.Keeper g.N.Run c.args.books.now.items c.args.connections.now.items c.requires.kept;
  armed = λ e. absurd (true≢false e);
  kept = λ fact h. h;
}

pub poll_one-requires-clause-here : goal.poll_one-requires-clause-here
poll_one-requires-clause-here g c =
    let lt = c.loop-i-test.true in
    let end = c.len-i-end.ensures in
    let same = c.loop-i.invariant.polled.count in
    omega (arith, lt, end, same)

pub returns-in-Err-clause-count : goal.returns-in-Err-clause-count
returns-in-Err-clause-count g c = c.in-Err.ensures.stopped.moved.count ∙ c.loop-i.invariant.polled.count

pub returns-in-Err-clause-go_on : goal.returns-in-Err-clause-go_on
returns-in-Err-clause-go_on g c = go_further g.K.Keeper c.args.books.now.items c.loop-i.books.items c.poll_one.new.books.items c.loop-i.invariant.polled.go_on c.in-Err.ensures.stopped.go_on

pub returns-in-Err-clause-caused : goal.returns-in-Err-clause-caused
returns-in-Err-clause-caused g c = caused_from g.K.Keeper c.in-Err.fault c.args.books.now.items c.loop-i.books.items c.poll_one.new.books.items c.loop-i.invariant.polled.go_on c.in-Err.ensures.caused

pub loop-i-preserved : goal.loop-i-preserved
loop-i-preserved g c = record {
  polled = polled_more g.L.PollLink g.F.RowFold g.K.Keeper g.N.Run c.loop-i.i c.loop-i.all c.in-Ok.ended c.args.books.now.items c.loop-i.books.items c.poll_one.new.books.items c.args.connections.now.items c.loop-i.connections.items c.poll_one.new.connections.items c.loop-i.invariant.polled c.in-Ok.ensures.kept c.in-Ok.ensures.ended c.in-Ok.ensures.pending;
  armed = armed_more c.loop-i.all c.in-Ok.ended c.loop-i.cx c.poll_one.new.cx c.poll_one.ensures.cx_kept c.loop-i.invariant.armed c.in-Ok.ensures.armed;
  kept = λ fact h. c.poll_one.ensures.cx_kept fact (c.loop-i.invariant.kept fact h);
}

pub returns-clause-ended : goal.returns-clause-ended
returns-clause-ended g c =
    polled_all g.L.PollLink g.F.RowFold g.K.Keeper g.N.Run c.loop-i.i c.loop-i.all c.args.books.now.items c.loop-i.books.items c.args.connections.now.items c.loop-i.connections.items c.loop-i.invariant.polled
    (let end = c.loop-i-test.false in let len = c.len-i-end.ensures in omega (arith, end, len))

pub returns-clause-waits : goal.returns-clause-waits
returns-clause-waits g c =
    polled_waits g.L.PollLink g.F.RowFold g.K.Keeper g.N.Run c.loop-i.i c.loop-i.all c.args.books.now.items c.loop-i.books.items c.args.connections.now.items c.loop-i.connections.items c.loop-i.invariant.polled
    (let most = c.loop-i.auto.i-end in let len = c.len-i-end.ensures in omega (arith, most, len))
