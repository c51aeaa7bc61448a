use Rattle.std.proofs.Common.{length, ap, sym, subst, refl, ◌∙◌, arith, ℕ, length-append}
use Rattle.std.proofs.lemmas.Result.{err_from_is_err_and}
use Rattle.mls_frame.specs.Feeding.{Fed}
use Rattle.mls_serve.specs.Steps.{Moving}
use Rattle.mls_serve.proofs.Steps.{SoFar, starts, took, took_some, more_came, all_served, was_stopped, as_took, as_read, as_ended}
use Rattle.mls_serve.proofs.frames.serve_frames.Goals as goal

pub loop-events-init : goal.loop-events-init
loop-events-init g c =
    let start : Moving = record { told = g.L.Link.told c.args.link.now; faults = g.L.Link.faults c.args.link.now; posts = g.P.Post.told c.args.post.now; fed = c.args.feeder.now } in
    record {
      so_far = subst (λ (head : ℕ). SoFar c.args.seat.rank c.args.seat.lane head 0 c.args.feeder.now.rest start start) (sym c.offset-head.ensures) (starts c.args.seat.rank c.args.seat.lane start);
      few = omega (arith, c.offset-head.ensures, c.requires.few);
      enough = omega (arith, c.offset-head.ensures);
      faults = refl;
      ranks = refl;
      lanes = refl;
    }

pub returns-in_err-advance-clause-stopped : goal.returns-in_err-advance-clause-stopped
returns-in_err-advance-clause-stopped g c =
    let start : Moving = record { told = g.L.Link.told c.args.link.now; faults = g.L.Link.faults c.args.link.now; posts = g.P.Post.told c.args.post.now; fed = c.args.feeder.now } in
    let now : Moving = record { told = g.L.Link.told c.loop-events.link; faults = g.L.Link.faults c.loop-events.link; posts = g.P.Post.told c.loop-events.post; fed = c.loop-events.feeder } in
    let next : Moving = record { told = g.L.Link.told c.advance.new.link; faults = g.L.Link.faults c.advance.new.link; posts = g.P.Post.told c.advance.new.post; fed = c.advance.new.feeder } in
    let rank = c.args.seat.rank in
    let lane = c.args.seat.lane in
    let head = c.offset-head.result in
    let events = c.loop-events.events in
    let first = c.args.feeder.now.rest in
    let p = err_from_is_err_and c.from_residual.result c.from_residual.ensures.1 in
    rw p.1 (was_stopped rank lane head events first start now next c.valid.ensures.bytes c.loop-events.invariant.so_far c.in_err-advance.ensures.stopped)

pub loop-events-smaller-in-Took : goal.loop-events-smaller-in-Took
loop-events-smaller-in-Took g c =
    let start : Moving = record { told = g.L.Link.told c.args.link.now; faults = g.L.Link.faults c.args.link.now; posts = g.P.Post.told c.args.post.now; fed = c.args.feeder.now } in
    let now : Moving = record { told = g.L.Link.told c.loop-events.link; faults = g.L.Link.faults c.loop-events.link; posts = g.P.Post.told c.loop-events.post; fed = c.loop-events.feeder } in
    let next : Moving = record { told = g.L.Link.told c.advance.new.link; faults = g.L.Link.faults c.advance.new.link; posts = g.P.Post.told c.advance.new.post; fed = c.advance.new.feeder } in
    let rank = c.args.seat.rank in
    let lane = c.args.seat.lane in
    let head = c.offset-head.result in
    let events = c.loop-events.events in
    let first = c.args.feeder.now.rest in
    let step = as_took c.in_ok-advance.field-0 rank lane head now next c.in-Took.is c.in_ok-advance.ensures.stepped in
    let t = took_some rank lane head events first start now next c.valid.ensures.bytes c.loop-events.invariant.so_far step in
    omega (arith, t.some, t.offset, t.rest, c.loop-events.invariant.few)

pub loop-events-preserved-in-Took : goal.loop-events-preserved-in-Took
loop-events-preserved-in-Took g c =
    let start : Moving = record { told = g.L.Link.told c.args.link.now; faults = g.L.Link.faults c.args.link.now; posts = g.P.Post.told c.args.post.now; fed = c.args.feeder.now } in
    let now : Moving = record { told = g.L.Link.told c.loop-events.link; faults = g.L.Link.faults c.loop-events.link; posts = g.P.Post.told c.loop-events.post; fed = c.loop-events.feeder } in
    let next : Moving = record { told = g.L.Link.told c.advance.new.link; faults = g.L.Link.faults c.advance.new.link; posts = g.P.Post.told c.advance.new.post; fed = c.advance.new.feeder } in
    let rank = c.args.seat.rank in
    let lane = c.args.seat.lane in
    let head = c.offset-head.result in
    let events = c.loop-events.events in
    let first = c.args.feeder.now.rest in
    let step = as_took c.in_ok-advance.field-0 rank lane head now next c.in-Took.is c.in_ok-advance.ensures.stepped in
    let i = c.loop-events.invariant in
    let t = took_some rank lane head events first start now next c.valid.ensures.bytes i.so_far step in
    record {
      so_far = took rank lane head events first start now next c.valid.ensures.bytes i.so_far step;
      few = omega (arith, t.offset, t.rest, i.few);
      enough = omega (arith, t.some, t.offset, i.enough);
      faults = c.in_ok-advance.ensures.faults ∙ i.faults;
      ranks = c.in_ok-advance.ensures.ranks ∙ i.ranks;
      lanes = c.in_ok-advance.ensures.lanes ∙ i.lanes;
    }

pub loop-events-smaller : goal.loop-events-smaller
loop-events-smaller g c =
    let start : Moving = record { told = g.L.Link.told c.args.link.now; faults = g.L.Link.faults c.args.link.now; posts = g.P.Post.told c.args.post.now; fed = c.args.feeder.now } in
    let now : Moving = record { told = g.L.Link.told c.loop-events.link; faults = g.L.Link.faults c.loop-events.link; posts = g.P.Post.told c.loop-events.post; fed = c.loop-events.feeder } in
    let next : Moving = record { told = g.L.Link.told c.advance.new.link; faults = g.L.Link.faults c.advance.new.link; posts = g.P.Post.told c.advance.new.post; fed = c.advance.new.feeder } in
    let rank = c.args.seat.rank in
    let lane = c.args.seat.lane in
    let head = c.offset-head.result in
    let events = c.loop-events.events in
    let first = c.args.feeder.now.rest in
    let step = as_read c.in_ok-advance.field-0 rank lane head now next c.in-Read.is c.in_ok-advance.ensures.stepped in
    let fed = step.read.fed in
    omega (arith, step.read.some, step.read.few, ap (λ (x : Fed). x.offset) fed, ap (λ (x : Fed). length x.rest) fed, length-append c.loop-events.feeder.rest step.read.piece, c.loop-events.invariant.few)

pub loop-events-preserved : goal.loop-events-preserved
loop-events-preserved g c =
    let start : Moving = record { told = g.L.Link.told c.args.link.now; faults = g.L.Link.faults c.args.link.now; posts = g.P.Post.told c.args.post.now; fed = c.args.feeder.now } in
    let now : Moving = record { told = g.L.Link.told c.loop-events.link; faults = g.L.Link.faults c.loop-events.link; posts = g.P.Post.told c.loop-events.post; fed = c.loop-events.feeder } in
    let next : Moving = record { told = g.L.Link.told c.advance.new.link; faults = g.L.Link.faults c.advance.new.link; posts = g.P.Post.told c.advance.new.post; fed = c.advance.new.feeder } in
    let rank = c.args.seat.rank in
    let lane = c.args.seat.lane in
    let head = c.offset-head.result in
    let events = c.loop-events.events in
    let first = c.args.feeder.now.rest in
    let step = as_read c.in_ok-advance.field-0 rank lane head now next c.in-Read.is c.in_ok-advance.ensures.stepped in
    let i = c.loop-events.invariant in
    let fed = step.read.fed in
    record {
      so_far = more_came rank lane head events first start now next i.so_far step;
      few = omega (arith, step.read.few, ap (λ (x : Fed). x.offset) fed, ap (λ (x : Fed). length x.rest) fed, length-append c.loop-events.feeder.rest step.read.piece);
      enough = omega (arith, i.enough, ap (λ (x : Fed). x.offset) fed);
      faults = c.in_ok-advance.ensures.faults ∙ i.faults;
      ranks = c.in_ok-advance.ensures.ranks ∙ i.ranks;
      lanes = c.in_ok-advance.ensures.lanes ∙ i.lanes;
    }

pub returns-in-Ended-clause-served : goal.returns-in-Ended-clause-served
returns-in-Ended-clause-served g c =
    let start : Moving = record { told = g.L.Link.told c.args.link.now; faults = g.L.Link.faults c.args.link.now; posts = g.P.Post.told c.args.post.now; fed = c.args.feeder.now } in
    let now : Moving = record { told = g.L.Link.told c.loop-events.link; faults = g.L.Link.faults c.loop-events.link; posts = g.P.Post.told c.loop-events.post; fed = c.loop-events.feeder } in
    let next : Moving = record { told = g.L.Link.told c.advance.new.link; faults = g.L.Link.faults c.advance.new.link; posts = g.P.Post.told c.advance.new.post; fed = c.advance.new.feeder } in
    let rank = c.args.seat.rank in
    let lane = c.args.seat.lane in
    let head = c.offset-head.result in
    let events = c.loop-events.events in
    let first = c.args.feeder.now.rest in
    let step = as_ended c.in_ok-advance.field-0 c.in-Ended.end rank lane head now next c.in-Ended.is c.in_ok-advance.ensures.stepped in
    all_served rank lane head events c.in-Ended.end first start now next c.valid.ensures.bytes c.loop-events.invariant.so_far step
