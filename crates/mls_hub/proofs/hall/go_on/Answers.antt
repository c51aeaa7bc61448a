use Rattle.std.proofs.Common.{true, false, ℕ, ◌+◌, ap}
use Rattle.mls_hub.proofs.Elements.{given_at, element_set_same, one_set}
use Rattle.mls_hub.proofs.Hallways.{weaker, as_strong}
use Rattle.mls_hub.proofs.Leaving.{leaves_moved}
use Rattle.mls_hub.proofs.Going.{not_stopped, at_lane, stage_at, ends_at, gave_at, waited_at, gone_from, ok_more, err_more}
use Rattle.mls_hub.proofs.hall.go_on.Goals as goal

pub settle-requires-clause-running : goal.settle-requires-clause-running
settle-requires-clause-running g c =
    let at = given_at c.args.connections.now.items c.args.i c.index_mut.result.now c.requires.here c.index_mut.ensures.value in
    not_stopped g.L.PollLink g.N.Run.sizes _ _ c.index_mut.result.now (c.requires.kept.says.each c.args.i c.index_mut.result.now at)

pub settle-requires-clause-live : goal.settle-requires-clause-live
settle-requires-clause-live g c =
    let at = given_at c.args.connections.now.items c.args.i c.index_mut.result.now c.requires.here c.index_mut.ensures.value in
    (c.requires.kept.says.each c.args.i c.index_mut.result.now at).live

pub settle-requires-clause-fits : goal.settle-requires-clause-fits
settle-requires-clause-fits g c =
    let at = given_at c.args.connections.now.items c.args.i c.index_mut.result.now c.requires.here c.index_mut.ensures.value in
    (c.requires.kept.says.each c.args.i c.index_mut.result.now at).says.fits

pub returns-in-Err-clause-stopped : goal.returns-in-Err-clause-stopped
returns-in-Err-clause-stopped g c =
    let conns = c.args.connections.now.items in
    let before = c.index_mut.result.now in
    let now = c.settle.new.self in
    let at = given_at conns c.args.i before c.requires.here c.index_mut.ensures.value in
    leaves_moved g.L.PollLink g.F.RowFold g.K.Keeper g.N.Run false c.args.books.now.items conns _ c.args.i before now (weaker g.L.PollLink g.N.Run.sizes) (one_set conns c.args.i now) at (element_set_same conns c.args.i now c.requires.here)
    (at_lane g.L.PollLink c.args.shape.now g.N.Run.sizes false _ c.args.i before now c.requires.sizes (ap (λ (n : ℕ). n + c.args.i) c.ranks.ensures.value) c.in-Err.ensures.kept) c.in-Err.ensures.lanes c.requires.kept

pub returns-in-Ok-Took-clause-kept : goal.returns-in-Ok-Took-clause-kept
returns-in-Ok-Took-clause-kept g c =
    let conns = c.args.connections.now.items in
    let before = c.index_mut.result.now in
    let now = c.settle.new.self in
    let at = given_at conns c.args.i before c.requires.here c.index_mut.ensures.value in
    leaves_moved g.L.PollLink g.F.RowFold g.K.Keeper g.N.Run true c.args.books.now.items conns _ c.args.i before now (as_strong g.L.PollLink g.N.Run.sizes) (one_set conns c.args.i now) at (element_set_same conns c.args.i now c.requires.here)
    (at_lane g.L.PollLink c.args.shape.now g.N.Run.sizes true _ c.args.i before now c.requires.sizes (ap (λ (n : ℕ). n + c.args.i) c.ranks.ensures.value) c.in-Ok-Took.ensures.kept) c.in-Ok-Took.ensures.lanes c.requires.kept

pub returns-in-Ok-Waits-clause-kept : goal.returns-in-Ok-Waits-clause-kept
returns-in-Ok-Waits-clause-kept g c =
    let conns = c.args.connections.now.items in
    let before = c.index_mut.result.now in
    let now = c.settle.new.self in
    let at = given_at conns c.args.i before c.requires.here c.index_mut.ensures.value in
    leaves_moved g.L.PollLink g.F.RowFold g.K.Keeper g.N.Run true c.args.books.now.items conns _ c.args.i before now (as_strong g.L.PollLink g.N.Run.sizes) (one_set conns c.args.i now) at (element_set_same conns c.args.i now c.requires.here)
    (at_lane g.L.PollLink c.args.shape.now g.N.Run.sizes true _ c.args.i before now c.requires.sizes (ap (λ (n : ℕ). n + c.args.i) c.ranks.ensures.value) c.in-Ok-Waits.ensures.kept) c.in-Ok-Waits.ensures.lanes c.requires.kept

pub returns-in-Ok-Ended-clause-kept : goal.returns-in-Ok-Ended-clause-kept
returns-in-Ok-Ended-clause-kept g c =
    let conns = c.args.connections.now.items in
    let before = c.index_mut.result.now in
    let now = c.settle.new.self in
    let at = given_at conns c.args.i before c.requires.here c.index_mut.ensures.value in
    leaves_moved g.L.PollLink g.F.RowFold g.K.Keeper g.N.Run true c.args.books.now.items conns _ c.args.i before now (as_strong g.L.PollLink g.N.Run.sizes) (one_set conns c.args.i now) at (element_set_same conns c.args.i now c.requires.here)
    (at_lane g.L.PollLink c.args.shape.now g.N.Run.sizes true _ c.args.i before now c.requires.sizes (ap (λ (n : ℕ). n + c.args.i) c.ranks.ensures.value) c.in-Ok-Ended.ensures.kept) c.in-Ok-Ended.ensures.lanes c.requires.kept

pub take_event-requires-clause-kept : goal.take_event-requires-clause-kept
take_event-requires-clause-kept g c =
    let conns = c.args.connections.now.items in
    let before = c.index_mut.result.now in
    let now = c.settle.new.self in
    let at = given_at conns c.args.i before c.requires.here c.index_mut.ensures.value in
    (leaves_moved g.L.PollLink g.F.RowFold g.K.Keeper g.N.Run true c.args.books.now.items conns _ c.args.i before now (as_strong g.L.PollLink g.N.Run.sizes) (one_set conns c.args.i now) at (element_set_same conns c.args.i now c.requires.here)
    (at_lane g.L.PollLink c.args.shape.now g.N.Run.sizes true _ c.args.i before now c.requires.sizes (ap (λ (n : ℕ). n + c.args.i) c.ranks.ensures.value) c.in-Ok-Lane.ensures.kept) c.in-Ok-Lane.ensures.lanes c.requires.kept).kept

pub take_event-requires-clause-stage : goal.take_event-requires-clause-stage
take_event-requires-clause-stage g c =
    let s = rw c.in-Ok-Lane.field-0-is at c.in-Ok-Lane.ensures.settled in
    stage_at c.args.connections.now.items c.args.i c.settle.new.self _ c.requires.here s.stage

pub returns-in-Ok-Took-clause-gone : goal.returns-in-Ok-Took-clause-gone
returns-in-Ok-Took-clause-gone g c =
    let at = given_at c.args.connections.now.items c.args.i c.index_mut.result.now c.requires.here c.index_mut.ensures.value in
    gave_at g.L.PollLink 1 c.args.connections.now.items c.args.i c.index_mut.result.now c.settle.new.self c.requires.here at (rw c.in-Ok-Took.field-0-is at c.in-Ok-Took.ensures.settled)

pub returns-in-Ok-Waits-clause-gone : goal.returns-in-Ok-Waits-clause-gone
returns-in-Ok-Waits-clause-gone g c =
    let at = given_at c.args.connections.now.items c.args.i c.index_mut.result.now c.requires.here c.index_mut.ensures.value in
    waited_at g.L.PollLink c.args.connections.now.items c.args.i c.index_mut.result.now c.settle.new.self c.requires.here at (rw c.in-Ok-Waits.field-0-is at c.in-Ok-Waits.ensures.settled)

pub returns-in-Ok-Ended-clause-gone : goal.returns-in-Ok-Ended-clause-gone
returns-in-Ok-Ended-clause-gone g c = ends_at c.args.connections.now.items c.args.i c.settle.new.self c.requires.here (rw c.in-Ok-Ended.field-0-is at c.in-Ok-Ended.ensures.settled)

pub returns-in-Ok-Lane-clause-kept : goal.returns-in-Ok-Lane-clause-kept
returns-in-Ok-Lane-clause-kept g c =
    let conns = c.args.connections.now.items in
    let before = c.index_mut.result.now in
    let now = c.settle.new.self in
    let at = given_at conns c.args.i before c.requires.here c.index_mut.ensures.value in
    let first = leaves_moved g.L.PollLink g.F.RowFold g.K.Keeper g.N.Run true c.args.books.now.items conns _ c.args.i before now (as_strong g.L.PollLink g.N.Run.sizes) (one_set conns c.args.i now) at (element_set_same conns c.args.i now c.requires.here)
    (at_lane g.L.PollLink c.args.shape.now g.N.Run.sizes true _ c.args.i before now c.requires.sizes (ap (λ (n : ℕ). n + c.args.i) c.ranks.ensures.value) c.in-Ok-Lane.ensures.kept) c.in-Ok-Lane.ensures.lanes c.requires.kept in
    ok_more g.L.PollLink g.F.RowFold g.K.Keeper g.N.Run c.args.i c.args.books.now.items c.args.books.now.items c.take_event.new.books.items conns _ c.take_event.new.connections.items c.take_event.result first c.take_event.ensures.kept

pub returns-in-Ok-Lane-clause-stopped : goal.returns-in-Ok-Lane-clause-stopped
returns-in-Ok-Lane-clause-stopped g c =
    let conns = c.args.connections.now.items in
    let before = c.index_mut.result.now in
    let now = c.settle.new.self in
    let at = given_at conns c.args.i before c.requires.here c.index_mut.ensures.value in
    let first = leaves_moved g.L.PollLink g.F.RowFold g.K.Keeper g.N.Run true c.args.books.now.items conns _ c.args.i before now (as_strong g.L.PollLink g.N.Run.sizes) (one_set conns c.args.i now) at (element_set_same conns c.args.i now c.requires.here)
    (at_lane g.L.PollLink c.args.shape.now g.N.Run.sizes true _ c.args.i before now c.requires.sizes (ap (λ (n : ℕ). n + c.args.i) c.ranks.ensures.value) c.in-Ok-Lane.ensures.kept) c.in-Ok-Lane.ensures.lanes c.requires.kept in
    err_more g.L.PollLink g.F.RowFold g.K.Keeper g.N.Run c.args.i c.args.books.now.items c.args.books.now.items c.take_event.new.books.items conns _ c.take_event.new.connections.items c.take_event.result first c.take_event.ensures.stopped

pub returns-in-Ok-Lane-clause-gone : goal.returns-in-Ok-Lane-clause-gone
returns-in-Ok-Lane-clause-gone g c =
    let conns = c.args.connections.now.items in
    let at = given_at conns c.args.i c.index_mut.result.now c.requires.here c.index_mut.ensures.value in
    gone_from g.L.PollLink c.in-Ok-Lane.rank c.in-Ok-Lane.head c.args.i conns c.index_mut.result.now c.settle.new.self c.take_event.new.connections.items c.take_event.result c.requires.here at (rw c.in-Ok-Lane.field-0-is at c.in-Ok-Lane.ensures.settled) c.take_event.ensures.gone
