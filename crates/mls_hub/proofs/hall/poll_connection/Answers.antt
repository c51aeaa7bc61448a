use Rattle.std.proofs.Common.{◌≡◌, ℕ, true, false, subst, inl, inr, arith}
use Rattle.mls_hub.specs.Halls.{GaveAt}
use Rattle.mls_hub.proofs.Elements.{none_moved, some_element}
use Rattle.mls_hub.proofs.Seats.{all_same}
use Rattle.mls_hub.proofs.Going.{leaves_more, gave_none, gave_more, waited_more, on_pending}
use Rattle.mls_hub.proofs.Turnings.{caused_from}
use Rattle.mls_hub.proofs.hall.poll_connection.Goals as goal

pub loop-init : goal.loop-init
loop-init g c =
    let x = some_element c.args.connections.now.items c.args.i c.requires.here in
    record {
      leaves = record { kept = c.requires.kept; go_on = all_same g.K.Keeper c.args.books.now.items; moved = none_moved c.args.i c.args.connections.now.items };
      gave = gave_none g.L.PollLink c.args.i c.args.connections.now.items x.0 x.1;
      kept = λ fact h. h;
    }

pub returns-in-Err-clause-stopped : goal.returns-in-Err-clause-stopped
returns-in-Err-clause-stopped g c = leaves_more g.L.PollLink g.F.RowFold g.K.Keeper g.N.Run false c.args.i c.args.books.now.items c.loop.books.items c.go_on.new.books.items c.args.connections.now.items c.loop.connections.items c.go_on.new.connections.items c.loop.invariant.leaves c.in-Err.ensures.stopped

pub returns-in-Err-clause-caused : goal.returns-in-Err-clause-caused
returns-in-Err-clause-caused g c = caused_from g.K.Keeper c.in-Err.fault c.args.books.now.items c.loop.books.items c.go_on.new.books.items c.loop.invariant.leaves.go_on c.in-Err.ensures.caused

pub returns-in-Ok-Waits-clause-kept : goal.returns-in-Ok-Waits-clause-kept
returns-in-Ok-Waits-clause-kept g c = leaves_more g.L.PollLink g.F.RowFold g.K.Keeper g.N.Run true c.args.i c.args.books.now.items c.loop.books.items c.go_on.new.books.items c.args.connections.now.items c.loop.connections.items c.go_on.new.connections.items c.loop.invariant.leaves c.in-Ok-Waits.ensures.kept

pub returns-in-Ok-Waits-clause-pending : goal.returns-in-Ok-Waits-clause-pending
returns-in-Ok-Waits-clause-pending g c = inl (waited_more g.L.PollLink c.loop.counter c.args.i c.args.connections.now.items c.loop.connections.items c.go_on.new.connections.items c.loop.invariant.gave (rw c.in-Ok-Waits.field-0-is at c.in-Ok-Waits.ensures.gone))

pub returns-in-Ok-Ended-clause-kept : goal.returns-in-Ok-Ended-clause-kept
returns-in-Ok-Ended-clause-kept g c = leaves_more g.L.PollLink g.F.RowFold g.K.Keeper g.N.Run true c.args.i c.args.books.now.items c.loop.books.items c.go_on.new.books.items c.args.connections.now.items c.loop.connections.items c.go_on.new.connections.items c.loop.invariant.leaves c.in-Ok-Ended.ensures.kept

pub loop-preserved : goal.loop-preserved
loop-preserved g c = record {
  leaves = leaves_more g.L.PollLink g.F.RowFold g.K.Keeper g.N.Run true c.args.i c.args.books.now.items c.loop.books.items c.go_on.new.books.items c.args.connections.now.items c.loop.connections.items c.go_on.new.connections.items c.loop.invariant.leaves c.in-Ok-Took.ensures.kept;
  gave = gave_more g.L.PollLink c.loop.counter c.args.i c.args.connections.now.items c.loop.connections.items c.go_on.new.connections.items c.loop.invariant.gave (rw c.in-Ok-Took.field-0-is at c.in-Ok-Took.ensures.gone);
  kept = λ fact h. c.in-Ok-Took.ensures.cx_kept fact (c.loop.invariant.kept fact h);
}

pub returns-clause-pending : goal.returns-clause-pending
returns-clause-pending g c =
    let end = c.loop-test.false in
    let most = c.loop.auto.counter-end in
    let all : c.loop.counter ≡ 64 = omega (arith, end, most) in
    on_pending c.yield_now.result _ (inr (subst (λ (n : ℕ). GaveAt g.L.PollLink n c.args.i c.args.connections.now.items c.loop.connections.items) all c.loop.invariant.gave))
