use Rattle.std.proofs.Common.{length, Bor, ap, ◌∙◌, arith}
use Rattle.mls_tape.specs.Tapes.{TapeView}
use Rattle.mls_pool.proofs.Going.{drained}
use Rattle.mls_pool.proofs.left.drain_book.Goals as goal

pub returns-clause-drained : goal.returns-clause-drained
returns-clause-drained g c =
    let inv = c.loop-lane.invariant in
    drained {U = g.K.Keeper} c.args.book.now c.loop-lane.book c.loop-lane.lane c.lane_count-lane-end.result inv.0 inv.1
    (c.lane_count-lane-end.ensures ∙ ap (λ (t : Bor TapeView). length t.now.lanes) c.lanes.ensures)
    (let end = c.loop-lane-test.false in omega (arith, end))
    c.valid.ensures.places.each c.on_tape.ensures.legal
