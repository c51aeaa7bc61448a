use Rattle.std.proofs.Common.{◌≡◌, length, arith, refl, ◌∙◌, subst, ℕ}
use Rattle.mls_resumed.specs.GoingOn.{IsGoingOn}
use Rattle.mls_resumed.proofs.Going.{taken_none}
use Rattle.mls_resumed.proofs.ranks.take_all.Goals as goal

pub loop-place-init : goal.loop-place-init
loop-place-init g c = record {
  taken = taken_none c.args.tape.now.lanes c.args.order.now c.lane_count.result c.in-Ok.taken.items c.in-Ok.ensures c.lane_count.ensures;
  number = refl;
  total = omega (arith, c.requires.total);
  goes_on = λ s rank opening entry going. going;
}

pub returns-in-Err-take_event-clause-goes_on : goal.returns-in-Err-take_event-clause-goes_on
returns-in-Err-take_event-clause-goes_on g c = λ s rank opening entry going. c.in-Err-take_event.ensures.goes_on s rank opening entry (c.loop-place.invariant.goes_on s rank opening entry going)

pub returns-in-Err-take_event-clause-quiet : goal.returns-in-Err-take_event-clause-quiet
returns-in-Err-take_event-clause-quiet g c = λ s rank opening entry going none. c.in-Err-take_event.ensures.quiet s rank opening entry (c.loop-place.invariant.goes_on s rank opening entry going) none

pub loop-place-preserved : goal.loop-place-preserved
loop-place-preserved g c = record {
  taken = c.in-Ok-take_event.ensures.taken;
  number = c.in-Ok-take_event.ensures.number ∙ c.loop-place.invariant.number;
  total = c.in-Ok-take_event.ensures.total;
  goes_on = λ s rank opening entry going. c.in-Ok-take_event.ensures.goes_on s rank opening entry (c.loop-place.invariant.goes_on s rank opening entry going);
}

pub returns-clause-goes_on : goal.returns-clause-goes_on
returns-clause-goes_on g c = λ s rank opening entry going.
    let lanes = c.args.tape.now.lanes in
    let order = c.args.order.now in
    let ends : c.loop-place.place ≡ length order = omega (arith, c.loop-place-test.false, c.loop-place.auto.place-end) in
    subst (λ (n : ℕ). IsGoingOn g.F.RowFold g.K.Keeper s rank opening lanes order n entry c.loop-place.saved) ends (c.loop-place.invariant.goes_on s rank opening entry going)

pub returns-clause-quiet : goal.returns-clause-quiet
returns-clause-quiet g c = λ s rank opening entry going none. (c.loop-place.invariant.goes_on s rank opening entry going).quiet none
