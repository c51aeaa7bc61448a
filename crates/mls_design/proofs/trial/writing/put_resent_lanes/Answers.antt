use Rattle.std.proofs.Common.{arith, ap, refl}
use Rattle.mls_design.specs.declared.trial.route.Route.{Route}
use Rattle.mls_design.specs.declared.trial.size.Size.{Size}
use Rattle.mls_design.proofs.TrialTapes.{route_at}
use Rattle.mls_design.proofs.TrialBytes.{nothing_more, resent_short, resent_bytes_more, resent_bytes_done}
use Rattle.mls_design.proofs.trial.writing.put_resent_lanes.Goals as goal

abbrev none : Route
none = record { rank = 0; client = 0 }

pub loop-k-init : goal.loop-k-init
loop-k-init c = nothing_more c.args.out.now.items

pub resent_lane_size-lane-requires-clause-rank_in : goal.resent_lane_size-lane-requires-clause-rank_in
resent_lane_size-lane-requires-clause-rank_in c = (route_at c.args.study.now.sizes c.args.all.now c.loop-k.k none c.requires.are_routes c.loop-k-test.true).0

pub resent_lane_size-lane-requires-clause-client_in : goal.resent_lane_size-lane-requires-clause-client_in
resent_lane_size-lane-requires-clause-client_in c = (route_at c.args.study.now.sizes c.args.all.now c.loop-k.k none c.requires.are_routes c.loop-k-test.true).1

pub overflow_cast-all : goal.overflow_cast-all
overflow_cast-all c = omega (arith, (route_at c.args.study.now.sizes c.args.all.now c.loop-k.k none c.requires.are_routes c.loop-k-test.true).0, c.valid.ensures.sizes.ranks)

pub overflow_cast-lane : goal.overflow_cast-lane
overflow_cast-lane c = omega (arith, ap (λ (s : Size). s.bytes) c.resent_lane_size-lane.ensures.value, resent_short c.args.study.now c.args.number c.loop-k.k c.args.all.now none c.requires.small c.requires.are_routes c.loop-k-test.true)

pub put_resent-requires-clause-rank_in : goal.put_resent-requires-clause-rank_in
put_resent-requires-clause-rank_in c = (route_at c.args.study.now.sizes c.args.all.now c.loop-k.k none c.requires.are_routes c.loop-k-test.true).0

pub put_resent-requires-clause-client_in : goal.put_resent-requires-clause-client_in
put_resent-requires-clause-client_in c = (route_at c.args.study.now.sizes c.args.all.now c.loop-k.k none c.requires.are_routes c.loop-k-test.true).1

pub loop-k-preserved : goal.loop-k-preserved
loop-k-preserved c =
    resent_bytes_more c.args.study.now c.loop-k.k c.args.all.now none _ _ c.args.out.now.items c.loop-k.out.items c.put_head.new.out.items c.put_resent.new.out.items
    c.loop-k-test.true refl (ap (λ (s : Size). s.bytes) c.resent_lane_size-lane.ensures.value) c.loop-k.invariant c.in_ok-put_head.ensures c.in_ok-put_resent.ensures

pub returns : goal.returns
returns c = resent_bytes_done c.args.study.now c.loop-k.k c.args.all.now c.args.out.now.items c.loop-k.out.items c.requires.are_routes c.loop-k-test.false c.loop-k.invariant
