use Rattle.std.proofs.Common.{arith, ◌++◌, ap, sym, subst, refl, length, take, ◌∙◌}
use Rattle.std.proofs.lemmas.List.{length-map}
use Rattle.mls_model.specs.Numbers.{below}
use Rattle.mls_text.proofs.Counted.{length-below}
use Rattle.mls_design.specs.declared.trial.route.Route.{Route}
use Rattle.mls_design.specs.declared.trial.size.Size.{Size}
use Rattle.mls_design.specs.Trial.{is_restarted, words_before}
use Rattle.mls_design.specs.TrialSizes.{HasDrawn}
use Rattle.mls_design.specs.TrialWriting.{lanes_bytes}
use Rattle.mls_design.proofs.TrialTapes.{route_at, first_none, words_none}
use Rattle.mls_design.proofs.TrialLanes.{words_step}
use Rattle.mls_design.proofs.TrialBytes.{nothing_more, first_short, first_bytes_more, first_bytes_done}
use Rattle.mls_design.proofs.trial.writing.put_first_lanes.Goals as goal

abbrev none : Route
none = record { rank = 0; client = 0 }

pub loop-k-init : goal.loop-k-init
loop-k-init c = record {
  bytes = nothing_more c.args.out.now.items ∙ ap (λ ls. c.args.out.now.items ++ lanes_bytes ls) (sym (first_none c.args.study.now c.args.number));
  ahead = subst (λ m. HasDrawn c.args.number m c.args.ahead.now) (sym (words_none c.args.study.now c.args.number)) c.requires.drawn_ahead;
  drawn = subst (λ m. HasDrawn c.args.number m c.args.words.now) (sym (words_none c.args.study.now c.args.number)) c.requires.drawn;
}

pub first_lane_size-lane-requires-clause-rank_in : goal.first_lane_size-lane-requires-clause-rank_in
first_lane_size-lane-requires-clause-rank_in c = (route_at c.args.study.now.sizes c.args.all.now c.loop-k.k none c.requires.are_routes c.loop-k-test.true).0

pub first_lane_size-lane-requires-clause-client_in : goal.first_lane_size-lane-requires-clause-client_in
first_lane_size-lane-requires-clause-client_in c = (route_at c.args.study.now.sizes c.args.all.now c.loop-k.k none c.requires.are_routes c.loop-k-test.true).1

pub overflow_cast-all : goal.overflow_cast-all
overflow_cast-all c = omega (arith, (route_at c.args.study.now.sizes c.args.all.now c.loop-k.k none c.requires.are_routes c.loop-k-test.true).0, c.valid.ensures.sizes.ranks)

pub overflow_cast-lane : goal.overflow_cast-lane
overflow_cast-lane c =
    let study = c.args.study.now in
    let rs = c.args.all.now in
    let k = c.loop-k.k in
    let sized = c.first_lane_size-lane.ensures.value c.args.number (words_before study c.args.number (take k rs)) c.requires.planned c.loop-k.invariant.ahead in
    omega (arith, ap (λ (s : Size). s.bytes) sized.0, first_short study c.args.number k rs none c.requires.small c.requires.are_routes c.loop-k-test.true)

pub put_first-requires-clause-groups : goal.put_first-requires-clause-groups
put_first-requires-clause-groups c = ap length c.requires.are_restarted ∙ length-map (below c.args.study.now.sizes.groups) (is_restarted c.args.number) ∙ length-below c.args.study.now.sizes.groups

pub put_first-requires-clause-rank_in : goal.put_first-requires-clause-rank_in
put_first-requires-clause-rank_in c = (route_at c.args.study.now.sizes c.args.all.now c.loop-k.k none c.requires.are_routes c.loop-k-test.true).0

pub put_first-requires-clause-client_in : goal.put_first-requires-clause-client_in
put_first-requires-clause-client_in c = (route_at c.args.study.now.sizes c.args.all.now c.loop-k.k none c.requires.are_routes c.loop-k-test.true).1

pub loop-k-preserved : goal.loop-k-preserved
loop-k-preserved c =
    let study = c.args.study.now in
    let rs = c.args.all.now in
    let k = c.loop-k.k in
    let n = words_before study c.args.number (take k rs) in
    let sized = c.first_lane_size-lane.ensures.value c.args.number n c.requires.planned c.loop-k.invariant.ahead in
    let sends = c.in_ok-put_first.ensures c.args.number n c.requires.are_restarted c.loop-k.invariant.drawn in
    let both = first_bytes_more study c.args.number k rs none _ _ c.args.out.now.items c.loop-k.out.items c.put_head.new.out.items c.put_first.new.out.items c.put_first.new.words
    c.loop-k-test.true refl (ap (λ (s : Size). s.bytes) sized.0) c.loop-k.invariant.bytes c.in_ok-put_head.ensures sends in
    record { bytes = both.0; ahead = words_step study c.args.number k rs none c.first_lane_size-lane.new.words c.loop-k-test.true sized.1; drawn = both.1 }

pub returns : goal.returns
returns c = first_bytes_done c.args.study.now c.args.number c.loop-k.k c.args.all.now c.args.out.now.items c.loop-k.out.items c.loop-k.words c.requires.are_routes c.loop-k-test.false c.loop-k.invariant.bytes c.loop-k.invariant.drawn
