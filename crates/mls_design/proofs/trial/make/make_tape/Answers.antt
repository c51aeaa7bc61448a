use Rattle.std.proofs.Common.{arith, ◌≡◌, ◌+◌, true, List, ℕ, length, map, sym, ap, subst, ◌∙◌}
use Rattle.std.proofs.lemmas.List.{length-map}
use Rattle.mls_model.specs.Numbers.{below}
use Rattle.mls_model.specs.Studies.{Sizes}
use Rattle.mls_model.specs.Lanes.{Lane}
use Rattle.mls_model.specs.Schedules.{is_complete}
use Rattle.mls_text.proofs.Counted.{length-below}
use Rattle.mls_design.specs.Trial.{is_restarted, routes, earlier_lanes, trial_lanes}
use Rattle.mls_design.specs.TrialSizes.{HasDrawn}
use Rattle.mls_design.proofs.TrialLanes.{none_drawn}
use Rattle.mls_design.proofs.TrialReading.{few_routes, length_trial_lanes, length_earlier_lanes}
use Rattle.mls_design.specs.TrialText.{AcceptsAll}
use Rattle.mls_design.proofs.TrialOrders.{trial_complete}
use Rattle.mls_design.proofs.TrialAccepted.{each_group_once}
use Rattle.mls_design.proofs.trial.make.make_tape.Goals as goal

pub plan_of-plan-requires : goal.plan_of-plan-requires
plan_of-plan-requires c =
    let number = c.args.number in
    let drew = c.in_ok-restarted.ensures number (c.new-words.ensures ∙ none_drawn number) in
    let groups = c.groups.ensures.value ∙ ap (λ (s : Sizes). s.groups) c.shape-shape.ensures in
    ap length (c.as_slice.ensures.value ∙ drew.0) ∙ length-map (below c.groups.result) (is_restarted number) ∙ length-below c.groups.result ∙ groups

pub trial_bytes-requires-clause-planned : goal.trial_bytes-requires-clause-planned
trial_bytes-requires-clause-planned c =
    let number = c.args.number in
    let drew = c.in_ok-restarted.ensures number (c.new-words.ensures ∙ none_drawn number) in
    let groups = c.groups.ensures.value ∙ ap (λ (s : Sizes). s.groups) c.shape-shape.ensures in
    c.plan_of-plan.ensures.value number (c.as_slice.ensures.value ∙ drew.0 ∙ ap (λ n. map (is_restarted number) (below n)) groups)

pub trial_bytes-requires-clause-are_restarted : goal.trial_bytes-requires-clause-are_restarted
trial_bytes-requires-clause-are_restarted c =
    let number = c.args.number in
    let drew = c.in_ok-restarted.ensures number (c.new-words.ensures ∙ none_drawn number) in
    let groups = c.groups.ensures.value ∙ ap (λ (s : Sizes). s.groups) c.shape-shape.ensures in
    c.as_slice-2.ensures.value ∙ drew.0 ∙ ap (λ n. map (is_restarted number) (below n)) groups

pub trial_bytes-requires-clause-drawn : goal.trial_bytes-requires-clause-drawn
trial_bytes-requires-clause-drawn c =
    let number = c.args.number in
    let drew = c.in_ok-restarted.ensures number (c.new-words.ensures ∙ none_drawn number) in
    let groups = c.groups.ensures.value ∙ ap (λ (s : Sizes). s.groups) c.shape-shape.ensures in
    subst (λ n. HasDrawn number n c.restarts.new.words) groups drew.1

pub overflow_cast-earlier : goal.overflow_cast-earlier
overflow_cast-earlier c = omega (arith, c.len.ensures, ap length c.in_ok-all.ensures, few_routes c.shape-shape.result c.groups.ensures.valid)

pub overflow_add-earlier : goal.overflow_add-earlier
overflow_add-earlier c = omega (arith, c.len.ensures, ap length c.in_ok-all.ensures, few_routes c.shape-shape.result c.groups.ensures.valid, c.ranks.ensures.value, c.ranks.ensures.valid.ranks)

pub trial_schedule-requires : goal.trial_schedule-requires
trial_schedule-requires c =
    let study = c.args.study.now in
    let count : c.len.result ≡ length (routes study.sizes) = omega (arith, c.len.ensures, ap length (c.in_ok-all.ensures ∙ ap routes c.shape-shape.ensures)) in
    let ranks = c.ranks.ensures.value ∙ ap (λ (s : Sizes). s.ranks) c.shape-shape.ensures in
    omega (arith, count, ranks, ap length c.in_ok-tape.ensures.1, length_trial_lanes study c.args.number)

pub returns-clause-schedule : goal.returns-clause-schedule
returns-clause-schedule c =
    let study = c.args.study.now in
    let count : c.len.result ≡ length (routes study.sizes) = omega (arith, c.len.ensures, ap length (c.in_ok-all.ensures ∙ ap routes c.shape-shape.ensures)) in
    let ranks = c.ranks.ensures.value ∙ ap (λ (s : Sizes). s.ranks) c.shape-shape.ensures in
    let early : c.len.result + c.ranks.result ≡ length (earlier_lanes study c.args.number) = omega (arith, count, ranks, length_earlier_lanes study c.args.number) in
    c.in_ok-schedule.ensures c.args.number c.in_ok-tape.ensures.1 early c.in_ok-bytes.ensures.1

pub returns-clause-complete : goal.returns-clause-complete
returns-clause-complete c =
    let study = c.args.study.now in
    let number = c.args.number in
    let count : c.len.result ≡ length (routes study.sizes) = omega (arith, c.len.ensures, ap length (c.in_ok-all.ensures ∙ ap routes c.shape-shape.ensures)) in
    let ranks = c.ranks.ensures.value ∙ ap (λ (s : Sizes). s.ranks) c.shape-shape.ensures in
    let early : c.len.result + c.ranks.result ≡ length (earlier_lanes study number) = omega (arith, count, ranks, length_earlier_lanes study number) in
    let orders = c.in_ok-schedule.ensures number c.in_ok-tape.ensures.1 early c.in_ok-bytes.ensures.1 in
    subst (λ (ls : List Lane). is_complete study.sizes.ranks ls c.in_ok-schedule.schedule ≡ true) (sym c.in_ok-tape.ensures.1)
    (subst (λ (os : List (List ℕ)). is_complete study.sizes.ranks (trial_lanes study number) os ≡ true) (sym orders) (trial_complete study number c.valid.ensures))

pub returns-clause-accepts : goal.returns-clause-accepts
returns-clause-accepts c =
    let study = c.args.study.now in
    let number = c.args.number in
    let count : c.len.result ≡ length (routes study.sizes) = omega (arith, c.len.ensures, ap length (c.in_ok-all.ensures ∙ ap routes c.shape-shape.ensures)) in
    let ranks = c.ranks.ensures.value ∙ ap (λ (s : Sizes). s.ranks) c.shape-shape.ensures in
    let early : c.len.result + c.ranks.result ≡ length (earlier_lanes study number) = omega (arith, count, ranks, length_earlier_lanes study number) in
    let orders = c.in_ok-schedule.ensures number c.in_ok-tape.ensures.1 early c.in_ok-bytes.ensures.1 in
    subst (λ (ls : List Lane). AcceptsAll study.sizes ls c.in_ok-schedule.schedule) (sym c.in_ok-tape.ensures.1)
    (subst (λ (os : List (List ℕ)). AcceptsAll study.sizes (trial_lanes study number) os) (sym orders) (λ rank plane r p. each_group_once study number rank plane c.valid.ensures r p))
