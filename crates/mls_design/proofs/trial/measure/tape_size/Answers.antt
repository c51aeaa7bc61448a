use Rattle.std.proofs.Common.{ap, map, length, subst, ◌∙◌}
use Rattle.std.proofs.lemmas.List.{length-map}
use Rattle.mls_model.specs.Numbers.{below}
use Rattle.mls_model.specs.Studies.{Sizes}
use Rattle.mls_text.proofs.Counted.{length-below}
use Rattle.mls_design.specs.Trial.{is_restarted}
use Rattle.mls_design.specs.TrialSizes.{HasDrawn}
use Rattle.mls_design.proofs.TrialLanes.{none_drawn}
use Rattle.mls_design.proofs.trial.measure.tape_size.Goals as goal

pub plan_of-plan-requires : goal.plan_of-plan-requires
plan_of-plan-requires c =
    let number = c.args.number in
    let drew = c.in_ok-restarted.ensures number (c.new-words.ensures ∙ none_drawn number) in
    let groups = c.groups.ensures.value ∙ ap (λ (s : Sizes). s.groups) c.shape-shape.ensures in
    ap length (c.as_slice.ensures.value ∙ drew.0) ∙ length-map (below c.groups.result) (is_restarted number) ∙ length-below c.groups.result ∙ groups

pub returns-in-Some-clause-size : goal.returns-in-Some-clause-size
returns-in-Some-clause-size c =
    let number = c.args.number in
    let drew = c.in_ok-restarted.ensures number (c.new-words.ensures ∙ none_drawn number) in
    let groups = c.groups.ensures.value ∙ ap (λ (s : Sizes). s.groups) c.shape-shape.ensures in
    let are = c.as_slice.ensures.value ∙ drew.0 ∙ ap (λ n. map (is_restarted number) (below n)) groups in
    let ok = c.plan_of-plan.ensures.value number are in
    let drawn = subst (λ n. HasDrawn number n c.restarts.new.words) groups drew.1 in
    (c.in-Some.ensures.some number ok drawn).0

pub returns-in-Some-clause-fits : goal.returns-in-Some-clause-fits
returns-in-Some-clause-fits c =
    let number = c.args.number in
    let drew = c.in_ok-restarted.ensures number (c.new-words.ensures ∙ none_drawn number) in
    let groups = c.groups.ensures.value ∙ ap (λ (s : Sizes). s.groups) c.shape-shape.ensures in
    let are = c.as_slice.ensures.value ∙ drew.0 ∙ ap (λ n. map (is_restarted number) (below n)) groups in
    let ok = c.plan_of-plan.ensures.value number are in
    let drawn = subst (λ n. HasDrawn number n c.restarts.new.words) groups drew.1 in
    (c.in-Some.ensures.some number ok drawn).1

pub returns-clause-too_large : goal.returns-clause-too_large
returns-clause-too_large c =
    let number = c.args.number in
    let drew = c.in_ok-restarted.ensures number (c.new-words.ensures ∙ none_drawn number) in
    let groups = c.groups.ensures.value ∙ ap (λ (s : Sizes). s.groups) c.shape-shape.ensures in
    let are = c.as_slice.ensures.value ∙ drew.0 ∙ ap (λ n. map (is_restarted number) (below n)) groups in
    let ok = c.plan_of-plan.ensures.value number are in
    let drawn = subst (λ n. HasDrawn number n c.restarts.new.words) groups drew.1 in
    λ same. c.in-None.ensures.none number ok drawn
