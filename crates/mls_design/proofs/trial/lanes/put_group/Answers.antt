use Rattle.std.proofs.Common.{◌+◌, ◌/◌, ◌++◌, ap, sym, subst, ◌∙◌}
use Rattle.mls_model.specs.Studies.{Sizes}
use Rattle.mls_design.specs.Trial.{life_frames, group_frames, piece_count}
use Rattle.mls_design.specs.TrialWriting.{Sends}
use Rattle.mls_design.proofs.TrialWriting.{sends_then, on_ok, group_again, group_once}
use Rattle.mls_design.proofs.trial.lanes.put_group.Goals as goal

pub returns-then-again : goal.returns-then-again
returns-then-again c = λ number n are h.
    let study = c.args.study.now in
    let route = c.args.route in
    let group = c.args.group in
    let steps = c.steps-steps.ensures.value ∙ ap (λ (s : Sizes). s.steps) c.shape.ensures in
    let half = life_frames study route group 1 (c.steps-steps.result / 2) in
    let whole = life_frames study route group 2 c.steps-steps.result in
    let first = c.in_ok-put_life.ensures number n h in
    let all = ap (λ m. life_frames study route group 1 (m / 2) ++ life_frames study route group 2 m) steps ∙ sym (group_again study number route group (sym are ∙ c.if-again.true)) in
    let old = c.args.out.now.items in
    let mid = c.put_life.new.out.items in
    let new = c.put_life-then-again.new.out.items in
    let words = c.put_life-then-again.new.words in
    on_ok c.put_life-then-again.result (Sends number (n + piece_count half) whole mid new words) (Sends number n (group_frames study number route group) old new words)
    (λ second. subst (λ fs. Sends number n fs old new words) all (sends_then number n half whole old mid new c.put_life.new.words words first second))
    (c.put_life-then-again.ensures number (n + piece_count half) first.words)

pub returns : goal.returns
returns c = λ number n are h.
    let study = c.args.study.now in
    let route = c.args.route in
    let group = c.args.group in
    let steps = c.steps-steps.ensures.value ∙ ap (λ (s : Sizes). s.steps) c.shape.ensures in
    let all = ap (life_frames study route group 1) steps ∙ sym (group_once study number route group (sym are ∙ c.if-again.false)) in
    let old = c.args.out.now.items in
    let new = c.put_life-2.new.out.items in
    let words = c.put_life-2.new.words in
    on_ok c.put_life-2.result (Sends number n (life_frames study route group 1 c.steps-steps.result) old new words) (Sends number n (group_frames study number route group) old new words)
    (λ once. subst (λ fs. Sends number n fs old new words) all once)
    (c.put_life-2.ensures number n h)
