use Rattle.std.proofs.Common.{arith, ◌≡◌, ◌+◌, subst, ◌∙◌}
use Rattle.mls_design.specs.TrialSizes.{HasDrawn}
use Rattle.mls_design.proofs.TrialLanes.{none_drawn}
use Rattle.mls_design.proofs.trial.words.behind_groups.Goals as goal

pub returns : goal.returns
returns c =
    let drew = c.copies_drawn-written.ensures.value c.args.number 0 (c.new-words.ensures ∙ none_drawn c.args.number) in
    let same : 0 + c.args.groups ≡ c.args.groups = omega arith in
    subst (λ n. HasDrawn c.args.number n c.copies_drawn-written.new.words) same drew.1
