use Rattle.std.proofs.Common.{◌≡◌, ℕ, map}
use Rattle.mls_model.specs.Numbers.{below}
use Rattle.mls_design.specs.Trial.{is_restarted}
use Rattle.mls_design.specs.TrialSizes.{HasDrawn}
use Rattle.mls_design.proofs.trial.words.restarts.Given as goal

abbrev pub invariant-loop-group : goal.invariant-loop-group
invariant-loop-group l = (number : ℕ) → HasDrawn number 0 l.fn.words → (l.all.items ≡ map (is_restarted number) (below l._group)) × HasDrawn number l._group l.words
