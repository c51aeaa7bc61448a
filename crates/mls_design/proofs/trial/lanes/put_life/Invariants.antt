use Rattle.std.proofs.Common.{ℕ, ◌∷◌}
use Rattle.mls_model.specs.Frames.{beat}
use Rattle.mls_design.specs.Trial.{life_pieces}
use Rattle.mls_design.specs.TrialSizes.{HasDrawn}
use Rattle.mls_design.specs.TrialWriting.{Sends}
use Rattle.mls_design.proofs.trial.lanes.put_life.Given as goal

abbrev pub invariant-loop-step : goal.invariant-loop-step
invariant-loop-step l = (number n : ℕ) → HasDrawn number n l.fn.words → Sends number n (beat l.group l.life ∷ life_pieces l.study l.route l.group l.life l.step) l.fn.out.items l.out.items l.words
