use Rattle.std.proofs.Common.{ℕ, map}
use Rattle.mls_model.specs.Numbers.{below}
use Rattle.mls_model.specs.Frames.{piece}
use Rattle.mls_model.specs.Designs.{solved_piece}
use Rattle.mls_design.specs.TrialSizes.{HasDrawn}
use Rattle.mls_design.specs.TrialWriting.{Sends}
use Rattle.mls_design.proofs.trial.lanes.put_step.Given as goal

abbrev pub invariant-loop-field : goal.invariant-loop-field
invariant-loop-field l = (number n : ℕ) → HasDrawn number n l.fn.words → Sends number n (map (λ field. piece (solved_piece l.study l.group l.life l.step field l.route.rank l.route.client)) (below l.field)) l.fn.out.items l.out.items l.words
