use Rattle.std.proofs.Common.{◌≡◌, ℕ, length, map}
use Rattle.mls_model.specs.Numbers.{below}
use Rattle.mls_tape.specs.Passed.{lists_seen}
use Rattle.mls_design.specs.Trial.{routes, words_before, earlier_lanes, trial_lanes}
use Rattle.mls_design.specs.TrialSchedule.{mixing_from, trial_order}
use Rattle.mls_design.specs.TrialSizes.{HasDrawn}
use Rattle.mls_design.proofs.trial.make.trial_schedule.Given as goal

abbrev pub invariant-loop-rank : goal.invariant-loop-rank
invariant-loop-rank l = (number : ℕ) → l.tape.lanes ≡ trial_lanes l.study number → l.earlier ≡ length (earlier_lanes l.study number) → HasDrawn number (words_before l.study number (routes l.study.sizes)) l.fn.words → (lists_seen l.lists.items ≡ map (trial_order l.study number) (below l.rank)) × HasDrawn number (mixing_from l.study number l.rank) l.words
