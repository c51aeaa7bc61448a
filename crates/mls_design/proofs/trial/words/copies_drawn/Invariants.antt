use Rattle.std.proofs.Common.{◌≡◌, ℕ, ◌+◌, ◌*◌, ◌≤◌}
use Rattle.mls_design.specs.TrialSizes.{HasDrawn, copies_from}
use Rattle.mls_design.proofs.trial.words.copies_drawn.Given as goal

abbrev pub invariant-loop-n : goal.invariant-loop-n
invariant-loop-n l = record {
  value : (number n : ℕ) → HasDrawn number n l.fn.words → (l.sum ≡ copies_from number n l._n) × HasDrawn number (n + l._n) l.words;
  few : l.sum ≤ 2 * l._n;
}
