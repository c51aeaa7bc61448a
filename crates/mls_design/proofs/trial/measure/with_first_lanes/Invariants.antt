use Rattle.std.proofs.Common.{◌≡◌, ℕ, false, [], take}
use Rattle.mls_design.specs.Trial.{words_before}
use Rattle.mls_design.specs.TrialSizes.{HasDrawn, IsPlan, size_of, is_over}
use Rattle.mls_design.proofs.TrialTapes.{first_of}
use Rattle.mls_design.proofs.trial.measure.with_first_lanes.Given as goal

abbrev pub invariant-loop-k : goal.invariant-loop-k
invariant-loop-k l = record {
  fits : is_over l.size ≡ false;
  front : (number : ℕ) → IsPlan l.study number l.plan → HasDrawn number l.study.sizes.groups l.fn.words → l.fn.total ≡ size_of l.study.sizes.signed [] → (l.size ≡ size_of l.study.sizes.signed (first_of l.study number (take l.k l.all))) × HasDrawn number (words_before l.study number (take l.k l.all)) l.words;
}
