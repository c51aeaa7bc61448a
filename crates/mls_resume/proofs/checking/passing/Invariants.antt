use Rattle.std.proofs.Common.{◌≡◌, ◌≤◌, ◌^◌, take}
use Rattle.std.specs.Prelude.{sum}
use Rattle.mls_resume.proofs.checking.passing.Given as goal

abbrev pub invariant-loop-place : goal.invariant-loop-place
invariant-loop-place l = record {
  value : l.total ≡ sum (take l.place l.counts);
  few : l.total ≤ 2 ^ 61;
}
