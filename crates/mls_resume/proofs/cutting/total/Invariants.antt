use Rattle.std.proofs.Common.{◌≡◌, ◌≤◌, ◌*◌, take}
use Rattle.std.specs.Prelude.{sum}
use Rattle.mls_resume.proofs.cutting.total.Given as goal

abbrev pub invariant-loop-count : goal.invariant-loop-count
invariant-loop-count l = record {
  value : l.total ≡ sum (take l.count-index l.counts);
  few : l.total ≤ l.count-index * 4294967295;
}
