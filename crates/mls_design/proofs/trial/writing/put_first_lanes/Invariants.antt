use Rattle.std.proofs.Common.{◌≡◌, ◌++◌, take}
use Rattle.mls_design.specs.Trial.{words_before}
use Rattle.mls_design.specs.TrialSizes.{HasDrawn}
use Rattle.mls_design.specs.TrialWriting.{lanes_bytes}
use Rattle.mls_design.proofs.TrialTapes.{first_of}
use Rattle.mls_design.proofs.trial.writing.put_first_lanes.Given as goal

abbrev pub invariant-loop-k : goal.invariant-loop-k
invariant-loop-k l = record {
  bytes : l.out.items ≡ l.fn.out.items ++ lanes_bytes (first_of l.study l.number (take l.k l.all));
  ahead : HasDrawn l.number (words_before l.study l.number (take l.k l.all)) l.ahead;
  drawn : HasDrawn l.number (words_before l.study l.number (take l.k l.all)) l.words;
}
