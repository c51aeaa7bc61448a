use Rattle.std.proofs.Common.{◌≡◌, map}
use Rattle.mls_model.specs.Numbers.{below}
use Rattle.mls_resume.specs.Reads.{lists_of}
use Rattle.mls_resume.specs.Recut.{recut_bytes}
use Rattle.mls_resume.proofs.cutting.recut.Given as goal

abbrev pub invariant-loop-rank : goal.invariant-loop-rank
invariant-loop-rank l = lists_of l.lists.items ≡ map (recut_bytes l.shape l.old (lists_of l.files)) (below l.rank)
