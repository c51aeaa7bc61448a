use Rattle.std.proofs.Common.{◌≡◌, ◌++◌, [], map, drop}
use Rattle.mls_ckpt.specs.Reading.{texts}
use Rattle.mls_ckpt.specs.Spellings.{sized_text, threshold_numbers}
use Rattle.mls_rank.proofs.HeadTexts.{sized}
use Rattle.mls_resume.proofs.head.put_thresholds.Given as goal

abbrev pub invariant-loop-i : goal.invariant-loop-i
invariant-loop-i l = l.out ++ texts sized_text (map sized (drop l.i l.shape.thresholds)) [] ≡ l.fn.out ++ texts sized_text (threshold_numbers l.shape) []
