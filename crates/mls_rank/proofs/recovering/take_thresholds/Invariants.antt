use Rattle.std.proofs.Common.{◌≡◌, map, drop}
use Rattle.mls_ckpt.specs.Checkpoints.{all_fixed}
use Rattle.mls_ckpt.specs.Places.{cursor_of}
use Rattle.mls_ckpt.specs.Spellings.{threshold_numbers}
use Rattle.mls_rank.proofs.HeadTexts.{sized}
use Rattle.mls_rank.proofs.recovering.take_thresholds.Given as goal

abbrev pub invariant-loop-i : goal.invariant-loop-i
invariant-loop-i l = all_fixed (map sized (drop l.i l.shape.thresholds)) (cursor_of l.from) ≡ all_fixed (threshold_numbers l.shape) (cursor_of l.fn.from)
