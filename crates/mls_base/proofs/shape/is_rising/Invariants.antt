use Rattle.std.proofs.Common.{◌≡◌, ◌-◌, drop}
use Rattle.mls_model.specs.Studies.{rises}
use Rattle.mls_base.proofs.shape.is_rising.Given as goal

abbrev pub invariant-loop-i : goal.invariant-loop-i
invariant-loop-i l = rises (drop (l.i - 1) l.numbers) ≡ rises l.numbers
