use Rattle.std.proofs.Common.{◌≡◌, length, take}
use Rattle.mls_cov.proofs.martinez.samples_of.Given as goal

-- the samples before i are there
abbrev pub invariant-loop-i : goal.invariant-loop-i
invariant-loop-i l = (length l.samples ≡ 18) × (take l.i l.samples ≡ take l.i l.row)
