use Rattle.std.proofs.Common.{◌≤◌, length}
use Rattle.mls_slot.proofs.files.fill.Given as goal

-- what is filled is within
abbrev pub invariant-loop : goal.invariant-loop
invariant-loop g l = l.filled ≤ length l.into
