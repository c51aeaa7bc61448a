use Rattle.std.proofs.Common.{◌≡◌, ℕ, ◌<◌}
use Rattle.mls_ledger.specs.MarkSets.{is_marked}
use Rattle.mls_rank.specs.Cores.{has_mark}
use Rattle.mls_resume.proofs.old_ranks.first_group.Given as goal

abbrev pub invariant-loop-group : goal.invariant-loop-group
invariant-loop-group l = (group : ℕ) → group < l.group → has_mark l.core group l.plane ≡ is_marked l.marks group l.plane
