use Rattle.std.proofs.Common.{ℕ, ◌<◌}
use Rattle.mls_ledger.specs.MarkSets.{is_marked}
use Rattle.mls_rank.specs.Cores.{has_mark}
use Rattle.mls_resume.specs.Recut.{SamePlane}
use Rattle.mls_resume.proofs.old_ranks.first_place.Given as goal

abbrev pub invariant-loop-plane : goal.invariant-loop-plane
invariant-loop-plane l = (plane : ℕ) → plane < l.plane → SamePlane l.shape.groups (is_marked l.marks) (has_mark l.core) plane
