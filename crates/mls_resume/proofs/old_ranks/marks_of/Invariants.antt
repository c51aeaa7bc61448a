use Rattle.std.proofs.Common.{◌≡◌, ℕ, ◌<◌, ◌≤◌, false}
use Rattle.mls_model.specs.Studies as studies
use Rattle.mls_ledger.specs.MarkSets.{is_marked}
use Rattle.mls_rank.specs.Cores.{has_mark}
use Rattle.mls_resume.proofs.old_ranks.marks_of.Given as goal

abbrev pub invariant-loop-plane : goal.invariant-loop-plane
invariant-loop-plane l = record {
  of_groups : l.marks.groups ≡ l.shape.groups;
  of_planes : l.marks.planes ≡ studies.planes l.shape;
  copied : (group plane : ℕ) → group < l.shape.groups → plane < l.plane → is_marked l.marks group plane ≡ has_mark l.core group plane;
  rest : (group plane : ℕ) → l.plane ≤ plane → is_marked l.marks group plane ≡ false;
}
