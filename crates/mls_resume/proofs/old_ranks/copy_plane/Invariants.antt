use Rattle.std.proofs.Common.{◌≡◌, ◌≢◌, ℕ, ◌<◌, ◌≤◌, false}
use Rattle.mls_ledger.specs.MarkSets.{is_marked}
use Rattle.mls_rank.specs.Cores.{has_mark}
use Rattle.mls_resume.proofs.old_ranks.copy_plane.Given as goal

abbrev pub invariant-loop-group : goal.invariant-loop-group
invariant-loop-group l = record {
  groups : l.marks.groups ≡ l.fn.marks.groups;
  planes : l.marks.planes ≡ l.fn.marks.planes;
  copied : (group : ℕ) → group < l.group → is_marked l.marks group l.plane ≡ has_mark l.core group l.plane;
  rest : (group : ℕ) → l.group ≤ group → is_marked l.marks group l.plane ≡ false;
  others : (group other : ℕ) → other ≢ l.plane → is_marked l.marks group other ≡ is_marked l.fn.marks group other;
}
