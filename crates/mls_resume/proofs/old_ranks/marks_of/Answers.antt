use Rattle.std.proofs.Common.{sym, ◌∙◌, subst, ◌<◌}
use Rattle.mls_rank.specs.Cores.{has_mark}
use Rattle.mls_resume.proofs.Marks.{with_plane, past_plane}
use Rattle.mls_resume.proofs.old_ranks.marks_of.Goals as goal

pub loop-plane-preserved : goal.loop-plane-preserved
loop-plane-preserved c = record {
  of_groups = c.copy_plane.ensures.groups ∙ c.loop-plane.invariant.of_groups;
  of_planes = c.copy_plane.ensures.planes ∙ c.loop-plane.invariant.of_planes;
  copied = with_plane c.loop-plane.marks c.copy_plane.new.marks (has_mark c.args.core.now) c.args.shape.now.groups c.loop-plane.plane (λ group within. c.copy_plane.ensures.copied group (subst (λ n. group < n) (sym c.groups-groups.ensures.value) within)) c.copy_plane.ensures.others c.loop-plane.invariant.copied;
  rest = past_plane c.loop-plane.marks c.copy_plane.new.marks c.loop-plane.plane c.copy_plane.ensures.others c.loop-plane.invariant.rest;
}
