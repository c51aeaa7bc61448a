use Rattle.std.proofs.Common.{◌≡◌, ◌++◌}
use Rattle.mls_resume.specs.Reads.{lists_of}
use Rattle.mls_resume.specs.Recut.{pieces_below, recut_plane}
use Rattle.mls_resume.proofs.cells.put_part.Given as goal

abbrev pub invariant-loop-plane : goal.invariant-loop-plane
invariant-loop-plane l = l.out ≡ l.fn.out ++ pieces_below (recut_plane l.shape l.old (lists_of l.parts) l.rank) l.plane
