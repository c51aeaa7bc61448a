use Rattle.std.proofs.Common.{◌≡◌, ◌++◌, ◌+◌}
use Rattle.mls_model.specs.Blocks.{block}
use Rattle.mls_resume.specs.Reads.{lists_of}
use Rattle.mls_resume.specs.Recut.{pieces_below, cell_bytes}
use Rattle.mls_resume.proofs.cells.put_plane.Given as goal

abbrev pub invariant-loop-place : goal.invariant-loop-place
invariant-loop-place l = l.out ≡ l.fn.out ++ pieces_below (λ place. cell_bytes l.old (lists_of l.parts) l.plane ((block l.shape l.rank).first + place)) l.place
