use Rattle.std.proofs.Common.{List, ℕ, subst, arith}
use Rattle.mls_field.specs.PutBytes.{Grown}
use Rattle.mls_hist.specs.HistPart.{counts_text}
use Rattle.mls_hist.specs.Stands.{bin_counts}
use Rattle.mls_field.proofs.Texts.{below_put}
use Rattle.mls_hist.proofs.Parts.{plane_grown}
use Rattle.mls_hist.proofs.hist.Hist.put_plane.Goals as goal

pub loop-cell-preserved : goal.loop-cell-preserved
loop-cell-preserved c = below_put counts_text (bin_counts c.args.self.now c.args.plane) c.loop-cell.cell c.args.out.now c.loop-cell.out c.put_counts.new.out c.loop-cell.invariant
    (subst (λ (xs : List ℕ). Grown c.loop-cell.out c.put_counts.new.out (counts_text xs)) c.whole_counts.ensures.kept c.in_ok-put_counts.ensures)

pub returns : goal.returns
returns c = plane_grown c.args.self.now c.args.plane c.loop-cell.cell c.args.out.now c.loop-cell.out (omega (arith, c.args.self.now.kept.block_width)) c.loop-cell.invariant
