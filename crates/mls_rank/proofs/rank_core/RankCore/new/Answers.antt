use Rattle.std.proofs.Common.{◌∙◌, subst}
use Rattle.mls_ledger.specs.MarkSets.{is_marked, marked}
use Rattle.mls_assembly.specs.Pendings.{Pends}
use Rattle.mls_assembly.specs.Held.{life_of, share_at}
use Rattle.mls_rank.proofs.Stepping.{counts_none, holds_none, fitting_none}
use Rattle.mls_rank.proofs.Waiting.{waits_none}
use Rattle.mls_rank.proofs.rank_core.RankCore.new.Goals as goal

pub returns-clause-stands : goal.returns-clause-stands
returns-clause-stands g c = record {
  counts = c.no_events.ensures ∙ counts_none c.args.shape.now c.args.rank;
  holds = holds_none c.args.shape.now c.args.rank (is_marked c.in_ok-marks.marks) (marked c.in_ok-marks.marks) (g.F.RowFold.stands c.in_ok-fold.fold)
      c.in_ok-marks.ensures.empty c.in_ok-marks.ensures.none c.in_ok-fold.ensures.stands;
  waits = subst (Pends c.args.shape.now c.args.rank (life_of c.new-3.result) (share_at c.new-3.result)) (fitting_none c.args.shape.now c.args.rank)
      (waits_none c.args.shape.now c.args.rank c.new-3.result c.new-3.ensures.empty);
}
