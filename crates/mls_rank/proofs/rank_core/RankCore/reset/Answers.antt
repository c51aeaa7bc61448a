use Rattle.std.proofs.Common.{◌∙◌, subst}
use Rattle.mls_ledger.specs.MarkSets.{is_marked, marked}
use Rattle.mls_assembly.specs.Pendings.{Pends}
use Rattle.mls_assembly.specs.Held.{life_of, share_at}
use Rattle.mls_rank.proofs.Stepping.{counts_none, holds_none, fitting_none}
use Rattle.mls_rank.proofs.Waiting.{waits_none}
use Rattle.mls_rank.proofs.rank_core.RankCore.reset.Goals as goal

pub returns-clause-stands : goal.returns-clause-stands
returns-clause-stands g c = record {
  counts = c.no_events-self.ensures ∙ counts_none c.args.self.now.shape c.args.self.now.rank;
  holds = holds_none c.args.self.now.shape c.args.self.now.rank (is_marked c.reset.new.self) (marked c.reset.new.self) (g.F.RowFold.stands c.reset-3.new.self)
      c.reset.ensures.empty c.reset.ensures.none c.reset-3.ensures.stands;
  waits = subst (Pends c.args.self.now.shape c.args.self.now.rank (life_of c.reset-2.new.self) (share_at c.reset-2.new.self)) (fitting_none c.args.self.now.shape c.args.self.now.rank)
      (waits_none c.args.self.now.shape c.args.self.now.rank c.reset-2.new.self c.reset-2.ensures.empty);
}
