use Rattle.std.proofs.Common.{◌∙◌, subst}
use Rattle.mls_ledger.specs.MarkSets.{is_marked, marked}
use Rattle.mls_assembly.specs.Pendings.{Pends}
use Rattle.mls_assembly.specs.Held.{life_of, share_at}
use Rattle.mls_rank.specs.Standing.{KeepsRows}
use Rattle.mls_rank.proofs.Stepping.{counts_back, pieces_back}
use Rattle.mls_rank.proofs.rank_core.RankCore.after_crash.Goals as goal

pub returns : goal.returns
returns g c = λ history e crashed st. record {
  counts = st.counts ∙ counts_back c.args.self.now.shape c.args.self.now.rank history e crashed;
  holds =
      subst (KeepsRows c.args.self.now.shape c.args.self.now.rank (is_marked c.args.self.now.marks) (marked c.args.self.now.marks) (g.F.RowFold.stands c.args.self.now.fold))
      (pieces_back c.args.self.now.shape c.args.self.now.rank history e crashed) st.holds;
  waits =
      subst (Pends c.args.self.now.shape c.args.self.now.rank (life_of c.args.self.now.pending) (share_at c.args.self.now.pending))
      (pieces_back c.args.self.now.shape c.args.self.now.rank history e crashed) st.waits;
}
