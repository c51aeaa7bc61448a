use Rattle.std.proofs.Common.{◌≡◌, ap, ◌∙◌}
use Rattle.mls_model.specs.Histories.{LaneEvent}
use Rattle.mls_model.specs.Survival.{surviving}
use Rattle.mls_model.specs.Fitting.{fitting}
use Rattle.mls_model.specs.Outcomes.{outcome}
use Rattle.mls_model.specs.Outcomes.{counted}
use Rattle.mls_frame.specs.Views.{frame_of}
use Rattle.mls_laws.proofs.Fits.{all_fit}
use Rattle.mls_rank.proofs.Stepping.{outcome_is, counts_step, counts_at, holds_step, waits_step}
use Rattle.mls_rank.proofs.rank_core.RankCore.step.Goals as goal

pub returns-clause-outcome : goal.returns-clause-outcome
returns-clause-outcome g c = λ history st.
    let core = c.args.self.now in
    c.in_ok-outcome.ensures.outcome (fitting core.shape core.rank (surviving history)) (all_fit core.shape core.rank (surviving history)) (record { holds = st.holds; waits = st.waits })
    ∙ outcome_is core.shape core.rank (surviving history) c.args.kind (frame_of c.args.view.now)

pub returns-clause-stands : goal.returns-clause-stands
returns-clause-stands g c = λ history st none.
    let core = c.args.self.now in
    let taken = c.in_ok-outcome.ensures in
    let e : LaneEvent = record { kind = c.args.kind; frame = frame_of c.args.view.now } in
    let was : c.in_ok-outcome.outcome ≡ outcome core.shape core.rank (surviving history) (record { kind = c.args.kind; frame = frame_of c.args.view.now }) = returns-clause-outcome g c history st in
    let keeps = taken.keeps (fitting core.shape core.rank (surviving history)) (all_fit core.shape core.rank (surviving history)) (record { holds = st.holds; waits = st.waits }) in
    record {
      counts =
          counts_at core.shape c.count.new.self.shape core.rank c.count.new.self.rank c.count.new.self.counts (surviving _) (c.count.ensures.shape ∙ taken.sizes) (c.count.ensures.rank ∙ taken.rank)
          (counts_step core.shape core.rank history e core.counts c.count.new.self.counts c.in_ok-outcome.outcome none st.counts was
          (c.count.ensures.counts ∙ ap (λ n. counted n c.in_ok-outcome.outcome) taken.counts));
      holds =
          holds_step g.F.RowFold.stands core.shape c.take.new.self.shape c.count.new.self.shape core.rank c.take.new.self.rank c.count.new.self.rank
          c.take.new.self.marks c.count.new.self.marks c.take.new.self.fold c.count.new.self.fold history e none
          taken.sizes c.count.ensures.shape taken.rank c.count.ensures.rank c.count.ensures.marks c.count.ensures.fold keeps.holds;
      waits =
          waits_step core.shape c.take.new.self.shape c.count.new.self.shape core.rank c.take.new.self.rank c.count.new.self.rank
          c.take.new.self.pending c.count.new.self.pending history e none taken.sizes c.count.ensures.shape taken.rank c.count.ensures.rank c.count.ensures.pending keeps.waits;
    }
