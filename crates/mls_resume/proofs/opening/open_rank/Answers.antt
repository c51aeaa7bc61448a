use Rattle.std.proofs.Common.{◌≡◌, ◌∷◌, ◌++◌, ◌≤◌, [], sym, ◌∙◌, subst, ap}
use Rattle.std.specs.Prelude.{IsOkAnd}
use Rattle.mls_model.specs.Survival.{before_last_save}
use Rattle.mls_model.specs.Outcomes.{total_count}
use Rattle.mls_laws.proofs.Surviving.{before_last_save_more}
use Rattle.mls_ckpt.specs.Reading.{AreBytes}
use Rattle.mls_ckpt.specs.Checkpoints.{checkpoint_of}
use Rattle.mls_rank.specs.Cores.{sizes_of, rank_of, counts_of}
use Rattle.mls_rank.specs.declared.rank_core.RankCore.{RankCore}
use Rattle.mls_rank.specs.Saving.{state_of}
use Rattle.mls_rank.specs.Standing.{StandsFor}
use Rattle.mls_resume.specs.Opening.{saved_event}
use Rattle.mls_resume.proofs.Opened.{core_spelled, save_stands, spelled_at, few_up}
use Rattle.mls_resume.proofs.opening.open_rank.Goals as goal

pub returns-in-Ok-clause-carries : goal.returns-in-Ok-clause-carries
returns-in-Ok-clause-carries g c = λ h st.
    let s = c.args.shape.now in
    let rank = c.args.rank in
    let bytes = c.args.bytes.items in
    let core = c.in-Ok.core in
    let own : StandsFor core h = subst (λ (k : RankCore g.row.F.Denot g.F.RowFold). StandsFor k h) c.opened.ensures.core st in
    let are = subst AreBytes c.as_slice.ensures.value c.are_bytes.ensures in
    let read = ap (λ l. checkpoint_of g.F.RowFold.part_at s rank l) (sym c.as_slice-2.ensures.value) ∙ c.in-Ok.ensures.read in
    let spells = c.states_are_spelled.ensures g.F.RowFold.part_at c.part_laws.ensures.takes s rank bytes (state_of core) c.valid.ensures are read in
    let mine = core_spelled s rank bytes core c.in-Ok.ensures.sizes c.in-Ok.ensures.rank c.valid-in-Ok.ensures.marks c.valid-in-Ok.ensures.pending c.valid-in-Ok.ensures.rising c.in-Ok.ensures.few spells in
    let at = spelled_at s (sizes_of core) rank (rank_of core) bytes core c.in-Ok.ensures.sizes c.in-Ok.ensures.rank mine in
    let back : before_last_save (h ++ saved_event ∷ []) ≡ h = before_last_save_more h saved_event in
    c.opened.ensures.carries at (h ++ saved_event ∷ []) (subst (λ l. StandsFor core l) (sym back) own) (save_stands core h own)

pub returns-in-Ok-clause-goes_on : goal.returns-in-Ok-clause-goes_on
returns-in-Ok-clause-goes_on g c = λ before opens.
    let s = c.args.shape.now in
    let rank = c.args.rank in
    let bytes = c.args.bytes.items in
    let core = c.in-Ok.core in
    let are = subst AreBytes c.as_slice.ensures.value c.are_bytes.ensures in
    let read = ap (λ l. checkpoint_of g.F.RowFold.part_at s rank l) (sym c.as_slice-2.ensures.value) ∙ c.in-Ok.ensures.read in
    let spells = c.states_are_spelled.ensures g.F.RowFold.part_at c.part_laws.ensures.takes s rank bytes (state_of core) c.valid.ensures are read in
    let mine = core_spelled s rank bytes core c.in-Ok.ensures.sizes c.in-Ok.ensures.rank c.valid-in-Ok.ensures.marks c.valid-in-Ok.ensures.pending c.valid-in-Ok.ensures.rising c.in-Ok.ensures.few spells in
    returns-in-Ok-clause-carries g c before (subst (λ (k : RankCore g.row.F.Denot g.F.RowFold). StandsFor k before) (sym c.opened.ensures.core) (opens.stands core mine))

pub returns-in-Ok-clause-few : goal.returns-in-Ok-clause-few
returns-in-Ok-clause-few g c = λ most opening.
    let s = c.args.shape.now in
    let rank = c.args.rank in
    let bytes = c.args.bytes.items in
    let core = c.in-Ok.core in
    let are = subst AreBytes c.as_slice.ensures.value c.are_bytes.ensures in
    let read = ap (λ l. checkpoint_of g.F.RowFold.part_at s rank l) (sym c.as_slice-2.ensures.value) ∙ c.in-Ok.ensures.read in
    let spells = c.states_are_spelled.ensures g.F.RowFold.part_at c.part_laws.ensures.takes s rank bytes (state_of core) c.valid.ensures are read in
    let mine = core_spelled s rank bytes core c.in-Ok.ensures.sizes c.in-Ok.ensures.rank c.valid-in-Ok.ensures.marks c.valid-in-Ok.ensures.pending c.valid-in-Ok.ensures.rising c.in-Ok.ensures.few spells in
    let at = spelled_at s (sizes_of core) rank (rank_of core) bytes core c.in-Ok.ensures.sizes c.in-Ok.ensures.rank mine in
    let counted = subst (λ r. IsOkAnd r (λ state. total_count state.counts ≤ most)) read opening in
    few_up c.opened.result (total_count (counts_of core)) most counted (c.opened.ensures.few at) (subst (λ (k : RankCore g.row.F.Denot g.F.RowFold). total_count (counts_of k) ≤ most) (sym c.opened.ensures.core) counted)
