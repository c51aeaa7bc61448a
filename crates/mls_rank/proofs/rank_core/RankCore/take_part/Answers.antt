use Rattle.std.proofs.Common.{◌≡◌, ◌≢◌, ◌+◌, ◌++◌, ◌∷◌, [], inl, inr, ap, sym, ◌∙◌, subst}
use Rattle.mls_model.specs.Studies.{Sizes}
use Rattle.mls_model.specs.Blocks.{block, width}
use Rattle.mls_frame.specs.Views.{piece_of}
use Rattle.mls_ledger.specs.MarkSets.{is_marked, marked}
use Rattle.mls_assembly.specs.declared.assembled.Assembled.{Assembled}
use Rattle.mls_assembly.specs.declared.assembled.Assembled.TheVariants as answers
use Rattle.mls_assembly.specs.Shares.{block_sample}
use Rattle.mls_assembly.specs.Held.{kept_of, share_at}
use Rattle.mls_assembly.specs.Offered.{is_complete}
use Rattle.mls_assembly.specs.Lent.{sizes_of, rank_of, shares_of}
use Rattle.mls_rank.specs.Waiting.{AreWaiting}
use Rattle.mls_rank.proofs.Keeping.{keeps_unchanged, keeps_taken}
use Rattle.mls_rank.proofs.Waiting.{offered_at, lent_samples, key_same, dropped_at}
use Rattle.mls_rank.proofs.Unmarked.{not_all, waiting_kept, waiting_dropped}
use Rattle.mls_rank.proofs.rank_core.RankCore.take_part.Goals as goal

no_kept : (a : Assembled) → a ≡ answers.Kept → a ≢ answers.Complete
no_kept a is e = cc

no_stale : (a : Assembled) → a ≡ answers.Stale → a ≢ answers.Complete
no_stale a is e = cc

no_repeated : (a : Assembled) → a ≡ answers.Repeated → a ≢ answers.Complete
no_repeated a is e = cc

pub invariant_of-self-in-Kept-clause-waiting : goal.invariant_of-self-in-Kept-clause-waiting
invariant_of-self-in-Kept-clause-waiting g c =
    let core = c.args.self.now in
    let offer = c.in_ok-answer.ensures in
    waiting_kept core.marks core.pending c.offer.new.self (piece_of c.args.piece.now) offer.sizes offer.rank offer.others c.requires.absent
    ((offer.kept c.in-Kept.is).whole ∙ ap is_complete c.in-Kept.is) core.waiting

pub invariant_of-self-in-Stale-clause-waiting : goal.invariant_of-self-in-Stale-clause-waiting
invariant_of-self-in-Stale-clause-waiting g c = subst (AreWaiting c.args.self.now.marks) (sym (c.in_ok-answer.ensures.unchanged (inl c.in-Stale.is))) c.args.self.now.waiting

pub invariant_of-self-in-Repeated-clause-waiting : goal.invariant_of-self-in-Repeated-clause-waiting
invariant_of-self-in-Repeated-clause-waiting g c = subst (AreWaiting c.args.self.now.marks) (sym (c.in_ok-answer.ensures.unchanged (inr c.in-Repeated.is))) c.args.self.now.waiting

pub invariant_of-self-in-Complete-clause-waiting : goal.invariant_of-self-in-Complete-clause-waiting
invariant_of-self-in-Complete-clause-waiting g c =
    let core = c.args.self.now in
    let p = (piece_of c.args.piece.now) in
    let offer = c.in_ok-answer.ensures in
    let own = key_same c.group.result c.step.result p c.group.ensures c.step.ensures in
    waiting_dropped core.marks c.set.new.self core.pending c.drop_key.new.self p c.group.result c.step.result (c.drop_key.ensures.sizes ∙ offer.sizes) (c.drop_key.ensures.rank ∙ offer.rank)
    (λ key other. c.drop_key.ensures.others key (λ same. other (same ∙ own)) ∙ offer.others key other) (ap (kept_of c.drop_key.new.self) (sym own) ∙ c.drop_key.ensures.own)
    c.group.ensures c.step.ensures c.set.ensures.marked core.waiting

pub returns-in-Kept-clause-keeps : goal.returns-in-Kept-clause-keeps
returns-in-Kept-clause-keeps g c = λ pieces all kept.
    let core = c.args.self.now in
    let p = (piece_of c.args.piece.now) in
    let fresh = sym (kept.holds.marked p.group p.plane) ∙ c.requires.absent in
    let offers = offered_at core.shape core.rank core.pending c.offer.new.self p c.in_ok-answer.answer core.pending_shape core.pending_rank c.in_ok-answer.ensures.offers pieces all kept.waits fresh in
    let other = no_kept c.in_ok-answer.answer c.in-Kept.is in
    record {
      holds = keeps_unchanged core.shape core.rank (is_marked core.marks) (marked core.marks) (g.F.RowFold.stands core.fold) pieces p (offers.incomplete other) kept.holds;
      waits = offers.pends other;
    }

pub returns-in-Stale-clause-keeps : goal.returns-in-Stale-clause-keeps
returns-in-Stale-clause-keeps g c = λ pieces all kept.
    let core = c.args.self.now in
    let p = (piece_of c.args.piece.now) in
    let fresh = sym (kept.holds.marked p.group p.plane) ∙ c.requires.absent in
    let offers = offered_at core.shape core.rank core.pending c.offer.new.self p c.in_ok-answer.answer core.pending_shape core.pending_rank c.in_ok-answer.ensures.offers pieces all kept.waits fresh in
    let other = no_stale c.in_ok-answer.answer c.in-Stale.is in
    record {
      holds = keeps_unchanged core.shape core.rank (is_marked core.marks) (marked core.marks) (g.F.RowFold.stands core.fold) pieces p (offers.incomplete other) kept.holds;
      waits = offers.pends other;
    }

pub returns-in-Repeated-clause-keeps : goal.returns-in-Repeated-clause-keeps
returns-in-Repeated-clause-keeps g c = λ pieces all kept.
    let core = c.args.self.now in
    let p = (piece_of c.args.piece.now) in
    let fresh = sym (kept.holds.marked p.group p.plane) ∙ c.requires.absent in
    let offers = offered_at core.shape core.rank core.pending c.offer.new.self p c.in_ok-answer.answer core.pending_shape core.pending_rank c.in_ok-answer.ensures.offers pieces all kept.waits fresh in
    let other = no_repeated c.in_ok-answer.answer c.in-Repeated.is in
    record {
      holds = keeps_unchanged core.shape core.rank (is_marked core.marks) (marked core.marks) (g.F.RowFold.stands core.fold) pieces p (offers.incomplete other) kept.holds;
      waits = offers.pends other;
    }

pub returns-in-Complete-clause-keeps : goal.returns-in-Complete-clause-keeps
returns-in-Complete-clause-keeps g c = λ pieces all kept.
    let core = c.args.self.now in
    let p = (piece_of c.args.piece.now) in
    let offer = c.in_ok-answer.ensures in
    let sizes = offer.sizes ∙ core.pending_shape in
    let rank = offer.rank ∙ core.pending_rank in
    let fresh = sym (kept.holds.marked p.group p.plane) ∙ c.requires.absent in
    let offers = offered_at core.shape core.rank core.pending c.offer.new.self p c.in_ok-answer.answer core.pending_shape core.pending_rank offer.offers pieces all kept.waits fresh in
    let completed = offers.completed c.in-Complete.is in
    let own = key_same c.group.result c.step.result p c.group.ensures c.step.ensures in
    let part = not_all p.count (width (block core.pending.sizes core.pending.rank)) (width (block core.shape core.rank))
    (ap (λ z. width (block z core.pending.rank)) core.pending_shape ∙ ap (λ r. width (block core.shape r)) core.pending_rank) c.requires.part in
    record {
      holds = keeps_taken core.shape (g.F.RowFold.shape_of core.fold) core.rank (g.F.RowFold.rank_of core.fold)
          (is_marked core.marks) (is_marked c.set.new.self) (marked core.marks) (marked c.set.new.self)
          (g.F.RowFold.stands core.fold) (g.F.RowFold.stands c.add_block.new.self) pieces p c.offer.new.self c.group.result c.step.result c.step.result ((sizes_of c.rows.result).parameters + 2)
          (block_sample (sizes_of c.rows.result) (rank_of c.rows.result) (shares_of c.rows.result))
          core.fold_shape core.fold_rank c.group.ensures c.step.ensures c.step.ensures (ap (λ (z : Sizes). z.parameters + 2) (c.rows.ensures.sizes ∙ sizes))
          (lent_samples core.shape (sizes_of c.rows.result) core.rank (rank_of c.rows.result) c.offer.new.self p (shares_of c.rows.result) part
          (c.rows.ensures.sizes ∙ sizes) (c.rows.ensures.rank ∙ rank) (λ client. c.rows.ensures.shares client ∙ ap (λ k. share_at c.offer.new.self k client) own)) completed
          c.set.ensures.marked c.set.ensures.counted c.add_block.ensures.stands kept.holds;
      waits = dropped_at core.shape core.rank c.offer.new.self c.drop_key.new.self _ p (pieces ++ p ∷ []) sizes rank own c.drop_key.ensures.pends completed.done completed.others;
    }
