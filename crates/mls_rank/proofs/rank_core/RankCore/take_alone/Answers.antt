use Rattle.std.proofs.Common.{◌≡◌, ◌+◌, ◌*◌, ◌++◌, ◌∷◌, [], sym, ◌∙◌, ap}
use Rattle.std.specs.Prelude.{slice_index}
use Rattle.std.proofs.lemmas.Bool.{eq-eqb}
use Rattle.mls_model.specs.Blocks.{block, width}
use Rattle.mls_laws.proofs.Fits.{fits}
use Rattle.mls_frame.specs.Views.{piece_of}
use Rattle.mls_ledger.specs.MarkSets.{is_marked, marked}
use Rattle.mls_assembly.specs.declared.assembled.Assembled.TheVariants as answers
use Rattle.mls_assembly.proofs.Offering.{none_pend}
use Rattle.mls_rank.proofs.Keeping.{keeps_taken}
use Rattle.mls_rank.proofs.Waiting.{own_samples, offered_at}
use Rattle.mls_rank.proofs.rank_core.RankCore.take_alone.Goals as goal

pub returns-clause-keeps : goal.returns-clause-keeps
returns-clause-keeps g c = λ pieces all kept.
    let core = c.args.self.now in
    let p = (piece_of c.args.piece.now) in
    let fit = fits core.shape core.rank p c.requires.fits in
    let offer = c.in_ok-offer.ensures in
    let fresh = sym (kept.holds.marked p.group p.plane) ∙ c.requires.absent in
    let offers = offered_at core.shape core.rank core.pending c.offer.new.self p c.in_ok-offer.field-0 core.pending_shape core.pending_rank offer.offers pieces all kept.waits fresh in
    let complete : c.in_ok-offer.field-0 ≡ answers.Complete = let e = (offer.alone c.requires.covers).0 in cc in
    let completed = offers.completed complete in
    let whole : p.count ≡ width (block core.shape core.rank) = c.requires.covers ∙ (ap (λ z. width (block z core.pending.rank)) core.pending_shape ∙ ap (λ r. width (block core.shape r)) core.pending_rank) in
    record {
      holds = keeps_taken core.shape (g.F.RowFold.shape_of core.fold) core.rank (g.F.RowFold.rank_of core.fold)
          (is_marked core.marks) (is_marked c.set.new.self) (marked core.marks) (marked c.set.new.self)
          (g.F.RowFold.stands core.fold) (g.F.RowFold.stands c.add_block.new.self) pieces p c.offer.new.self c.group.result c.step.result c.step-2.result p.rows
          (λ row place. slice_index p.samples (row * p.count + place))
          core.fold_shape core.fold_rank c.group.ensures c.step.ensures c.step-2.ensures fit.rows
          (own_samples core.shape core.rank c.offer.new.self p whole) completed
          c.set.ensures.marked c.set.ensures.counted c.add_block.ensures.stands kept.holds;
      waits = none_pend core.shape core.rank c.offer.new.self p (pieces ++ p ∷ []) (completed.alone (eq-eqb p.count (width (block core.shape core.rank)) whole)) completed.done completed.others;
    }
