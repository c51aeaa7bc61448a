use Rattle.std.proofs.Common.{ℕ, ◌<◌, ap, sym, ◌∙◌, subst}
use Rattle.mls_model.specs.Blocks.{block, width}
use Rattle.mls_laws.proofs.Fits.{fits}
use Rattle.mls_frame.specs.Views.{piece_of}
use Rattle.mls_assembly.specs.Held.{Held, life_of, ArePending}
use Rattle.mls_assembly.proofs.Offering.{offers_alone, offers_stale, sizes_seen, rank_seen}
use Rattle.mls_assembly.proofs.Alone.{all_whole}
use Rattle.mls_assembly.proofs.pending.Pending.offer.Goals as goal

pub returns-then-count-block-clause-offers : goal.returns-then-count-block-clause-offers
returns-then-count-block-clause-offers c = λ pieces all h was.
    let inner : Held = record { sizes = c.self.inside.shape; rank = c.self.inside.rank; entries = c.self.inside.keys.entries } in
    offers_alone c.args.self.now.sizes c.args.self.now.rank c.args.self.now (piece_of c.args.piece.now) pieces
    (sizes_seen inner c.args.self.now c.self.view_is c.block-block.ensures.valid) (rank_seen inner c.args.self.now c.self.view_is c.self.invariant.rank_in)
    all (fits c.args.self.now.sizes c.args.self.now.rank (piece_of c.args.piece.now) c.requires)
    (sym c.count.ensures ∙ (c.if-count-block.true ∙ (ap width c.block-block.ensures.value ∙ ap (λ (x : Held). width (block x.sizes x.rank)) c.self.view_is)))
    h was

pub returns-then-count-block-clause-covered : goal.returns-then-count-block-clause-covered
returns-then-count-block-clause-covered c = λ covers.
    let inner : Held = record { sizes = c.self.inside.shape; rank = c.self.inside.rank; entries = c.self.inside.keys.entries } in
    all_whole c.args.self.now (piece_of c.args.piece.now) (sizes_seen inner c.args.self.now c.self.view_is c.block-block.ensures.valid) (subst ArePending c.self.view_is c.self.invariant)
    (fits c.args.self.now.sizes c.args.self.now.rank (piece_of c.args.piece.now) c.requires) covers

pub returns-then-life-clause-offers : goal.returns-then-life-clause-offers
returns-then-life-clause-offers c = λ pieces all h was.
    offers_stale c.args.self.now.sizes c.args.self.now.rank c.args.self.now (piece_of c.args.piece.now) pieces c.in-Some.life h was
    (ap (life_of c.args.self.now) (sym c.key_of.ensures) ∙ (sym c.life.ensures ∙ c.in-Some.is))
    (subst (λ (n : ℕ). n < c.in-Some.life) c.life-in-Some.ensures c.if-life.true)
