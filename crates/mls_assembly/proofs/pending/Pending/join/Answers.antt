use Rattle.std.proofs.Common.{ℕ, cond, Some, ap, sym, ◌∙◌}
use Rattle.std.specs.Prelude.{◌==◌, is_some}
use Rattle.mls_laws.proofs.Fits.{fits}
use Rattle.mls_frame.specs.Views.{piece_of}
use Rattle.mls_assembly.specs.Shares.{Share, share_of}
use Rattle.mls_assembly.specs.Held.{Held, key_at, life_of, share_at}
use Rattle.mls_assembly.proofs.Offering.{offers_more, offers_again, sizes_seen, rank_seen, answer_at}
use Rattle.mls_assembly.proofs.pending.Pending.join.Goals as goal

pub returns-then-has_piece-clause-offers : goal.returns-then-has_piece-clause-offers
returns-then-has_piece-clause-offers c = λ pieces all h was.
    offers_again c.args.self.now.sizes c.args.self.now.rank c.args.self.now (piece_of c.args.piece.now) pieces h was (fits c.args.self.now.sizes c.args.self.now.rank (piece_of c.args.piece.now) c.requires.fits) c.requires.same
    (ap (λ k. is_some (share_at c.args.self.now k (piece_of c.args.piece.now).client)) (sym c.key_of-key.ensures)
    ∙ (ap (λ (n : ℕ). is_some (share_at c.args.self.now (key_at c.key_of-key.result) n)) (sym c.client.ensures)
    ∙ (sym c.has_piece.ensures ∙ c.if-has_piece.true)))

pub returns-clause-offers : goal.returns-clause-offers
returns-clause-offers c = λ pieces all h was.
    let inner : Held = record { sizes = c.self.inside.shape; rank = c.self.inside.rank; entries = c.self.inside.keys.entries } in
    offers_more c.args.self.now.sizes c.args.self.now.rank c.args.self.now c.put_piece.new.self (piece_of c.args.piece.now) pieces c.kept_or_complete.result
    (sizes_seen inner c.args.self.now c.self.view_is c.valid.ensures) (rank_seen inner c.args.self.now c.self.view_is c.self.invariant.rank_in)
    all (fits c.args.self.now.sizes c.args.self.now.rank (piece_of c.args.piece.now) c.requires.fits) c.requires.part h was c.requires.same
    (ap (λ k. is_some (share_at c.args.self.now k (piece_of c.args.piece.now).client)) (sym c.key_of-key.ensures)
    ∙ (ap (λ (n : ℕ). is_some (share_at c.args.self.now (key_at c.key_of-key.result) n)) (sym c.client.ensures)
    ∙ (sym c.has_piece.ensures ∙ c.if-has_piece.false)))
    (ap (life_of c.put_piece.new.self) (sym c.key_of-key.ensures) ∙ (c.put_piece.ensures.life ∙ ap (life_of c.args.self.now) c.key_of-key.ensures))
    (λ client.
    ap (λ k. share_at c.put_piece.new.self k client) (sym c.key_of-key.ensures)
    ∙ (c.put_piece.ensures.shares client
    ∙ (ap (λ (n : ℕ). cond (client == n) (Some c.in_ok-kept.kept) (share_at c.args.self.now (key_at c.key_of-key.result) client)) c.client-2.ensures
    ∙ (ap (λ (x : Share). cond (client == (piece_of c.args.piece.now).client) (Some x) (share_at c.args.self.now (key_at c.key_of-key.result) client)) c.in_ok-kept.ensures
    ∙ ap (λ k. cond (client == (piece_of c.args.piece.now).client) (Some (share_of (piece_of c.args.piece.now))) (share_at c.args.self.now k client)) c.key_of-key.ensures))))
    (λ key other. c.put_piece.ensures.others key (λ same. other (same ∙ c.key_of-key.ensures)))
    (answer_at c.args.self.now.sizes c.put_piece.new.self.sizes c.args.self.now.rank c.put_piece.new.self.rank c.put_piece.new.self _ _ c.kept_or_complete.result c.put_piece.ensures.sizes c.put_piece.ensures.rank c.key_of-key.ensures c.kept_or_complete.ensures)
