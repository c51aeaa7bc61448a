use Rattle.std.proofs.Common.{ℕ, cond, Some, None, ap, sym, ◌∙◌}
use Rattle.std.specs.Prelude.{◌==◌}
use Rattle.mls_laws.proofs.Fits.{fits}
use Rattle.mls_frame.specs.Views.{piece_of}
use Rattle.mls_assembly.specs.Shares.{Share}
use Rattle.mls_assembly.specs.Held.{Held, life_of, share_at}
use Rattle.mls_assembly.proofs.Offering.{offers_first, sizes_seen, rank_seen, answer_at}
use Rattle.mls_assembly.proofs.pending.Pending.start.Goals as goal

pub returns-clause-offers : goal.returns-clause-offers
returns-clause-offers c = λ pieces all h was.
    let begun = c.in_ok-begin.ensures in
    let inner : Held = record { sizes = c.self.inside.shape; rank = c.self.inside.rank; entries = c.self.inside.keys.entries } in
    offers_first c.args.self.now.sizes c.args.self.now.rank c.args.self.now c.begin.new.self (piece_of c.args.piece.now) pieces c.kept_or_complete.result
    (sizes_seen inner c.args.self.now c.self.view_is c.valid.ensures) (rank_seen inner c.args.self.now c.self.view_is c.self.invariant.rank_in)
    all (fits c.args.self.now.sizes c.args.self.now.rank (piece_of c.args.piece.now) c.requires.fits) c.requires.part h was c.requires.newer
    (ap (life_of c.begin.new.self) (sym c.key_of-key.ensures) ∙ (begun.life ∙ ap (λ (n : ℕ). Some n) c.life.ensures))
    (λ client.
    ap (λ k. share_at c.begin.new.self k client) (sym c.key_of-key.ensures)
    ∙ (begun.shares client
    ∙ (ap (λ (n : ℕ). cond (client == n) (Some c.in_ok-kept.kept) None) c.client.ensures
    ∙ ap (λ (x : Share). cond (client == (piece_of c.args.piece.now).client) (Some x) None) c.in_ok-kept.ensures)))
    (λ key other. begun.others key (λ same. other (same ∙ c.key_of-key.ensures)))
    (answer_at c.args.self.now.sizes c.begin.new.self.sizes c.args.self.now.rank c.begin.new.self.rank c.begin.new.self _ _ c.kept_or_complete.result begun.sizes begun.rank c.key_of-key.ensures c.kept_or_complete.ensures)
