use Rattle.std.proofs.Common.{◌≡◌, ℕ, ◌<◌, Some, None, ap, sym, ◌∙◌, subst, arith}
use Rattle.mls_model.specs.Studies.{Sizes, planes}
use Rattle.mls_assembly.specs.Shares.{IsShare}
use Rattle.mls_assembly.specs.KeyShares.{KeyShares}
use Rattle.mls_assembly.specs.Held.{Held, IsPending, key_at, kept_of}
use Rattle.mls_assembly.proofs.MapKeys.{others_kept, keeps_changed, pending_more}
use Rattle.mls_assembly.proofs.pending.Pending.begin.Goals as goal

some_same : (a b : KeyShares) → Some a ≡ Some b → a ≡ b
some_same a b e = cc

pub invariant_of-self-2 : goal.invariant_of-self-2
invariant_of-self-2 c =
    keeps_changed c.self.inside.shape c.self.inside.rank c.args.key (Some c.in_ok-pieces.pieces) c.self.inside.keys.entries c.insert.new.self.entries (c.in_ok-insert.ensures.updates.0) c.self.invariant
    (λ o at.
    let sizes : c.self.inside.shape ≡ c.args.self.now.sizes = ap (λ (h : Held). h.sizes) c.self.view_is in
    subst (IsPending c.self.inside.shape c.self.inside.rank (key_at c.args.key)) (some_same c.in_ok-pieces.pieces o at)
    (pending_more c.self.inside.shape c.self.inside.rank c.args.client (key_at c.args.key) c.args.kept (λ client. None) c.in_ok-pieces.pieces
    (subst (λ (z : Sizes). c.args.key.group < z.groups) (sym sizes) c.requires.group)
    (subst (λ (z : Sizes). c.args.key.step < planes z) (sym sizes) c.requires.plane)
    (omega (arith, c.in_ok-pieces.ensures.life, c.ranges.life.fits))
    (subst (λ (z : Sizes). c.args.client < z.clients) (sym sizes) c.requires.client)
    (c.in_ok-pieces.ensures.slots ∙ c.clients.ensures.value)
    (subst (λ (z : Sizes). IsShare z c.self.inside.rank c.args.client c.args.kept) (sym (ap (λ (h : Held). h.sizes) c.self.view_is))
    (subst (λ (r : ℕ). IsShare c.args.self.now.sizes r c.args.client c.args.kept) (sym (ap (λ (h : Held). h.rank) c.self.view_is)) c.requires.fits))
    c.in_ok-pieces.ensures.shares (λ client share none. absurd cc)))

pub returns-clause-others : goal.returns-clause-others
returns-clause-others c = λ key other.
    others_kept c.args.key (Some c.in_ok-pieces.pieces) c.self.inside.keys.entries c.insert.new.self.entries (c.in_ok-insert.ensures.updates.0) key other ∙ ap (λ (h : Held). kept_of h key) c.self.view_is
