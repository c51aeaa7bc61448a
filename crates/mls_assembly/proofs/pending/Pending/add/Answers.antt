use Rattle.std.proofs.Common.{◌≡◌, Some, sym, subst}
use Rattle.mls_assembly.specs.KeyShares.{KeyShares}
use Rattle.mls_assembly.specs.Held.{Held, IsPending, key_at}
use Rattle.mls_assembly.proofs.MapKeys.{keeps_changed}
use Rattle.mls_assembly.proofs.pending.Pending.add.Goals as goal

some_same : (a b : KeyShares) → Some a ≡ Some b → a ≡ b
some_same a b e = cc

pub invariant_of-self-2 : goal.invariant_of-self-2
invariant_of-self-2 c =
    keeps_changed c.self.inside.shape c.self.inside.rank c.args.key (Some c.args.pieces) c.self.inside.keys.entries c.insert.new.self.entries (c.in_ok-insert.ensures.updates.0) c.self.invariant
    (λ o at.
    subst (IsPending c.self.inside.shape c.self.inside.rank (key_at c.args.key)) (some_same c.args.pieces o at)
    (subst (λ (h : Held). IsPending h.sizes h.rank (key_at c.args.key) c.args.pieces) (sym c.self.view_is) c.requires.fits))
