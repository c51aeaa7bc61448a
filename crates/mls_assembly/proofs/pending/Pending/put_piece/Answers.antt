use Rattle.std.proofs.Common.{◌≡◌, ℕ, ◌<◌, cond, Option, Some, None, ap, sym, ◌∙◌, subst, arith, IsSome}
use Rattle.std.specs.Prelude.{◌==◌}
use Rattle.mls_model.specs.Studies.{Sizes}
use Rattle.mls_model.specs.Completion.{Key}
use Rattle.mls_assembly.specs.declared.pending.Pending.TheInside.{Inside}
use Rattle.mls_assembly.specs.Shares.{Share, IsShare}
use Rattle.mls_assembly.specs.KeyShares.{KeyShares, share_in}
use Rattle.mls_assembly.specs.Held.{Held, IsPending, ArePending, key_at, kept_of, share_at}
use Rattle.mls_assembly.proofs.MapKeys.{others_kept, keeps_changed, pending_more}
use Rattle.mls_assembly.proofs.pending.Pending.put_piece.Goals as goal
use Rattle.mls_assembly.proofs.pending.Pending.put_piece.Goals.{in-Some, in_default}

some_same : (a b : KeyShares) → Some a ≡ Some b → a ≡ b
some_same a b e = cc

some_there : (a : KeyShares) (o : Option KeyShares) → Some a ≡ o → IsSome o
some_there a None e = absurd cc
some_there a (Some x) e = search

not_there : (o : Option KeyShares) → None ≡ o → IsSome o → ⊥
not_there None e h = absurd cc
not_there (Some x) e h = absurd cc

-- what is seen of the fields
abbrev seen : Inside → Held
seen i = record { sizes = i.shape; rank = i.rank; entries = i.keys.entries }

share_from : (held : Held) (key : Key) (client : ℕ) (o : KeyShares) → kept_of held key ≡ Some o → share_at held key client ≡ share_in o client
share_from held key client o is = ap (λ (x : Option KeyShares). elim x [ None ↦ None | Some y ↦ share_in y client ]) is

pub put-requires : goal.put-requires
put-requires c =
    let kept = c.self.invariant.each (key_at c.args.key) c.in-Some.pieces.now (sym c.in-Some.ensures.value) in
    omega (arith, kept.shares.slots, ap (λ (h : Held). h.sizes.clients) c.self.view_is, c.requires.client)

pub invariant_of-self : goal.invariant_of-self
invariant_of-self c =
    elim c.match-get_mut.branch [
      | in-Some w ↦
          let kept = c.self.invariant.each (key_at c.args.key) w.in-Some.pieces.now (sym w.in-Some.ensures.value) in
          subst (λ (i : Inside). ArePending (seen i)) (sym w.self-inside-is)
          (keeps_changed c.self.inside.shape c.self.inside.rank c.args.key (Some w.put.new.self) c.self.inside.keys.entries (c.get_mut.follows.lender w.put.new.self).entries
          ((c.get_mut.follows.holds w.put.new.self).3 (some_there w.in-Some.pieces.now _ w.in-Some.ensures.value)).0
          c.self.invariant
          (λ o at.
          subst (IsPending c.self.inside.shape c.self.inside.rank (key_at c.args.key)) (some_same w.put.new.self o at)
          (pending_more c.self.inside.shape c.self.inside.rank c.args.client (key_at c.args.key) c.args.kept (share_in w.in-Some.pieces.now) w.put.new.self kept.group kept.plane (let life = kept.life in omega (arith, w.put.ensures.life))
          (subst (λ (z : Sizes). c.args.client < z.clients) (sym (ap (λ (h : Held). h.sizes) c.self.view_is)) c.requires.client)
          (w.put.ensures.slots ∙ kept.shares.slots)
          (subst (λ (z : Sizes). IsShare z c.self.inside.rank c.args.client c.args.kept) (sym (ap (λ (h : Held). h.sizes) c.self.view_is))
          (subst (λ (r : ℕ). IsShare c.args.self.now.sizes r c.args.client c.args.kept) (sym (ap (λ (h : Held). h.rank) c.self.view_is)) c.requires.fits))
          w.put.ensures.shares kept.shares.shares)))
      | in_default w ↦ absurd (not_there _ (w.in_default.ensures.value ∙ ap (λ (h : Held). kept_of h (key_at c.args.key)) c.self.view_is) c.requires.held)
    ]

pub returns-clause-shares : goal.returns-clause-shares
returns-clause-shares c =
    elim c.match-get_mut.branch [
      | in-Some w ↦ λ client.
          let updates = (c.get_mut.follows.holds w.put.new.self).3 (some_there w.in-Some.pieces.now _ w.in-Some.ensures.value) in
          let was : kept_of c.args.self.now (key_at c.args.key) ≡ Some w.in-Some.pieces.now = ap (λ (h : Held). kept_of h (key_at c.args.key)) (sym c.self.view_is) ∙ sym w.in-Some.ensures.value in
          ap (λ (i : Inside). share_at (seen i) (key_at c.args.key) client) w.self-inside-is
          ∙ (share_from (seen (record { alloc = c.self.inside.alloc; shape = c.self.inside.shape; rank = c.self.inside.rank; keys = c.get_mut.follows.lender w.put.new.self })) (key_at c.args.key) client w.put.new.self (updates.1)
          ∙ (w.put.ensures.shares client
          ∙ ap (λ (o : Option Share). cond (client == c.args.client) (Some c.args.kept) o) (sym (share_from c.args.self.now (key_at c.args.key) client w.in-Some.pieces.now was))))
      | in_default w ↦ absurd (not_there _ (w.in_default.ensures.value ∙ ap (λ (h : Held). kept_of h (key_at c.args.key)) c.self.view_is) c.requires.held)
    ]

pub returns-clause-others : goal.returns-clause-others
returns-clause-others c =
    elim c.match-get_mut.branch [
      | in-Some w ↦ λ key other.
          ap (λ (i : Inside). kept_of (seen i) key) w.self-inside-is
          ∙ (others_kept c.args.key (Some w.put.new.self) c.self.inside.keys.entries (c.get_mut.follows.lender w.put.new.self).entries
          ((c.get_mut.follows.holds w.put.new.self).3 (some_there w.in-Some.pieces.now _ w.in-Some.ensures.value)).0 key other
          ∙ ap (λ (h : Held). kept_of h key) c.self.view_is)
      | in_default w ↦ absurd (not_there _ (w.in_default.ensures.value ∙ ap (λ (h : Held). kept_of h (key_at c.args.key)) c.self.view_is) c.requires.held)
    ]
