-- Keys in the map of the pending ones.
use Rattle.std.proofs.Common.{◌≡◌, ℕ, ◌^◌, ◌<◌, IsSome, true, false, cond, List, length, Option, Some, None, refl, ap, sym, ◌∙◌, ⊎_elim, subst}
use Rattle.std.specs.Prelude.{◌==◌}
use Rattle.std.specs.Ordering.{nat_cmp, ordering_then, is_eq}
use Rattle.std.specs.declared.cmp.Ordering.{Ordering}
use Rattle.std.specs.declared.cmp.Ordering.TheVariants.{Less, Equal, Greater}
use Rattle.std.specs.Map.{lookup}
use Rattle.std.specs.BTreeMap.{is_at}
use Rattle.std.proofs.lemmas.Map.Lookups.{exact_unsigned}
use Rattle.std.proofs.lemmas.Bool.{cases_Bool, false_from_ne_true, eqb-true, eq-eqb}
use Rattle.mls_model.specs.Studies.{Sizes, planes}
use Rattle.mls_model.specs.Completion.{Key}
use Rattle.mls_assembly.specs.declared.group_step.GroupStep.{GroupStep}
use Rattle.mls_assembly.specs.Shares.{Share, IsShare}
use Rattle.mls_assembly.specs.KeyShares.{KeyShares, share_in, AreShares}
use Rattle.mls_assembly.specs.Held.{key_cmp, key_at, step_at, IsPending, ArePending}

equal_from : (o : Ordering) → is_eq o ≡ true → o ≡ Equal
equal_from Less h = absurd cc
equal_from Equal h = refl
equal_from Greater h = absurd cc

then_equal : (a b : Ordering) → ordering_then a b ≡ Equal → (a ≡ Equal) × (b ≡ Equal)
then_equal Less b h = absurd cc
then_equal Equal b h = (refl, h)
then_equal Greater b h = absurd cc

-- the query of a key finds that key alone
pub same_place : (g h : GroupStep) → is_at (key_cmp g) h ≡ true → key_at h ≡ key_at g
same_place g h at =
    let both = then_equal (nat_cmp g.step h.step) (nat_cmp g.group h.group) (equal_from _ at) in
    let step : g.step ≡ h.step = exact_unsigned g.step h.step (both.0) in
    let group : g.group ≡ h.group = exact_unsigned g.group h.group (both.1) in
    sym (ap (λ (n : ℕ). let k : Key = record { group = n; plane = g.step } in k) group ∙ ap (λ (n : ℕ). let k : Key = record { group = h.group; plane = n } in k) step)

pub apart : (key : Key) (g : GroupStep) → (key ≡ key_at g → ⊥) → is_at (key_cmp g) (step_at key) ≡ false
apart key g other = false_from_ne_true _ (λ at. other (same_place g (step_at key) at))

-- the new entries have at a key's place this, and elsewhere what the old ones have
abbrev pub Changes : GroupStep → Option KeyShares → List (GroupStep × KeyShares) → List (GroupStep × KeyShares) → Type 0
Changes g w old new = (q : GroupStep) → lookup (is_at (key_cmp q)) new ≡ cond (is_at (key_cmp g) q) w (lookup (is_at (key_cmp q)) old)

pub others_kept : (g : GroupStep) (w : Option KeyShares) (old new : List (GroupStep × KeyShares)) → Changes g w old new → (key : Key) → (key ≡ key_at g → ⊥) → lookup (is_at (key_cmp (step_at key))) new ≡ lookup (is_at (key_cmp (step_at key))) old
others_kept g w old new changes key other = changes (step_at key) ∙ ap (λ b. cond b w (lookup (is_at (key_cmp (step_at key))) old)) (apart key g other)

pub keeps_changed : (s : Sizes) (rank : ℕ) (g : GroupStep) (w : Option KeyShares) (old new : List (GroupStep × KeyShares)) → Changes g w old new
    → ArePending (record { sizes = s; rank = rank; entries = old }) → ((o : KeyShares) → w ≡ Some o → IsPending s rank (key_at g) o) → ArePending (record { sizes = s; rank = rank; entries = new })
keeps_changed s rank g w old new changes kept fits = record {
  rank_in = kept.rank_in;
  each = λ key o at. ⊎_elim
      (λ t.
      subst (λ (k : Key). IsPending s rank k o) (sym (same_place g (step_at key) t))
      (fits o (sym (changes (step_at key) ∙ ap (λ b. cond b w (lookup (is_at (key_cmp (step_at key))) old)) t) ∙ at)))
      (λ f. kept.each key o (sym (changes (step_at key) ∙ ap (λ b. cond b w (lookup (is_at (key_cmp (step_at key))) old)) f) ∙ at))
      (cases_Bool (is_at (key_cmp g) (step_at key)));
}

-- the shares of a key with one client's, or with one more
fits_more : (s : Sizes) (rank client : ℕ) (part : Share) (rest : ℕ → Option Share) (o : KeyShares) → length o.shares ≡ s.clients → IsShare s rank client part
    → ((c : ℕ) → share_in o c ≡ cond (c == client) (Some part) (rest c)) → ((c : ℕ) (share : Share) → rest c ≡ Some share → IsShare s rank c share) → AreShares s rank o
fits_more s rank client part rest o slots own shares earlier = record {
  slots = slots;
  shares = λ c share at. ⊎_elim
      (λ (t : (c == client) ≡ true).
      let same : c ≡ client = eqb-true c client t in
      let is : part ≡ share = share_same part share (sym (shares c ∙ ap (λ b. cond b (Some part) (rest c)) t) ∙ at) in
      subst (λ (n : ℕ). IsShare s rank n share) (sym same) (subst (λ (x : Share). IsShare s rank client x) is own))
      (λ (f : (c == client) ≡ false). earlier c share (sym (shares c ∙ ap (λ b. cond b (Some part) (rest c)) f) ∙ at))
      (cases_Bool (c == client));
}
  where
    share_same : (a b : Share) → Some a ≡ Some b → a ≡ b
    share_same a b e = cc

-- what is kept of a key with one client's share, or with one more
pub pending_more : (s : Sizes) (rank client : ℕ) (key : Key) (part : Share) (rest : ℕ → Option Share) (o : KeyShares) → key.group < s.groups → key.plane < planes s → o.life < 2 ^ 32 → client < s.clients → length o.shares ≡ s.clients → IsShare s rank client part
    → ((c : ℕ) → share_in o c ≡ cond (c == client) (Some part) (rest c)) → ((c : ℕ) (share : Share) → rest c ≡ Some share → IsShare s rank c share) → IsPending s rank key o
pending_more s rank client key part rest o group plane life within slots own shares earlier = record {
  group = group;
  plane = plane;
  life = life;
  shares = fits_more s rank client part rest o slots own shares earlier;
  some = (client, within, there (share_in o client) (shares client ∙ ap (λ b. cond b (Some part) (rest client)) (eq-eqb client client refl)));
}
  where
    there : (o : Option Share) → o ≡ Some part → IsSome o
    there None e = absurd cc
    there (Some x) e = search
