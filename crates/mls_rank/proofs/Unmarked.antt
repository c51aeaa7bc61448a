-- The pending keys stay unmarked, and none of them is whole.
use Rattle.std.proofs.Common.{◌≡◌, ℕ, ◌<◌, arith, Bool, true, false, ◌&&◌, ◌||◌, Option, Some, None, refl, ap, sym, ◌∙◌, ⊎_elim, subst, IsSome}
use Rattle.std.specs.Prelude.{◌==◌}
use Rattle.std.proofs.lemmas.Bool.{and_parts, eqb-true, ne_eqb, both_ways, false_from_ne_true}
use Rattle.mls_model.specs.Studies.{Sizes}
use Rattle.mls_model.specs.Frames.{Piece}
use Rattle.mls_model.specs.Completion.{Key, key_of}
use Rattle.mls_ledger.specs.MarkSets.{MarkSet, is_marked}
use Rattle.mls_assembly.specs.Shares.{has_all}
use Rattle.mls_assembly.specs.KeyShares.{KeyShares, share_in}
use Rattle.mls_assembly.specs.Held.{Held, kept_of, share_at, KeepsOthers, AreWhole}
use Rattle.mls_assembly.proofs.Offering.{same_or_other}
use Rattle.mls_rank.specs.Waiting.{IsWaiting, AreWaiting}
use Rattle.mls_rank.proofs.Waiting.{key_same}

none_there : {A : Type 0} (o : Option A) → o ≡ None → IsSome o → ⊥
none_there None e h = absurd cc
none_there (Some x) e h = absurd cc

-- a piece that has not all cells of a block
pub not_all : (count width width' : ℕ) → width ≡ width' → count < width → (count == width') ≡ false
not_all count width width' same less = ne_eqb count width' (λ (e : count ≡ width'). absurd (omega (arith, same, less, e)))

-- nothing is pending
pub waiting_none : (marks : MarkSet) (held : Held) → ((key : Key) → kept_of held key ≡ None) → AreWaiting marks held
waiting_none marks held none key there = absurd (none_there (kept_of held key) (none key) there)

-- of a key the same is kept, and its mark is as it was
moved : (m m' : MarkSet) (h h' : Held) (key : Key) → h'.sizes ≡ h.sizes → h'.rank ≡ h.rank → kept_of h' key ≡ kept_of h key → is_marked m' key.group key.plane ≡ is_marked m key.group key.plane → AreWaiting m h → IsSome (kept_of h' key) → IsWaiting m' h' key
moved m m' h h' key s_is r_is kept_is mark_is waiting there =
    let was : IsWaiting m h key = waiting key (subst (λ (o : Option KeyShares). IsSome o) kept_is there) in
    record {
      unmarked = mark_is ∙ was.unmarked;
      missing =
          ap (λ (z : Sizes). has_all z h'.rank (share_at h' key)) s_is
          ∙ (ap (λ (r : ℕ). has_all h.sizes r (share_at h' key)) r_is
          ∙ (ap (λ (o : Option KeyShares). has_all h.sizes h.rank (λ client. elim o [ None ↦ None | Some x ↦ share_in x client ])) kept_is
          ∙ was.missing));
    }

-- all other keys are as they were, and the own one waits where it is pending
pub waiting_but : (m m' : MarkSet) (h h' : Held) (own : Key) → h'.sizes ≡ h.sizes → h'.rank ≡ h.rank → KeepsOthers h h' own
    → ((key : Key) → (key ≡ own → ⊥) → is_marked m' key.group key.plane ≡ is_marked m key.group key.plane) → (IsSome (kept_of h' own) → IsWaiting m' h' own) → AreWaiting m h → AreWaiting m' h'
waiting_but m m' h h' own s_is r_is others marks own_waits waiting key = ⊎_elim
    (λ (same : key ≡ own). subst (λ (k : Key). IsSome (kept_of h' k) → IsWaiting m' h' k) (sym same) own_waits)
    (λ (other : key ≡ own → ⊥). moved m m' h h' key s_is r_is (others key other) (marks key other) waiting)
    (same_or_other key own)

-- a key that is kept: one of its shares is missing
pub waiting_kept : (m : MarkSet) (h h' : Held) (p : Piece) → h'.sizes ≡ h.sizes → h'.rank ≡ h.rank → KeepsOthers h h' (key_of p) → is_marked m p.group p.plane ≡ false → has_all h.sizes h.rank (share_at h' (key_of p)) ≡ false → AreWaiting m h → AreWaiting m h'
waiting_kept m h h' p s_is r_is others absent missing =
    waiting_but m m h h' (key_of p) s_is r_is others (λ key other. refl)
    (λ there. record {
      unmarked = absent;
      missing = ap (λ (z : Sizes). has_all z h'.rank (share_at h' (key_of p))) s_is ∙ (ap (λ (r : ℕ). has_all h.sizes r (share_at h' (key_of p))) r_is ∙ missing);
    })

-- the marks of all keys but the piece's
others_marked : (m m' : MarkSet) (p : Piece) (group plane : ℕ) → group ≡ p.group → plane ≡ p.plane → ((g q : ℕ) → is_marked m' g q ≡ (is_marked m g q || ((g == group) && (q == plane))))
    → (key : Key) → (key ≡ key_of p → ⊥) → is_marked m' key.group key.plane ≡ is_marked m key.group key.plane
others_marked m m' p group plane g_is p_is marked key other =
    marked key.group key.plane
    ∙ (ap (λ b. is_marked m key.group key.plane || b)
    (false_from_ne_true _ (λ t.
    let parts = and_parts (key.group == group) (key.plane == plane) t in
    other (key_same key.group key.plane p (eqb-true key.group group (parts.0) ∙ g_is) (eqb-true key.plane plane (parts.1) ∙ p_is))))
    ∙ or_false (is_marked m key.group key.plane))
  where
    or_false : (b : Bool) → (b || false) ≡ b
    or_false true = refl
    or_false false = refl

-- a key that is marked, of which nothing is pending any more
pub waiting_dropped : (m m' : MarkSet) (h h' : Held) (p : Piece) (group plane : ℕ) → h'.sizes ≡ h.sizes → h'.rank ≡ h.rank → KeepsOthers h h' (key_of p) → kept_of h' (key_of p) ≡ None → group ≡ p.group → plane ≡ p.plane
    → ((g q : ℕ) → is_marked m' g q ≡ (is_marked m g q || ((g == group) && (q == plane)))) → AreWaiting m h → AreWaiting m' h'
waiting_dropped m m' h h' p group plane s_is r_is others none g_is p_is marked =
    waiting_but m m' h h' (key_of p) s_is r_is others (others_marked m m' p group plane g_is p_is marked) (λ there. absurd (none_there (kept_of h' (key_of p)) none there))

-- a key of a piece that covers the block alone: nothing is pending of any key
pub waiting_alone : (m m' : MarkSet) (h h' : Held) → h' ≡ h → AreWhole h → AreWaiting m h → AreWaiting m' h'
waiting_alone m m' h h' same whole waiting key there =
    let was : IsSome (kept_of h key) = subst (λ (x : Held). IsSome (kept_of x key)) same there in
    absurd (both_ways _ (waiting key was).missing (whole key was))
