-- What is pending at a core after one more fitting piece.
use Rattle.std.proofs.Common.{◌≡◌, ℕ, ◌+◌, ◌*◌, true, false, cond, List, [], ◌∷◌, ◌++◌, Option, Some, None, refl, ap, sym, ◌∙◌, subst}
use Rattle.std.specs.Prelude.{◌==◌, slice_index}
use Rattle.std.specs.Option.{option_map}
use Rattle.std.specs.List.{AllByRecursion}
use Rattle.std.proofs.lemmas.Bool.{false_from_ne_true, or_left, eq-eqb, and_right, not_from_true}
use Rattle.mls_model.specs.declared.outcomes.Outcome.TheVariants.{Replay}
use Rattle.mls_model.specs.Studies.{Sizes}
use Rattle.mls_model.specs.Blocks.{block, width}
use Rattle.mls_model.specs.Frames.{Piece}
use Rattle.mls_model.specs.Places.{any_place}
use Rattle.mls_model.specs.Completion.{Key, key_of, is_completed, completes, makes_whole}
use Rattle.mls_model.specs.Outcomes.{piece_outcome}
use Rattle.mls_model.specs.Fitting.{Fits}
use Rattle.mls_laws.proofs.Completing.{same_key, is_completed_more}
use Rattle.mls_assembly.specs.declared.assembled.Assembled.{Assembled}
use Rattle.mls_assembly.specs.Shares.{Share, block_sample}
use Rattle.mls_ckpt.specs.Histories.{greatest_life}
use Rattle.mls_assembly.specs.Pendings.{Pends, PendsBut}
use Rattle.mls_assembly.specs.Held.{Held, kept_of, life_of, share_at, PendsFor}
use Rattle.mls_assembly.specs.Offered.{offered_sample, Offers}
use Rattle.mls_assembly.proofs.Taking.{pends_other}
use Rattle.mls_assembly.proofs.Storing.{nothing_pends}
use Rattle.mls_assembly.proofs.Offering.{all_pend}

-- nothing is pending before any piece
pub waits_none : (s : Sizes) (rank : ℕ) (held : Held) → ((key : Key) → kept_of held key ≡ None) → Pends s rank (life_of held) (share_at held) []
unfolding is_completed greatest_life any_place
waits_none s rank held none key = record {
  life_is = ap (option_map (λ o. o.life)) (none key);
  share_is = λ l client at within. absurd (clash l (sym (ap (option_map (λ o. o.life)) (none key)) ∙ at));
}
  where
    clash : (l : ℕ) → ◌≡◌ {A = Option ℕ} None (Some l) → ⊥
    clash l e = cc

-- a replay is counted alone
pub replay_outcome : (s : Sizes) (rank : ℕ) (pieces : List Piece) (p : Piece) → is_completed s rank (key_of p) pieces ≡ true → Replay ≡ piece_outcome s rank pieces p
unfolding piece_outcome
replay_outcome s rank pieces p done = rw done refl

pub waits_replay : (s : Sizes) (rank : ℕ) (held : Held) (pieces : List Piece) (p : Piece) → is_completed s rank (key_of p) pieces ≡ true → Pends s rank (life_of held) (share_at held) pieces → Pends s rank (life_of held) (share_at held) (pieces ++ p ∷ [])
waits_replay s rank held pieces p done h =
    all_pend s rank held p (pieces ++ p ∷ [])
    (nothing_pends s rank (key_of p) (life_of held (key_of p)) (share_at held (key_of p)) (pieces ++ p ∷ [])
    ((h (key_of p)).life_is ∙ ap (λ b. cond b None (greatest_life (key_of p) pieces)) done)
    (is_completed_more s rank (key_of p) pieces p ∙ or_left (is_completed s rank (key_of p) pieces) _ done))
    (λ key other. pends_other s rank key (life_of held key) (share_at held key) pieces p (false_from_ne_true _ (λ t. other (sym (same_key key p t)))) (h key))

-- what an offer says, at the numbers of the core
pub offered_at : (s : Sizes) (rank : ℕ) (old new : Held) (p : Piece) (answer : Assembled) → old.sizes ≡ s → old.rank ≡ rank
    → ((pieces : List Piece) → AllByRecursion (Fits old.sizes old.rank) pieces → PendsFor old pieces → is_completed old.sizes old.rank (key_of p) pieces ≡ false → Offers old.sizes old.rank new p answer pieces)
    → (pieces : List Piece) → AllByRecursion (Fits s rank) pieces → Pends s rank (life_of old) (share_at old) pieces → is_completed s rank (key_of p) pieces ≡ false → Offers s rank new p answer pieces
offered_at s rank old new p answer s_is r_is offers =
    subst (λ (r : ℕ). (pieces : List Piece) → AllByRecursion (Fits s r) pieces → Pends s r (life_of old) (share_at old) pieces → is_completed s r (key_of p) pieces ≡ false → Offers s r new p answer pieces) r_is
    (subst (λ (z : Sizes). (pieces : List Piece) → AllByRecursion (Fits z old.rank) pieces → Pends z old.rank (life_of old) (share_at old) pieces → is_completed z old.rank (key_of p) pieces ≡ false → Offers z old.rank new p answer pieces) s_is offers)

-- the samples of a piece that covers the block alone
pub own_samples : (s : Sizes) (rank : ℕ) (held : Held) (p : Piece) → p.count ≡ width (block s rank) → (row place : ℕ) → offered_sample s rank held p row place ≡ slice_index p.samples (row * p.count + place)
own_samples s rank held p whole row place =
    ap (λ b. cond b (slice_index p.samples (row * p.count + place)) (block_sample s rank (share_at held (key_of p)) row place)) (eq-eqb p.count (width (block s rank)) whole)

-- the samples of the shares that are lent
pub lent_samples : (s s' : Sizes) (rank rank' : ℕ) (held : Held) (p : Piece) (shares : ℕ → Option Share) → (p.count == width (block s rank)) ≡ false → s' ≡ s → rank' ≡ rank → ((client : ℕ) → shares client ≡ share_at held (key_of p) client)
    → (row place : ℕ) → offered_sample s rank held p row place ≡ block_sample s' rank' shares row place
lent_samples s s' rank rank' held p shares part s_is r_is lent row place =
    ap (λ b. cond b (slice_index p.samples (row * p.count + place)) (block_sample s rank (share_at held (key_of p)) row place)) part
    ∙ sym (ap (λ z. block_sample z rank' shares row place) s_is
    ∙ (ap (λ r. block_sample s r shares row place) r_is
    ∙ ap (λ (f : ℕ → Option Share). block_sample s rank f row place) (same_shares shares (share_at held (key_of p)) lent)))
  where
    same_shares : (f g : ℕ → Option Share) → ((client : ℕ) → f client ≡ g client) → f ≡ g
    same_shares f g e = λ i client. e client i

-- what is pending, at equal numbers
pub waits_at : (s s' : Sizes) (rank rank' : ℕ) (held held' : Held) (pieces : List Piece) → s' ≡ s → rank' ≡ rank → held' ≡ held → Pends s rank (life_of held) (share_at held) pieces → Pends s' rank' (life_of held') (share_at held') pieces
waits_at s s' rank rank' held held' pieces s_is r_is h_is h =
    subst (λ (z : Sizes). Pends z rank' (life_of held') (share_at held') pieces) (sym s_is)
    (subst (λ (r : ℕ). Pends s r (life_of held') (share_at held') pieces) (sym r_is)
    (subst (λ (x : Held). Pends s rank (life_of x) (share_at x) pieces) (sym h_is) h))

-- a replay completes nothing
pub replay_incomplete : (s : Sizes) (rank : ℕ) (pieces : List Piece) (p : Piece) → is_completed s rank (key_of p) pieces ≡ true → completes s rank pieces p ≡ false
unfolding completes
replay_incomplete s rank pieces p done = and_right (makes_whole s rank pieces p) _ (not_from_true _ done)

pub key_same : (group plane : ℕ) (p : Piece) → group ≡ p.group → plane ≡ p.plane → ◌≡◌ {A = Key} (record { group = group; plane = plane }) (key_of p)
key_same group plane p g t = ap (λ (n : ℕ). let k : Key = record { group = n; plane = plane } in k) g ∙ ap (λ (n : ℕ). let k : Key = record { group = p.group; plane = n } in k) t

-- what the taking out of a key says, at the numbers of the core
pub dropped_at : (s : Sizes) (rank : ℕ) (old new : Held) (own : Key) (p : Piece) (pieces : List Piece) → old.sizes ≡ s → old.rank ≡ rank → own ≡ key_of p
    → ((ps : List Piece) → is_completed old.sizes old.rank own ps ≡ true → PendsBut own old.sizes old.rank (life_of old) (share_at old) ps → Pends old.sizes old.rank (life_of new) (share_at new) ps)
    → is_completed s rank (key_of p) pieces ≡ true → PendsBut (key_of p) s rank (life_of old) (share_at old) pieces → Pends s rank (life_of new) (share_at new) pieces
dropped_at s rank old new own p pieces s_is r_is k_is drops =
    (subst (λ (k : Key). (ps : List Piece) → is_completed s rank k ps ≡ true → PendsBut k s rank (life_of old) (share_at old) ps → Pends s rank (life_of new) (share_at new) ps) k_is
    (subst (λ (r : ℕ). (ps : List Piece) → is_completed s r own ps ≡ true → PendsBut own s r (life_of old) (share_at old) ps → Pends s r (life_of new) (share_at new) ps) r_is
    (subst (λ (z : Sizes). (ps : List Piece) → is_completed z old.rank own ps ≡ true → PendsBut own z old.rank (life_of old) (share_at old) ps → Pends z old.rank (life_of new) (share_at new) ps) s_is drops))) pieces
