-- What an offer says of the definitions, from what it did to the keys.
use Rattle.std.proofs.Common.{◌≡◌, ◌≢◌, ℕ, zero, suc, ◌+◌, ◌*◌, ◌^◌, ◌<◌, arith, Bool, true, false, cond, List, [], ◌∷◌, ◌++◌, map, Option, Some, None, refl, ap, sym, ◌∙◌, ⊎_elim, ◌⊎◌, inl, inr, subst, IsSome}
use Rattle.std.specs.Prelude.{◌==◌, IfSome, is_some, slice_index}
use Rattle.std.specs.Option.{option_map}
use Rattle.std.specs.List.{AllByRecursion}
use Rattle.std.proofs.lemmas.Bool.{cases_Bool, cases_eq, both_ways, false_from_ne_true, lt-leb, eq-eqb}
use Rattle.mls_model.specs.declared.outcomes.Outcome.TheVariants.{Accepted, Kept}
use Rattle.mls_model.specs.Numbers.{below}
use Rattle.mls_model.specs.Studies.{Sizes, AreSizes}
use Rattle.mls_model.specs.Blocks.{block, width}
use Rattle.mls_model.specs.Frames.{Piece, IsPiece}
use Rattle.mls_model.specs.Completion.{Key, key_of, is_of_key, is_completed}
use Rattle.mls_model.specs.Fitting.{Fits}
use Rattle.mls_laws.proofs.Completing.{same_key, own_key}
use Rattle.mls_assembly.specs.declared.assembled.Assembled.{Assembled}
use Rattle.mls_assembly.specs.declared.assembled.Assembled.TheVariants as answers
use Rattle.mls_assembly.specs.Shares.{Share, share_of, IsShare, block_sample, has_all}
use Rattle.mls_assembly.specs.KeyShares.{KeyShares, share_in}
use Rattle.mls_assembly.specs.Pendings.{PendsAt, Pends, PendsBut}
use Rattle.mls_assembly.specs.Held.{Held, kept_of, life_of, share_at}
use Rattle.mls_assembly.specs.Offered.{outcome_of, Offers}
use Rattle.mls_assembly.proofs.Latest.{reaches}
use Rattle.mls_assembly.proofs.Taking.{Came, came_stale, came_again, pends_other}
use Rattle.mls_assembly.proofs.Storing.{Stored, with_share, stored_first, stored_more, stored_outcome, completes_is, came_kept, now_completed, nothing_pends}
use Rattle.mls_assembly.proofs.Alone.{stored_alone}
use Rattle.mls_assembly.proofs.Rows.{row_is, own_row}

small_each : (xs : List ℕ) → AllByRecursion (λ x. x < 2 ^ 16) xs → (i : ℕ) → slice_index xs i < 65536
small_each [] each i = omega arith
small_each (x ∷ xs) each zero = let small : x < 2 ^ 16 = each.0 in let fits : x < 65536 = omega arith in fits
small_each (x ∷ xs) each (suc i) = small_each xs each.1 i

-- what a fitting piece brings is its client's share
pub fits_share : (s : Sizes) (rank : ℕ) (p : Piece) → IsPiece p → Fits s rank p → IsShare s rank p.client (share_of p)
fits_share s rank p is fit = record { some = fit.some; first = fit.first; count = fit.count; size = is.size ∙ ap (λ (n : ℕ). n * p.count) fit.rows; fits = small_each p.samples is.samples }

pub held_some : (held : Held) (key : Key) (life : ℕ) → life_of held key ≡ Some life → IsSome (kept_of held key)
held_some held key life h = some_from (kept_of held key) h
  where
    some_from : (o : Option KeyShares) → option_map (λ o. o.life) o ≡ Some life → IsSome o
    some_from None e = absurd cc
    some_from (Some x) e = search

pub not_reached : (life : ℕ) (o : Option ℕ) → IfSome o (λ m. m < life) → reaches life o ≡ false
not_reached life None h = refl
not_reached life (Some m) h = lt-leb life m h

-- keys that are not the piece's
not_own : (key : Key) (p : Piece) → (key ≡ key_of p → ⊥) → is_of_key key p ≡ false
not_own key p other = false_from_ne_true _ (λ t. other (sym (same_key key p t)))

other_from : (key : Key) (p : Piece) → is_of_key key p ≡ false → key ≡ key_of p → ⊥
other_from key p f same = both_ways _ f (ap (λ k. is_of_key k p) same ∙ own_key p)

-- what is pending of a key where the same is held of it
pub held_same : (s : Sizes) (rank : ℕ) (old new : Held) (key : Key) (pieces : List Piece) → kept_of new key ≡ kept_of old key → PendsAt s rank key (life_of old key) (share_at old key) pieces → PendsAt s rank key (life_of new key) (share_at new key) pieces
held_same s rank old new key pieces same h =
    subst (λ (o : Option KeyShares). PendsAt s rank key (option_map (λ o. o.life) o) (λ client. elim o [ None ↦ None | Some x ↦ share_in x client ]) pieces) (sym same) h

-- the other keys after a piece
others_pend : (s : Sizes) (rank : ℕ) (old new : Held) (p : Piece) (pieces : List Piece) → ((key : Key) → (key ≡ key_of p → ⊥) → kept_of new key ≡ kept_of old key)
    → Pends s rank (life_of old) (share_at old) pieces → PendsBut (key_of p) s rank (life_of new) (share_at new) (pieces ++ p ∷ [])
others_pend s rank old new p pieces kept h key other =
    pends_other s rank key (life_of new key) (share_at new key) pieces p (not_own key p other) (held_same s rank old new key pieces (kept key other) (h key))

-- all keys, from one and the others
pub all_pend : (s : Sizes) (rank : ℕ) (held : Held) (p : Piece) (pieces : List Piece) → PendsAt s rank (key_of p) (life_of held (key_of p)) (share_at held (key_of p)) pieces
    → PendsBut (key_of p) s rank (life_of held) (share_at held) pieces → Pends s rank (life_of held) (share_at held) pieces
all_pend s rank held p pieces own others key = ⊎_elim
    (λ t. subst (λ (k : Key). PendsAt s rank k (life_of held k) (share_at held k) pieces) (same_key key p t) own)
    (λ f. others key (other_from key p f))
    (cases_Bool (is_of_key key p))

-- a completed key of which nothing is held
pub none_pend : (s : Sizes) (rank : ℕ) (held : Held) (p : Piece) (pieces : List Piece) → life_of held (key_of p) ≡ None → is_completed s rank (key_of p) pieces ≡ true
    → PendsBut (key_of p) s rank (life_of held) (share_at held) pieces → Pends s rank (life_of held) (share_at held) pieces
none_pend s rank held p pieces none done others =
    all_pend s rank held p pieces (nothing_pends s rank (key_of p) (life_of held (key_of p)) (share_at held (key_of p)) pieces none done) others

answer_of : (flag : Bool) (answer : Assembled) → answer ≡ cond flag answers.Complete answers.Kept → outcome_of answer ≡ cond flag Accepted Kept
answer_of true answer h = ap outcome_of h
answer_of false answer h = ap outcome_of h

kept_flag : (flag : Bool) (answer : Assembled) → answer ≡ cond flag answers.Complete answers.Kept → answer ≢ answers.Complete → flag ≡ false
kept_flag true answer h other = absurd (other h)
kept_flag false answer h other = refl

complete_flag : (flag : Bool) (answer : Assembled) → answer ≡ cond flag answers.Complete answers.Kept → answer ≡ answers.Complete → flag ≡ true
complete_flag true answer h is = refl
complete_flag false answer h is = absurd cc

same_shares : (f g : ℕ → Option Share) → ((client : ℕ) → f client ≡ g client) → f ≡ g
same_shares f g h = λ i client. h client i

-- a piece that was stored
pub offers_stored : (s : Sizes) (rank : ℕ) (old new : Held) (p : Piece) (pieces : List Piece) (answer : Assembled) (shares : ℕ → Option Share)
    → AreSizes s → rank < s.ranks → AllByRecursion (Fits s rank) pieces → Fits s rank p → (p.count == width (block s rank)) ≡ false
    → Pends s rank (life_of old) (share_at old) pieces → Stored s rank pieces p shares
    → life_of new (key_of p) ≡ Some p.life → ((client : ℕ) → share_at new (key_of p) client ≡ shares client) → ((key : Key) → (key ≡ key_of p → ⊥) → kept_of new key ≡ kept_of old key)
    → answer ≡ cond (has_all s rank (share_at new (key_of p))) answers.Complete answers.Kept → Offers s rank new p answer pieces
offers_stored s rank old new p pieces answer shares sizes within all fit part h stored life_is shares_are kept is =
    let now : Stored s rank pieces p (share_at new (key_of p)) = subst (Stored s rank pieces p) (sym (same_shares (share_at new (key_of p)) shares shares_are)) stored in
    record {
      outcome = answer_of (has_all s rank (share_at new (key_of p))) answer is ∙ sym (stored_outcome s rank pieces p (share_at new (key_of p)) now);
      incomplete = λ other. completes_is s rank pieces p (share_at new (key_of p)) now ∙ kept_flag _ answer is other;
      pends = λ other.
          let came = came_kept s rank pieces p (share_at new (key_of p)) now (kept_flag _ answer is other) in
          all_pend s rank new p (pieces ++ p ∷ [])
          (subst (λ (l : Option ℕ). PendsAt s rank (key_of p) l (share_at new (key_of p)) (pieces ++ p ∷ [])) (sym life_is) came.pends)
          (others_pend s rank old new p pieces kept h);
      completed = λ complete.
          let whole : has_all s rank (share_at new (key_of p)) ≡ true = complete_flag _ answer is complete in
          record {
            completes = completes_is s rank pieces p (share_at new (key_of p)) now ∙ whole;
            done = now_completed s rank pieces p (share_at new (key_of p)) now whole;
            others = others_pend s rank old new p pieces kept h;
            rows = λ place inside.
                row_is s rank place pieces p (share_at new (key_of p)) sizes within all fit inside now whole
                ∙ sym (ap (λ b. map (λ row. cond b (slice_index p.samples (row * p.count + place)) (block_sample s rank (share_at new (key_of p)) row place)) (below (s.parameters + 2))) part);
            alone = λ own. absurd (both_ways _ part own);
          };
    }

-- a piece that covers its block alone
pub offers_alone : (s : Sizes) (rank : ℕ) (held : Held) (p : Piece) (pieces : List Piece) → AreSizes s → rank < s.ranks → AllByRecursion (Fits s rank) pieces → Fits s rank p → p.count ≡ width (block s rank)
    → Pends s rank (life_of held) (share_at held) pieces → is_completed s rank (key_of p) pieces ≡ false → Offers s rank held p answers.Complete pieces
offers_alone s rank held p pieces sizes within all fit whole h was =
    let is = stored_alone s rank pieces p (life_of held (key_of p)) (share_at held (key_of p)) sizes within all fit whole (h (key_of p)) was in
    let now : Stored s rank pieces p (with_share (λ client. None) p) = is.0 in
    let done : has_all s rank (with_share (λ client. None) p) ≡ true = is.1 in
    record {
      outcome = sym (stored_outcome s rank pieces p (with_share (λ client. None) p) now ∙ ap (λ b. cond b Accepted Kept) done);
      incomplete = λ other. absurd (other refl);
      pends = λ other. absurd (other refl);
      completed = λ complete. record {
        completes = completes_is s rank pieces p (with_share (λ client. None) p) now ∙ done;
        done = now_completed s rank pieces p (with_share (λ client. None) p) now done;
        others = others_pend s rank held held p pieces (λ key other. refl) h;
        rows = λ place inside.
            own_row s rank place pieces p sizes within all fit whole inside now done
            ∙ sym (ap (λ b. map (λ row. cond b (slice_index p.samples (row * p.count + place)) (block_sample s rank (share_at held (key_of p)) row place)) (below (s.parameters + 2))) (eq-eqb p.count (width (block s rank)) whole));
        alone = λ own. is.2;
      };
    }

-- a piece that changes nothing
offers_same : (s : Sizes) (rank : ℕ) (held : Held) (p : Piece) (pieces : List Piece) (answer : Assembled) → Came s rank pieces p (outcome_of answer) (life_of held (key_of p)) (share_at held (key_of p)) → answer ≢ answers.Complete
    → Pends s rank (life_of held) (share_at held) pieces → Offers s rank held p answer pieces
offers_same s rank held p pieces answer came other h = record {
  outcome = sym came.outcome_is;
  incomplete = λ again. came.incomplete;
  pends = λ again. all_pend s rank held p (pieces ++ p ∷ []) came.pends (others_pend s rank held held p pieces (λ key apart. refl) h);
  completed = λ complete. absurd (other complete);
}

no_stale : answers.Stale ≢ answers.Complete
no_stale e = cc

no_again : answers.Repeated ≢ answers.Complete
no_again e = cc

pub offers_stale : (s : Sizes) (rank : ℕ) (held : Held) (p : Piece) (pieces : List Piece) (m : ℕ) → Pends s rank (life_of held) (share_at held) pieces → is_completed s rank (key_of p) pieces ≡ false
    → life_of held (key_of p) ≡ Some m → p.life < m → Offers s rank held p answers.Stale pieces
offers_stale s rank held p pieces m h was is less =
    offers_same s rank held p pieces answers.Stale (came_stale s rank pieces p (life_of held (key_of p)) (share_at held (key_of p)) m (h (key_of p)) was is less) no_stale h

pub offers_again : (s : Sizes) (rank : ℕ) (held : Held) (p : Piece) (pieces : List Piece) → Pends s rank (life_of held) (share_at held) pieces → is_completed s rank (key_of p) pieces ≡ false → Fits s rank p
    → life_of held (key_of p) ≡ Some p.life → is_some (share_at held (key_of p) p.client) ≡ true → Offers s rank held p answers.Repeated pieces
offers_again s rank held p pieces h was fit is seen =
    offers_same s rank held p pieces answers.Repeated (came_again s rank pieces p (life_of held (key_of p)) (share_at held (key_of p)) (h (key_of p)) was fit.client is seen) no_again h

-- a life that is greater than the one that is pending
pub offers_first : (s : Sizes) (rank : ℕ) (old new : Held) (p : Piece) (pieces : List Piece) (answer : Assembled) → AreSizes s → rank < s.ranks → AllByRecursion (Fits s rank) pieces → Fits s rank p → (p.count == width (block s rank)) ≡ false
    → Pends s rank (life_of old) (share_at old) pieces → is_completed s rank (key_of p) pieces ≡ false → IfSome (life_of old (key_of p)) (λ m. m < p.life)
    → life_of new (key_of p) ≡ Some p.life → ((client : ℕ) → share_at new (key_of p) client ≡ cond (client == p.client) (Some (share_of p)) None) → ((key : Key) → (key ≡ key_of p → ⊥) → kept_of new key ≡ kept_of old key)
    → answer ≡ cond (has_all s rank (share_at new (key_of p))) answers.Complete answers.Kept → Offers s rank new p answer pieces
offers_first s rank old new p pieces answer sizes within all fit part h was newer life_is shares_are kept is =
    offers_stored s rank old new p pieces answer (with_share (λ client. None) p) sizes within all fit part h
    (stored_first s rank pieces p (life_of old (key_of p)) (share_at old (key_of p)) (h (key_of p)) was (not_reached p.life (life_of old (key_of p)) newer)) life_is shares_are kept is

none_from : {A : Type 0} (o : Option A) → is_some o ≡ false → o ≡ None
none_from None h = refl
none_from (Some x) h = absurd cc

-- another client's piece of the life that is pending
pub offers_more : (s : Sizes) (rank : ℕ) (old new : Held) (p : Piece) (pieces : List Piece) (answer : Assembled) → AreSizes s → rank < s.ranks → AllByRecursion (Fits s rank) pieces → Fits s rank p → (p.count == width (block s rank)) ≡ false
    → Pends s rank (life_of old) (share_at old) pieces → is_completed s rank (key_of p) pieces ≡ false → life_of old (key_of p) ≡ Some p.life → is_some (share_at old (key_of p) p.client) ≡ false
    → life_of new (key_of p) ≡ life_of old (key_of p) → ((client : ℕ) → share_at new (key_of p) client ≡ cond (client == p.client) (Some (share_of p)) (share_at old (key_of p) client)) → ((key : Key) → (key ≡ key_of p → ⊥) → kept_of new key ≡ kept_of old key)
    → answer ≡ cond (has_all s rank (share_at new (key_of p))) answers.Complete answers.Kept → Offers s rank new p answer pieces
offers_more s rank old new p pieces answer sizes within all fit part h was at absent life_is shares_are kept is =
    offers_stored s rank old new p pieces answer (with_share (share_at old (key_of p)) p) sizes within all fit part h
    (stored_more s rank pieces p (life_of old (key_of p)) (share_at old (key_of p)) (h (key_of p)) was fit.client at (none_from _ absent)) (life_is ∙ at) shares_are kept is

-- what holds of the fields holds of what is seen of them
pub sizes_seen : (inner held : Held) → inner ≡ held → AreSizes inner.sizes → AreSizes held.sizes
sizes_seen inner held same h = subst (λ (x : Held). AreSizes x.sizes) same h

pub rank_seen : (inner held : Held) → inner ≡ held → inner.rank < inner.sizes.ranks → held.rank < held.sizes.ranks
rank_seen inner held same h = subst (λ (x : Held). x.rank < x.sizes.ranks) same h

-- what a test of the whole key said, at the numbers of before
pub answer_at : (s s' : Sizes) (r r' : ℕ) (held : Held) (key key' : Key) (answer : Assembled) → s' ≡ s → r' ≡ r → key' ≡ key → answer ≡ cond (has_all s' r' (share_at held key')) answers.Complete answers.Kept
    → answer ≡ cond (has_all s r (share_at held key)) answers.Complete answers.Kept
answer_at s s' r r' held key key' answer s_is r_is key_is h =
    h
    ∙ (ap (λ z. cond (has_all z r' (share_at held key')) answers.Complete answers.Kept) s_is
    ∙ (ap (λ q. cond (has_all s q (share_at held key')) answers.Complete answers.Kept) r_is
    ∙ ap (λ k. cond (has_all s r (share_at held k)) answers.Complete answers.Kept) key_is))

pub same_or_other : (a b : Key) → (a ≡ b) ⊎ (a ≡ b → ⊥)
same_or_other a b = ⊎_elim
    (λ (g : a.group ≡ b.group). ⊎_elim
    (λ (t : a.plane ≡ b.plane). inl (ap (λ (n : ℕ). let k : Key = record { group = n; plane = a.plane } in k) g ∙ ap (λ (n : ℕ). let k : Key = record { group = b.group; plane = n } in k) t))
    (λ (t : a.plane ≡ b.plane → ⊥). inr (λ e. t (ap (λ (k : Key). k.plane) e)))
    (cases_eq a.plane b.plane))
    (λ (g : a.group ≡ b.group → ⊥). inr (λ e. g (ap (λ (k : Key). k.group) e)))
    (cases_eq a.group b.group)

-- a key that is taken out
pub pends_dropped : (s : Sizes) (rank : ℕ) (old new : Held) (own : Key) (pieces : List Piece) → kept_of new own ≡ None → ((key : Key) → (key ≡ own → ⊥) → kept_of new key ≡ kept_of old key) → is_completed s rank own pieces ≡ true
    → PendsBut own s rank (life_of old) (share_at old) pieces → Pends s rank (life_of new) (share_at new) pieces
pends_dropped s rank old new own pieces none kept done h key = ⊎_elim
    (λ (same : key ≡ own).
    subst (λ (k : Key). PendsAt s rank k (life_of new k) (share_at new k) pieces) (sym same)
    (nothing_pends s rank own (life_of new own) (share_at new own) pieces (ap (option_map (λ (o : KeyShares). o.life)) none) done))
    (λ (other : key ≡ own → ⊥). held_same s rank old new key pieces (kept key other) (h key other))
    (same_or_other key own)
