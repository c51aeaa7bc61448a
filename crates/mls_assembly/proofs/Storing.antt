-- What becomes of a fitting piece that is stored: it is kept, or it completes its key.
use Rattle.std.proofs.Common.{◌≡◌, ℕ, ◌<◌, max, Bool, true, false, not, ◌&&◌, ◌||◌, cond, List, [], ◌∷◌, ◌++◌, Option, Some, None, refl, ap, sym, ◌∙◌, ⊎_elim, arith}
use Rattle.std.specs.Prelude.{◌==◌}
use Rattle.std.specs.Option.{option_or, option_map, is_some}
use Rattle.std.specs.List.{list_any, find}
use Rattle.std.proofs.lemmas.Bool.{cases_Bool, cases_eq, and_from, and_right, or_right, eq-eqb, ne_eqb, le-ltb, lt-leb, not_from_false}
use Rattle.mls_model.specs.declared.outcomes.Outcome.TheVariants.{Accepted, Kept}
use Rattle.mls_model.specs.Studies.{Sizes}
use Rattle.mls_model.specs.Blocks.{overlaps}
use Rattle.mls_model.specs.Frames.{Piece}
use Rattle.mls_model.specs.Completion.{Key, key_of, is_later_life, is_share, has_all_shares, makes_whole, is_completed, completes}
use Rattle.mls_model.specs.Outcomes.{piece_outcome}
use Rattle.mls_laws.proofs.Completing.{own_key, is_completed_more}
use Rattle.mls_assembly.specs.Shares.{Share, share_of, has_all}
use Rattle.mls_ckpt.specs.Histories.{later_of, greatest_life}
use Rattle.mls_assembly.specs.Pendings.{PendsAt}
use Rattle.mls_assembly.proofs.Latest.{is_after, later_is, reaches, none_of_life, found_is, find_more, find_other}
use Rattle.mls_assembly.proofs.Taking.{all_below_same, own_share, open_life, own_greatest, still_open, is_some_map, kept_first, Came}

-- the shares with one more
abbrev pub with_share : (ℕ → Option Share) → Piece → ℕ → Option Share
with_share shares p client = cond (client == p.client) (Some (share_of p)) (shares client)

-- with this piece these are the first shares of its life, which is the greatest of its key
pub record Stored (s : Sizes) (rank : ℕ) (ps : List Piece) (p : Piece) (shares : ℕ → Option Share) : Type 0 where
  pub was_open : is_completed s rank (key_of p) ps ≡ false
  pub none_later : list_any (is_later_life (key_of p) p.life) ps ≡ false
  pub none_shared : list_any (is_share (key_of p) p.life p.client) ps ≡ false
  pub greatest : greatest_life (key_of p) (ps ++ p ∷ []) ≡ Some p.life
  pub first : (client : ℕ) → client < s.clients → shares client ≡ option_map share_of (find (is_share (key_of p) p.life client) (ps ++ p ∷ []))

top_of : (g : Option ℕ) (l : ℕ) → reaches l g ≡ false → (is_after l g ≡ false) × (later_of g l ≡ l)
top_of None l h = (refl, refl)
top_of (Some m) l h =
    let less : m < l = Rattle.std.proofs.lemmas.Bool.leb-false l m h in
    (le-ltb l m (omega arith), omega arith)

nothing_found : {A : Type 0} (o : Option A) → o ≡ None → is_some o ≡ false
nothing_found None h = refl
nothing_found (Some x) h = absurd cc

-- one more share where the earlier ones are the first of the life
first_more : (s : Sizes) (ps : List Piece) (p : Piece) (shares : ℕ → Option Share) → find (is_share (key_of p) p.life p.client) ps ≡ None
    → ((client : ℕ) → client < s.clients → shares client ≡ option_map share_of (find (is_share (key_of p) p.life client) ps))
    → (client : ℕ) → client < s.clients → with_share shares p client ≡ option_map share_of (find (is_share (key_of p) p.life client) (ps ++ p ∷ []))
first_more s ps p shares none first client within = ⊎_elim
    (λ (same : client ≡ p.client).
    let here : find (is_share (key_of p) p.life client) (ps ++ p ∷ []) ≡ Some p
    = ap (λ c. find (is_share (key_of p) p.life c) (ps ++ p ∷ [])) same
    ∙ (find_more (is_share (key_of p) p.life p.client) ps p
    ∙ (ap (λ (o : Option Piece). option_or o (cond (is_share (key_of p) p.life p.client p) (Some p) None)) none
    ∙ ap (λ b. cond b (Some p) None) (own_share p))) in
    ap (λ b. cond b (Some (share_of p)) (shares client)) (eq-eqb client p.client same) ∙ sym (ap (option_map share_of) here))
    (λ (other : client ≡ p.client → ⊥).
    ap (λ b. cond b (Some (share_of p)) (shares client)) (ne_eqb client p.client other)
    ∙ (first client within
    ∙ sym (ap (option_map share_of) (find_other (is_share (key_of p) p.life client) ps p (and_right _ _ (ne_eqb p.client client (λ e. other (sym e))))))))
    (cases_eq client p.client)

-- a life that is greater than all before
pub stored_first : (s : Sizes) (rank : ℕ) (ps : List Piece) (p : Piece) (life : Option ℕ) (shares : ℕ → Option Share) → PendsAt s rank (key_of p) life shares ps → is_completed s rank (key_of p) ps ≡ false
    → reaches p.life life ≡ false → Stored s rank ps p (with_share (λ client. None) p)
stored_first s rank ps p life shares h was new =
    let new_top : reaches p.life (greatest_life (key_of p) ps) ≡ false = sym (ap (reaches p.life) (open_life s rank (key_of p) life shares ps h was)) ∙ new in
    let top = top_of (greatest_life (key_of p) ps) p.life new_top in
    let none : (client : ℕ) → find (is_share (key_of p) p.life client) ps ≡ None = λ client. none_of_life (key_of p) p.life client ps new_top in
    record {
      was_open = was;
      none_later = later_is (key_of p) p.life ps ∙ top.0;
      none_shared = found_is (is_share (key_of p) p.life p.client) ps ∙ nothing_found _ (none p.client);
      greatest = own_greatest ps p ∙ ap (λ (n : ℕ). Some n) (top.1);
      first = first_more s ps p (λ client. None) (none p.client) (λ client within. sym (ap (option_map share_of) (none client)));
    }

-- another client's share of the life that is pending
pub stored_more : (s : Sizes) (rank : ℕ) (ps : List Piece) (p : Piece) (life : Option ℕ) (shares : ℕ → Option Share) → PendsAt s rank (key_of p) life shares ps → is_completed s rank (key_of p) ps ≡ false → p.client < s.clients
    → life ≡ Some p.life → shares p.client ≡ None → Stored s rank ps p (with_share shares p)
stored_more s rank ps p life shares h was within is absent =
    let top : greatest_life (key_of p) ps ≡ Some p.life = sym (open_life s rank (key_of p) life shares ps h was) ∙ is in
    let most : max p.life p.life ≡ p.life = omega arith in
    let none : find (is_share (key_of p) p.life p.client) ps ≡ None = none_mapped share_of _ (sym (h.share_is p.life p.client is within) ∙ absent) in
    record {
      was_open = was;
      none_later = later_is (key_of p) p.life ps ∙ (ap (is_after p.life) top ∙ le-ltb p.life p.life (omega arith));
      none_shared = found_is (is_share (key_of p) p.life p.client) ps ∙ nothing_found _ none;
      greatest = own_greatest ps p ∙ (ap (λ (o : Option ℕ). Some (later_of o p.life)) top ∙ ap (λ (n : ℕ). Some n) most);
      first = first_more s ps p shares none (λ client inside. h.share_is p.life client is inside);
    }
  where
    none_mapped : {A B : Type 0} (f : A → B) (o : Option A) → option_map f o ≡ None → o ≡ None
    none_mapped f None e = refl
    none_mapped f (Some x) e = absurd cc

pub whole_is : (s : Sizes) (rank : ℕ) (ps : List Piece) (p : Piece) (shares : ℕ → Option Share) → Stored s rank ps p shares → has_all s rank shares ≡ has_all_shares s rank (key_of p) p.life (ps ++ p ∷ [])
whole_is s rank ps p shares h =
    all_below_same (λ client. not (overlaps s rank client) || is_some (shares client)) (λ client. not (overlaps s rank client) || list_any (is_share (key_of p) p.life client) (ps ++ p ∷ [])) s.clients
    (λ client within.
    ap (λ b. not (overlaps s rank client) || b)
    (ap is_some (h.first client within) ∙ (is_some_map share_of _ ∙ sym (found_is (is_share (key_of p) p.life client) (ps ++ p ∷ [])))))

pub makes_is : (s : Sizes) (rank : ℕ) (ps : List Piece) (p : Piece) (shares : ℕ → Option Share) → Stored s rank ps p shares → makes_whole s rank ps p ≡ has_all s rank shares
unfolding makes_whole
makes_is s rank ps p shares h =
    ap (λ b. not b && has_all_shares s rank (key_of p) p.life (ps ++ p ∷ [])) h.none_later ∙ sym (whole_is s rank ps p shares h)

pub completes_is : (s : Sizes) (rank : ℕ) (ps : List Piece) (p : Piece) (shares : ℕ → Option Share) → Stored s rank ps p shares → completes s rank ps p ≡ has_all s rank shares
unfolding completes
completes_is s rank ps p shares h =
    ap (λ b. makes_whole s rank ps p && not b) h.was_open ∙ (and_true (makes_whole s rank ps p) ∙ makes_is s rank ps p shares h)
  where
    and_true : (b : Bool) → (b && true) ≡ b
    and_true true = refl
    and_true false = refl

pub stored_outcome : (s : Sizes) (rank : ℕ) (ps : List Piece) (p : Piece) (shares : ℕ → Option Share) → Stored s rank ps p shares → piece_outcome s rank ps p ≡ cond (has_all s rank shares) Accepted Kept
unfolding piece_outcome
stored_outcome s rank ps p shares h =
    kept_first _ _ _ _ h.was_open h.none_later h.none_shared ∙ ap (λ b. cond b Accepted Kept) (completes_is s rank ps p shares h)

some_same : (a b : ℕ) → ◌≡◌ {A = Option ℕ} (Some a) (Some b) → a ≡ b
some_same a b e = cc

-- a share is missing: the piece is kept
pub came_kept : (s : Sizes) (rank : ℕ) (ps : List Piece) (p : Piece) (shares : ℕ → Option Share) → Stored s rank ps p shares → has_all s rank shares ≡ false → Came s rank ps p Kept (Some p.life) shares
came_kept s rank ps p shares h missing =
    let none : makes_whole s rank ps p ≡ false = makes_is s rank ps p shares h ∙ missing in
    record {
      outcome_is = stored_outcome s rank ps p shares h ∙ ap (λ b. cond b Accepted Kept) missing;
      incomplete = completes_is s rank ps p shares h ∙ missing;
      pends = record {
        life_is = sym (ap (λ b. cond b None (greatest_life (key_of p) (ps ++ p ∷ []))) (still_open s rank ps p h.was_open none) ∙ h.greatest);
        share_is = λ l client at within.
            let same : p.life ≡ l = some_same p.life l at in
            h.first client within ∙ ap (λ (n : ℕ). option_map share_of (find (is_share (key_of p) n client) (ps ++ p ∷ []))) same;
      };
    }

-- no share is missing: the key is completed, and nothing of it is pending
pub now_completed : (s : Sizes) (rank : ℕ) (ps : List Piece) (p : Piece) (shares : ℕ → Option Share) → Stored s rank ps p shares → has_all s rank shares ≡ true → is_completed s rank (key_of p) (ps ++ p ∷ []) ≡ true
now_completed s rank ps p shares h all =
    is_completed_more s rank (key_of p) ps p ∙ or_right (is_completed s rank (key_of p) ps) _ (and_from _ _ (own_key p) (makes_is s rank ps p shares h ∙ all))

pub nothing_pends : (s : Sizes) (rank : ℕ) (key : Key) (life : Option ℕ) (shares : ℕ → Option Share) (ps : List Piece) → life ≡ None → is_completed s rank key ps ≡ true → PendsAt s rank key life shares ps
nothing_pends s rank key life shares ps none done = record {
  life_is = none ∙ sym (ap (λ b. cond b None (greatest_life key ps)) done);
  share_is = λ l client at within. absurd (clash l (sym none ∙ at));
}
  where
    clash : (l : ℕ) → ◌≡◌ {A = Option ℕ} None (Some l) → ⊥
    clash l e = cc
