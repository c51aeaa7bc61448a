-- What becomes of a fitting piece whose key is not completed, by what is pending of its key.
use Rattle.std.proofs.Common.{◌≡◌, ℕ, zero, suc, ◌<◌, max, Bool, true, false, not, ◌&&◌, ◌||◌, cond, List, [], ◌∷◌, ◌++◌, Option, Some, None, refl, ap, sym, ◌∙◌, ⊎_elim, subst, arith}
use Rattle.std.specs.Option.{option_or, option_map, is_some}
use Rattle.std.specs.List.{list_any, list_all, find}
use Rattle.std.proofs.lemmas.List.Folds.{list_any-append, list_all-append}
use Rattle.std.proofs.lemmas.Bool.{cases_eq, and_from, and_parts, and_left, and_right, or_left, eq-eqb, ne_eqb, lt-ltb, le-ltb, not_from_true, both_ways, false_from_ne_true}
use Rattle.mls_model.specs.declared.outcomes.Outcome.{Outcome}
use Rattle.mls_model.specs.declared.outcomes.Outcome.TheVariants.{Accepted, Kept, Replay, Stale, Repeated}
use Rattle.mls_model.specs.Numbers.{below}
use Rattle.mls_model.specs.Studies.{Sizes}
use Rattle.mls_model.specs.Blocks.{overlaps}
use Rattle.mls_model.specs.Frames.{Piece}
use Rattle.mls_model.specs.Completion.{Key, key_of, is_of_key, is_later_life, is_share, has_all_shares, makes_whole, is_completed, completes}
use Rattle.mls_model.specs.Outcomes.{piece_outcome}
use Rattle.mls_laws.proofs.Completing.{own_key, is_completed_more}
use Rattle.mls_assembly.specs.Shares.{Share, share_of}
use Rattle.mls_ckpt.specs.Histories.{later_of, greatest_life}
use Rattle.mls_assembly.specs.Pendings.{PendsAt}
use Rattle.mls_assembly.proofs.Latest.{greatest_more, is_after, later_is, found_is, find_more, find_other, other_life, no_share, whole_completed}

-- tests of the numbers below n
pub all_below_same : (t u : ℕ → Bool) (n : ℕ) → ((k : ℕ) → k < n → t k ≡ u k) → list_all t (below n) ≡ list_all u (below n)
all_below_same t u zero h = refl
all_below_same t u (suc n) h =
    list_all-append t (below n) (n ∷ [])
    ∙ (ap (λ b. b && (t n && true)) (all_below_same t u n (λ k lt. h k (omega arith)))
    ∙ (ap (λ b. list_all u (below n) && (b && true)) (h n (omega arith))
    ∙ sym (list_all-append u (below n) (n ∷ []))))

all_true : (n : ℕ) → list_all (λ k. true) (below n) ≡ true
all_true zero = refl
all_true (suc n) = list_all-append (λ k. true) (below n) (n ∷ []) ∙ ap (λ b. b && true) (all_true n)

pub all_below : (t : ℕ → Bool) (n : ℕ) → ((k : ℕ) → k < n → t k ≡ true) → list_all t (below n) ≡ true
all_below t n h = all_below_same t (λ k. true) n h ∙ all_true n

pub below_at : (t : ℕ → Bool) (n : ℕ) → list_all t (below n) ≡ true → (k : ℕ) → k < n → t k ≡ true
below_at t zero h k lt = absurd (omega arith)
below_at t (suc n) h k lt =
    let parts = and_parts (list_all t (below n)) (t n && true) (sym (list_all-append t (below n) (n ∷ [])) ∙ h) in
    let last = and_parts (t n) true (parts.1) in
    ⊎_elim (λ (same : k ≡ n). ap t same ∙ last.0) (λ (other : k ≡ n → ⊥). below_at t n (parts.0) k (omega (arith, other))) (cases_eq k n)

pub own_share : (p : Piece) → is_share (key_of p) p.life p.client p ≡ true
own_share p = and_from _ _ (and_from _ _ (own_key p) (eq-eqb p.life p.life refl)) (eq-eqb p.client p.client refl)

-- the first that holds
stale_first : (done later shared completed : Bool) → done ≡ false → later ≡ true → cond done Replay (cond later Stale (cond shared Repeated (cond completed Accepted Kept))) ≡ Stale
stale_first done later shared completed a b = rw (a, b) refl

repeated_first : (done later shared completed : Bool) → done ≡ false → later ≡ false → shared ≡ true → cond done Replay (cond later Stale (cond shared Repeated (cond completed Accepted Kept))) ≡ Repeated
repeated_first done later shared completed a b c = rw (a, b, c) refl

pub kept_first : (done later shared completed : Bool) → done ≡ false → later ≡ false → shared ≡ false → cond done Replay (cond later Stale (cond shared Repeated (cond completed Accepted Kept))) ≡ cond completed Accepted Kept
kept_first done later shared completed a b c = rw (a, b, c) refl

-- what is pending of another key stays
pub pends_other : (s : Sizes) (rank : ℕ) (key : Key) (life : Option ℕ) (shares : ℕ → Option Share) (ps : List Piece) (p : Piece) → is_of_key key p ≡ false → PendsAt s rank key life shares ps → PendsAt s rank key life shares (ps ++ p ∷ [])
pends_other s rank key life shares ps p other h =
    let same : is_completed s rank key (ps ++ p ∷ []) ≡ is_completed s rank key ps = is_completed_more s rank key ps p ∙ (ap (λ b. is_completed s rank key ps || (b && makes_whole s rank ps p)) other ∙ or_nothing (is_completed s rank key ps)) in
    let top : greatest_life key (ps ++ p ∷ []) ≡ greatest_life key ps = greatest_more key ps p ∙ ap (λ b. cond b (Some (later_of (greatest_life key ps) p.life)) (greatest_life key ps)) other in
    record {
      life_is = h.life_is ∙ sym (ap (λ b. cond b None (greatest_life key (ps ++ p ∷ []))) same ∙ ap (λ (o : Option ℕ). cond (is_completed s rank key ps) None o) top);
      share_is = λ l client is within. h.share_is l client is within ∙ sym (ap (option_map share_of) (find_other (is_share key l client) ps p (no_share key l client p other)));
    }
  where
    or_nothing : (b : Bool) → (b || false) ≡ b
    or_nothing true = refl
    or_nothing false = refl

-- the life of a key that is not completed
pub open_life : (s : Sizes) (rank : ℕ) (key : Key) (life : Option ℕ) (shares : ℕ → Option Share) (ps : List Piece) → PendsAt s rank key life shares ps → is_completed s rank key ps ≡ false → life ≡ greatest_life key ps
open_life s rank key life shares ps h open_key = h.life_is ∙ ap (λ b. cond b None (greatest_life key ps)) open_key

-- where a piece makes nothing whole, its key is completed where it was
pub still_open : (s : Sizes) (rank : ℕ) (ps : List Piece) (p : Piece) → is_completed s rank (key_of p) ps ≡ false → makes_whole s rank ps p ≡ false → is_completed s rank (key_of p) (ps ++ p ∷ []) ≡ false
still_open s rank ps p was none = is_completed_more s rank (key_of p) ps p ∙ (ap (λ b. b || (is_of_key (key_of p) p && makes_whole s rank ps p)) was ∙ and_right (is_of_key (key_of p) p) _ none)

pub own_greatest : (ps : List Piece) (p : Piece) → greatest_life (key_of p) (ps ++ p ∷ []) ≡ Some (later_of (greatest_life (key_of p) ps) p.life)
own_greatest ps p = greatest_more (key_of p) ps p ∙ ap (λ b. cond b (Some (later_of (greatest_life (key_of p) ps) p.life)) (greatest_life (key_of p) ps)) (own_key p)

-- what a piece came to
pub record Came (s : Sizes) (rank : ℕ) (ps : List Piece) (p : Piece) (outcome : Outcome) (life : Option ℕ) (shares : ℕ → Option Share) : Type 0 where
  pub outcome_is : piece_outcome s rank ps p ≡ outcome
  pub incomplete : completes s rank ps p ≡ false
  pub pends : PendsAt s rank (key_of p) life shares (ps ++ p ∷ [])

pub not_complete : (s : Sizes) (rank : ℕ) (ps : List Piece) (p : Piece) → makes_whole s rank ps p ≡ false → completes s rank ps p ≡ false
unfolding completes
not_complete s rank ps p none = and_left (makes_whole s rank ps p) (not (is_completed s rank (key_of p) ps)) none

later_none : (s : Sizes) (rank : ℕ) (ps : List Piece) (p : Piece) → list_any (is_later_life (key_of p) p.life) ps ≡ true → makes_whole s rank ps p ≡ false
unfolding makes_whole
later_none s rank ps p later = and_left _ (has_all_shares s rank (key_of p) p.life (ps ++ p ∷ [])) (not_from_true _ later)

pub came_stale : (s : Sizes) (rank : ℕ) (ps : List Piece) (p : Piece) (life : Option ℕ) (shares : ℕ → Option Share) (m : ℕ) → PendsAt s rank (key_of p) life shares ps → is_completed s rank (key_of p) ps ≡ false
    → life ≡ Some m → p.life < m → Came s rank ps p Stale life shares
unfolding piece_outcome
came_stale s rank ps p life shares m h was is less =
    let top : greatest_life (key_of p) ps ≡ Some m = sym (open_life s rank (key_of p) life shares ps h was) ∙ is in
    let later : list_any (is_later_life (key_of p) p.life) ps ≡ true = later_is (key_of p) p.life ps ∙ (ap (is_after p.life) top ∙ lt-ltb p.life m less) in
    let none : makes_whole s rank ps p ≡ false = later_none s rank ps p later in
    let most : max m p.life ≡ m = omega arith in
    let new_top : greatest_life (key_of p) (ps ++ p ∷ []) ≡ Some m = own_greatest ps p ∙ (ap (λ (o : Option ℕ). Some (later_of o p.life)) top ∙ ap (λ (n : ℕ). Some n) most) in
    record {
      outcome_is = stale_first _ _ _ _ was later;
      incomplete = not_complete s rank ps p none;
      pends = record {
        life_is = is ∙ sym (ap (λ b. cond b None (greatest_life (key_of p) (ps ++ p ∷ []))) (still_open s rank ps p was none) ∙ new_top);
        share_is = λ l client at within.
            let same : m ≡ l = some_same m l (sym is ∙ at) in
            h.share_is l client at within ∙ sym (ap (option_map share_of) (find_other (is_share (key_of p) l client) ps p (other_life (key_of p) l client p (ne_eqb p.life l (λ e. omega arith)))));
      };
    }
  where
    some_same : (a b : ℕ) → ◌≡◌ {A = Option ℕ} (Some a) (Some b) → a ≡ b
    some_same a b e = cc

pub or_first : {A : Type 0} (o r : Option A) → is_some o ≡ true → option_or o r ≡ o
or_first None r h = absurd cc
or_first (Some x) r h = refl

pub is_some_map : {A B : Type 0} (f : A → B) (o : Option A) → is_some (option_map f o) ≡ is_some o
is_some_map f None = refl
is_some_map f (Some x) = refl

-- a share that stands already changes nothing of what is whole
shares_again : (s : Sizes) (rank : ℕ) (ps : List Piece) (p : Piece) → list_any (is_share (key_of p) p.life p.client) ps ≡ true
    → has_all_shares s rank (key_of p) p.life (ps ++ p ∷ []) ≡ has_all_shares s rank (key_of p) p.life ps
shares_again s rank ps p seen =
    all_below_same (λ client. not (overlaps s rank client) || list_any (is_share (key_of p) p.life client) (ps ++ p ∷ [])) (λ client. not (overlaps s rank client) || list_any (is_share (key_of p) p.life client) ps) s.clients
    (λ client within. ap (λ b. not (overlaps s rank client) || b) (again client))
  where
    again : (client : ℕ) → list_any (is_share (key_of p) p.life client) (ps ++ p ∷ []) ≡ list_any (is_share (key_of p) p.life client) ps
    again client = ⊎_elim
        (λ (same : client ≡ p.client).
        let here : list_any (is_share (key_of p) p.life client) ps ≡ true = ap (λ c. list_any (is_share (key_of p) p.life c) ps) same ∙ seen in
        list_any-append (is_share (key_of p) p.life client) ps (p ∷ []) ∙ (or_left _ _ here ∙ sym here))
        (λ (other : client ≡ p.client → ⊥).
        let none : is_share (key_of p) p.life client p ≡ false = and_right _ _ (ne_eqb p.client client (λ e. other (sym e))) in
        found_is (is_share (key_of p) p.life client) (ps ++ p ∷ []) ∙ (ap is_some (find_other (is_share (key_of p) p.life client) ps p none) ∙ sym (found_is (is_share (key_of p) p.life client) ps)))
        (cases_eq client p.client)

not_whole_again : (s : Sizes) (rank : ℕ) (ps : List Piece) (p : Piece) → greatest_life (key_of p) ps ≡ Some p.life → is_completed s rank (key_of p) ps ≡ false → list_any (is_share (key_of p) p.life p.client) ps ≡ true → makes_whole s rank ps p ≡ false
unfolding makes_whole
not_whole_again s rank ps p top was seen =
    and_right (not (list_any (is_later_life (key_of p) p.life) ps)) _
    (shares_again s rank ps p seen ∙ false_from_ne_true _ (λ whole. both_ways _ was (whole_completed s rank (key_of p) ps p.life top whole)))

pub came_again : (s : Sizes) (rank : ℕ) (ps : List Piece) (p : Piece) (life : Option ℕ) (shares : ℕ → Option Share) → PendsAt s rank (key_of p) life shares ps → is_completed s rank (key_of p) ps ≡ false → p.client < s.clients
    → life ≡ Some p.life → is_some (shares p.client) ≡ true → Came s rank ps p Repeated life shares
unfolding piece_outcome
came_again s rank ps p life shares h was within is held =
    let top : greatest_life (key_of p) ps ≡ Some p.life = sym (open_life s rank (key_of p) life shares ps h was) ∙ is in
    let none_later : list_any (is_later_life (key_of p) p.life) ps ≡ false = later_is (key_of p) p.life ps ∙ (ap (is_after p.life) top ∙ le-ltb p.life p.life (omega arith)) in
    let found : is_some (find (is_share (key_of p) p.life p.client) ps) ≡ true = sym (is_some_map share_of (find (is_share (key_of p) p.life p.client) ps)) ∙ (sym (ap is_some (h.share_is p.life p.client is within)) ∙ held) in
    let seen : list_any (is_share (key_of p) p.life p.client) ps ≡ true = found_is (is_share (key_of p) p.life p.client) ps ∙ found in
    let none : makes_whole s rank ps p ≡ false = not_whole_again s rank ps p top was seen in
    let most : max p.life p.life ≡ p.life = omega arith in
    let new_top : greatest_life (key_of p) (ps ++ p ∷ []) ≡ Some p.life = own_greatest ps p ∙ (ap (λ (o : Option ℕ). Some (later_of o p.life)) top ∙ ap (λ (n : ℕ). Some n) most) in
    record {
      outcome_is = repeated_first _ _ _ _ was none_later seen;
      incomplete = not_complete s rank ps p none;
      pends = record {
        life_is = is ∙ sym (ap (λ b. cond b None (greatest_life (key_of p) (ps ++ p ∷ []))) (still_open s rank ps p was none) ∙ new_top);
        share_is = λ l client at inside.
            let same : p.life ≡ l = some_same p.life l (sym is ∙ at) in
            h.share_is l client at inside
            ∙ ap (option_map share_of) (sym (subst (λ (n : ℕ). find (is_share (key_of p) n client) (ps ++ p ∷ []) ≡ find (is_share (key_of p) n client) ps) same (again client found)));
      };
    }
  where
    some_same : (a b : ℕ) → ◌≡◌ {A = Option ℕ} (Some a) (Some b) → a ≡ b
    some_same a b e = cc

    again : (client : ℕ) → is_some (find (is_share (key_of p) p.life p.client) ps) ≡ true → find (is_share (key_of p) p.life client) (ps ++ p ∷ []) ≡ find (is_share (key_of p) p.life client) ps
    again client found = ⊎_elim
        (λ (same : client ≡ p.client). find_more (is_share (key_of p) p.life client) ps p ∙ or_first _ _ (ap (λ c. is_some (find (is_share (key_of p) p.life c) ps)) same ∙ found))
        (λ (other : client ≡ p.client → ⊥). find_other (is_share (key_of p) p.life client) ps p (and_right _ _ (ne_eqb p.client client (λ e. other (sym e)))))
        (cases_eq client p.client)
