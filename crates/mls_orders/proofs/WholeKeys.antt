-- Which keys are completed, from the tape alone.
use Rattle.std.proofs.Common.{◌≡◌, ℕ, ◌≤◌, max, Bool, true, false, not, ◌&&◌, ◌||◌, cond, eqb, ltb, List, [], ◌∷◌, ◌++◌, IsPermutation, refl, sym, ap, ◌∙◌, subst, ⊎_elim, arith, eq-eqb, eqb-true, le-ltb}
use Rattle.std.specs.List.{list_any, list_all}
use Rattle.std.proofs.lemmas.Bool.{cases_Bool, cases_lt, and_parts, and_from, and_left, and_right, or_from, or_parts, or_cases, or_left, or_right, not_from_false, both_ways, false_from_ne_true}
use Rattle.std.proofs.lemmas.List.Folds.{list_any-append, Any-from_list_any}
use Rattle.std.proofs.lemmas.List.Sorted.{list_any-IsPermutation}
use Rattle.mls_model.specs.Numbers.{below}
use Rattle.mls_model.specs.Studies.{Sizes}
use Rattle.mls_model.specs.Blocks.{overlaps}
use Rattle.mls_model.specs.Frames.{Piece}
use Rattle.mls_model.specs.Completion.{Key, key_of, is_of_key, is_later_life, is_share, has_all_shares, makes_whole, is_completed}
use Rattle.mls_laws.proofs.Places.{from_end}
use Rattle.mls_laws.proofs.Completing.{same_key, is_completed_more}
use Rattle.mls_model.specs.Places.{any_place}
use Rattle.mls_orders.specs.OrderFree.{greatest_life, some_life_has_all, IsSettled}

-- ---- lists in another order, and longer ones

pub shares_permuted : (s : Sizes) (rank : ℕ) (key : Key) (life : ℕ) (xs ys : List Piece) → IsPermutation xs ys → has_all_shares s rank key life xs ≡ has_all_shares s rank key life ys
shares_permuted s rank key life xs ys h = λ i. list_all (λ client. not (overlaps s rank client) || list_any-IsPermutation (is_share key life client) xs ys h i) (below s.clients)

pub some_permuted : (s : Sizes) (rank : ℕ) (key : Key) (xs ys : List Piece) → IsPermutation xs ys → some_life_has_all s rank key xs ≡ some_life_has_all s rank key ys
unfolding some_life_has_all
some_permuted s rank key xs ys h =
    (λ i. list_any (λ p. is_of_key key p && shares_permuted s rank key p.life xs ys h i) xs)
    ∙ list_any-IsPermutation (λ p. is_of_key key p && has_all_shares s rank key p.life ys) xs ys h

pub any_weaker : {X : Type 0} (p q : X → Bool) → ((x : X) → p x ≡ true → q x ≡ true) → (xs : List X) → list_any p xs ≡ true → list_any q xs ≡ true
any_weaker p q weaker [] h = h
any_weaker p q weaker (x ∷ xs) h = ⊎_elim
    (λ t. or_left (q x) (list_any q xs) (weaker x t))
    (λ t. or_right (q x) (list_any q xs) (any_weaker p q weaker xs t))
    (or_cases (p x) (list_any p xs) h)

all_weaker : {X : Type 0} (p q : X → Bool) → ((x : X) → p x ≡ true → q x ≡ true) → (xs : List X) → list_all p xs ≡ true → list_all q xs ≡ true
all_weaker p q weaker [] h = h
all_weaker p q weaker (x ∷ xs) h =
    let parts = and_parts (p x) (list_all p xs) h in
    and_from (q x) (list_all q xs) (weaker x parts.0) (all_weaker p q weaker xs parts.1)

or_weaker : (a b c : Bool) → (b ≡ true → c ≡ true) → (a || b) ≡ true → (a || c) ≡ true
or_weaker true b c w h = refl
or_weaker false b c w h = w h

any_front : {X : Type 0} (p : X → Bool) (xs ys : List X) → list_any p xs ≡ true → list_any p (xs ++ ys) ≡ true
any_front p xs ys h = list_any-append p xs ys ∙ or_left (list_any p xs) (list_any p ys) h

shares_more : (s : Sizes) (rank : ℕ) (key : Key) (life : ℕ) (xs ys : List Piece) → has_all_shares s rank key life xs ≡ true → has_all_shares s rank key life (xs ++ ys) ≡ true
shares_more s rank key life xs ys h =
    all_weaker (λ client. not (overlaps s rank client) || list_any (is_share key life client) xs) (λ client. not (overlaps s rank client) || list_any (is_share key life client) (xs ++ ys))
    (λ client. or_weaker (not (overlaps s rank client)) _ _ (any_front (is_share key life client) xs ys)) (below s.clients) h

any_last : {X : Type 0} (p : X → Bool) (xs : List X) (x : X) → p x ≡ true → list_any p (xs ++ x ∷ []) ≡ true
any_last p xs x h = list_any-append p xs (x ∷ []) ∙ or_right (list_any p xs) (list_any p (x ∷ [])) (or_left (p x) false h)

some_more : (s : Sizes) (rank : ℕ) (key : Key) (xs ys : List Piece) → some_life_has_all s rank key xs ≡ true → some_life_has_all s rank key (xs ++ ys) ≡ true
unfolding some_life_has_all
some_more s rank key xs ys h =
    any_front (λ p. is_of_key key p && has_all_shares s rank key p.life (xs ++ ys)) xs ys
    (any_weaker (λ p. is_of_key key p && has_all_shares s rank key p.life xs) (λ p. is_of_key key p && has_all_shares s rank key p.life (xs ++ ys))
    (λ p t. let parts = and_parts (is_of_key key p) (has_all_shares s rank key p.life xs) t in and_from _ _ parts.0 (shares_more s rank key p.life xs ys parts.1)) xs h)

some_last : (s : Sizes) (rank : ℕ) (key : Key) (ps : List Piece) (p : Piece) → (is_of_key key p && makes_whole s rank ps p) ≡ true → some_life_has_all s rank key (ps ++ p ∷ []) ≡ true
unfolding some_life_has_all makes_whole
some_last s rank key ps p h =
    let parts = and_parts (is_of_key key p) (makes_whole s rank ps p) h in
    let whole = and_parts (not (list_any (is_later_life (key_of p) p.life) ps)) (has_all_shares s rank (key_of p) p.life (ps ++ p ∷ [])) parts.1 in
    any_last (λ q. is_of_key key q && has_all_shares s rank key q.life (ps ++ p ∷ [])) ps p
    (and_from (is_of_key key p) (has_all_shares s rank key p.life (ps ++ p ∷ [])) parts.0 (ap (λ (k : Key). has_all_shares s rank k p.life (ps ++ p ∷ [])) (sym (same_key key p parts.0)) ∙ whole.1))

none_completed : (s : Sizes) (rank : ℕ) (key : Key) → is_completed s rank key [] ≡ false
unfolding is_completed any_place
none_completed s rank key = refl

-- where a key is completed, the life that completes it has all
pub completed_has_all : (s : Sizes) (rank : ℕ) (key : Key) (pieces : List Piece) → is_completed s rank key pieces ≡ true → some_life_has_all s rank key pieces ≡ true
completed_has_all s rank key pieces =
    from_end (λ ps. is_completed s rank key ps ≡ true → some_life_has_all s rank key ps ≡ true)
    (λ h. absurd (both_ways _ (none_completed s rank key) h))
    (λ ps p so h. ⊎_elim
    (λ t. some_more s rank key ps (p ∷ []) (so t))
    (λ t. some_last s rank key ps p t)
    (or_cases (is_completed s rank key ps) (is_of_key key p && makes_whole s rank ps p) (sym (is_completed_more s rank key ps p) ∙ h)))
    pieces

-- ---- a life that has all, and after which no greater one comes

abbrev has_life : Key → ℕ → Piece → Bool
has_life key life p = is_of_key key p && eqb p.life life

or_false : (b : Bool) → (b || (false || false)) ≡ b
or_false true = refl
or_false false = refl

same_shares : (s : Sizes) (rank : ℕ) (key : Key) (life : ℕ) (ps : List Piece) (p : Piece) → has_life key life p ≡ false → has_all_shares s rank key life (ps ++ p ∷ []) ≡ has_all_shares s rank key life ps
same_shares s rank key life ps p f =
    let one : (client : ℕ) → list_any (is_share key life client) (ps ++ p ∷ []) ≡ list_any (is_share key life client) ps = λ client.
    list_any-append (is_share key life client) ps (p ∷ []) ∙ ap (λ (b : Bool). list_any (is_share key life client) ps || (b || false)) (and_left (has_life key life p) (eqb p.client client) f) ∙ or_false (list_any (is_share key life client) ps) in
    λ i. list_all (λ client. not (overlaps s rank client) || one client i) (below s.clients)

not_last : {X : Type 0} (test : X → Bool) (xs : List X) (x : X) → test x ≡ false → list_any test (xs ++ x ∷ []) ≡ list_any test xs
not_last test xs x f = list_any-append test xs (x ∷ []) ∙ ap (λ (b : Bool). list_any test xs || (b || false)) f ∙ or_false (list_any test xs)

none_front : {X : Type 0} (test : X → Bool) (xs ys : List X) → list_any test (xs ++ ys) ≡ false → list_any test xs ≡ false
none_front test xs ys h = (or_parts (list_any test xs) (list_any test ys) (sym (list_any-append test xs ys) ∙ h)).0

whole_here : (s : Sizes) (rank : ℕ) (key : Key) (life : ℕ) (ps : List Piece) (p : Piece) → list_any (is_later_life key life) ps ≡ false → has_all_shares s rank key life (ps ++ p ∷ []) ≡ true → has_life key life p ≡ true → (is_of_key key p && makes_whole s rank ps p) ≡ true
unfolding makes_whole
whole_here s rank key life ps p none all t =
    let parts = and_parts (is_of_key key p) (eqb p.life life) t in
    let own : key_of p ≡ key = same_key key p parts.0 in
    let at : p.life ≡ life = eqb-true p.life life parts.1 in
    let none_later : list_any (is_later_life (key_of p) p.life) ps ≡ false = (λ i. list_any (is_later_life (own i) (at i)) ps) ∙ none in
    let has : has_all_shares s rank (key_of p) p.life (ps ++ p ∷ []) ≡ true = (λ i. has_all_shares s rank (own i) (at i) (ps ++ p ∷ [])) ∙ all in
    and_from _ _ parts.0 (and_from _ _ (not_from_false _ none_later) has)

IsCompletedBy : Sizes → ℕ → Key → ℕ → List Piece → Type 0
IsCompletedBy s rank key life ps = list_any (is_later_life key life) ps ≡ false → list_any (has_life key life) ps ≡ true → has_all_shares s rank key life ps ≡ true → is_completed s rank key ps ≡ true

completed_step : (s : Sizes) (rank : ℕ) (key : Key) (life : ℕ) (ps : List Piece) (p : Piece) → IsCompletedBy s rank key life ps → IsCompletedBy s rank key life (ps ++ p ∷ [])
unfolding IsCompletedBy
completed_step s rank key life ps p so none some all =
    let none_before : list_any (is_later_life key life) ps ≡ false = none_front (is_later_life key life) ps (p ∷ []) none in
    is_completed_more s rank key ps p ∙ ⊎_elim
    (λ t. or_right (is_completed s rank key ps) _ (whole_here s rank key life ps p none_before all t))
    (λ f. or_left (is_completed s rank key ps) _ (so none_before (sym (not_last (has_life key life) ps p f) ∙ some) (sym (same_shares s rank key life ps p f) ∙ all)))
    (cases_Bool (has_life key life p))

completed_start : (s : Sizes) (rank : ℕ) (key : Key) (life : ℕ) → IsCompletedBy s rank key life []
unfolding IsCompletedBy
completed_start s rank key life none some all = absurd (both_ways false refl some)

completed_by : (s : Sizes) (rank : ℕ) (key : Key) (life : ℕ) (pieces : List Piece) → list_any (is_later_life key life) pieces ≡ false → list_any (has_life key life) pieces ≡ true → has_all_shares s rank key life pieces ≡ true → is_completed s rank key pieces ≡ true
unfolding IsCompletedBy
completed_by s rank key life pieces = from_end (IsCompletedBy s rank key life) (completed_start s rank key life) (completed_step s rank key life) pieces

-- ---- the greatest life

none_greater : (key : Key) (top : ℕ) (pieces : List Piece) → greatest_life key pieces ≤ top → list_any (is_later_life key top) pieces ≡ false
none_greater key top [] le = refl
none_greater key top (p ∷ pieces) le = ⊎_elim
    (λ t.
    let most : max p.life (greatest_life key pieces) ≤ top = subst (λ (b : Bool). cond b (max p.life (greatest_life key pieces)) (greatest_life key pieces) ≤ top) t le in
    let here : ltb top p.life ≡ false = le-ltb top p.life (omega (arith, most)) in
    or_from (is_later_life key top p) (list_any (is_later_life key top) pieces) (and_right (is_of_key key p) (ltb top p.life) here) (none_greater key top pieces (omega (arith, most))))
    (λ f.
    let rest : greatest_life key pieces ≤ top = subst (λ (b : Bool). cond b (max p.life (greatest_life key pieces)) (greatest_life key pieces) ≤ top) f le in
    or_from (is_later_life key top p) (list_any (is_later_life key top) pieces) (and_left (is_of_key key p) (ltb top p.life) f) (none_greater key top pieces rest))
    (cases_Bool (is_of_key key p))

no_life : (key : Key) (pieces : List Piece) → list_any (is_of_key key) pieces ≡ false → greatest_life key pieces ≡ 0
no_life key [] h = refl
no_life key (p ∷ pieces) h =
    let parts = or_parts (is_of_key key p) (list_any (is_of_key key) pieces) h in
    rw parts.0 (no_life key pieces parts.1)

with_first : (key : Key) (p : Piece) (pieces : List Piece) (top : ℕ) → is_of_key key p ≡ true → p.life ≡ top → list_any (has_life key top) (p ∷ pieces) ≡ true
with_first key p pieces top t e = or_left (has_life key top p) (list_any (has_life key top) pieces) (and_from _ _ t (eq-eqb p.life top e))

pub greatest_stands : (key : Key) (pieces : List Piece) → list_any (is_of_key key) pieces ≡ true → list_any (has_life key (greatest_life key pieces)) pieces ≡ true
greatest_stands key [] h = h
greatest_stands key (p ∷ pieces) h = ⊎_elim
    (λ t.
    let rest : ℕ = greatest_life key pieces in
    let is : greatest_life key (p ∷ pieces) ≡ max p.life rest = ap (λ (b : Bool). cond b (max p.life rest) rest) t in
    ap (λ (n : ℕ). list_any (has_life key n) (p ∷ pieces)) is ∙ ⊎_elim
    (λ lt. with_first key p pieces (max p.life rest) t (omega (arith, lt)))
    (λ le. ⊎_elim
    (λ some. or_right (has_life key (max p.life rest) p) _ (subst (λ (n : ℕ). list_any (has_life key n) pieces ≡ true) (omega (arith, le)) (greatest_stands key pieces some)))
    (λ none. let zero_rest : rest ≡ 0 = no_life key pieces none in with_first key p pieces (max p.life rest) t (omega (arith, zero_rest)))
    (cases_Bool (list_any (is_of_key key) pieces)))
    (cases_lt rest p.life))
    (λ f.
    let is : greatest_life key (p ∷ pieces) ≡ greatest_life key pieces = ap (λ (b : Bool). cond b (max p.life (greatest_life key pieces)) (greatest_life key pieces)) f in
    let later : list_any (is_of_key key) pieces ≡ true = ⊎_elim (λ t. absurd (both_ways _ f t)) (λ t. t) (or_cases (is_of_key key p) (list_any (is_of_key key) pieces) h) in
    ap (λ (n : ℕ). list_any (has_life key n) (p ∷ pieces)) is ∙ or_right (has_life key (greatest_life key pieces) p) _ (greatest_stands key pieces later))
    (cases_Bool (is_of_key key p))

-- ---- a settled key

pub some_of_key : (s : Sizes) (rank : ℕ) (key : Key) (pieces : List Piece) → some_life_has_all s rank key pieces ≡ true → list_any (is_of_key key) pieces ≡ true
unfolding some_life_has_all
some_of_key s rank key pieces h = any_weaker (λ p. is_of_key key p && has_all_shares s rank key p.life pieces) (is_of_key key) (λ p t. (and_parts (is_of_key key p) (has_all_shares s rank key p.life pieces) t).0) pieces h

pub never_without : (s : Sizes) (rank : ℕ) (key : Key) (pieces : List Piece) → ((life : ℕ) → has_all_shares s rank key life pieces ≡ false) → some_life_has_all s rank key pieces ≡ true → ⊥
unfolding some_life_has_all
never_without s rank key pieces none h =
    let found = Any-from_list_any (λ p. is_of_key key p && has_all_shares s rank key p.life pieces) pieces h in
    both_ways _ (none (found.1).life) (and_parts (is_of_key key found.1) (has_all_shares s rank key (found.1).life pieces) found.4).1

settled_top : (s : Sizes) (rank : ℕ) (key : Key) (tape : List Piece) → IsSettled s rank tape key → some_life_has_all s rank key tape ≡ true → has_all_shares s rank key (greatest_life key tape) tape ≡ true
settled_top s rank key tape settled h = ⊎_elim (λ none. absurd (never_without s rank key tape none h)) (λ top. top) settled

completed_settled : (s : Sizes) (rank : ℕ) (key : Key) (pieces tape : List Piece) → IsPermutation pieces tape → IsSettled s rank tape key → some_life_has_all s rank key tape ≡ true → is_completed s rank key pieces ≡ true
completed_settled s rank key pieces tape h settled some =
    let top : ℕ = greatest_life key tape in
    completed_by s rank key top pieces
    (list_any-IsPermutation (is_later_life key top) pieces tape h ∙ none_greater key top tape (omega arith))
    (list_any-IsPermutation (has_life key top) pieces tape h ∙ greatest_stands key tape (some_of_key s rank key tape some))
    (shares_permuted s rank key top pieces tape h ∙ settled_top s rank key tape settled some)

-- a key is completed exactly where some life has all on the tape
pub completed_by_tape : (s : Sizes) (rank : ℕ) (key : Key) (pieces tape : List Piece) → IsPermutation pieces tape → IsSettled s rank tape key → is_completed s rank key pieces ≡ some_life_has_all s rank key tape
completed_by_tape s rank key pieces tape h settled = ⊎_elim
    (λ t. completed_settled s rank key pieces tape h settled t ∙ sym t)
    (λ f. false_from_ne_true _ (λ t. both_ways _ f (sym (some_permuted s rank key pieces tape h) ∙ completed_has_all s rank key pieces t)) ∙ sym f)
    (cases_Bool (some_life_has_all s rank key tape))
