-- The premise and its test say the same.
use Rattle.std.proofs.Common.{◌≡◌, ℕ, zero, suc, ◌<◌, Bool, true, false, not, ◌&&◌, ◌||◌, inl, inr, ◌↔◌, eqb, List, [], ◌∷◌, length, get_or, Contains, refl, sym, ap, ◌∙◌, ⊎_elim, arith, eqb-true, eq-eqb}
use Rattle.std.specs.List.{list_any, list_all, AllByRecursion}
use Rattle.std.proofs.lemmas.Bool.{cases_Bool, and_parts, and_from, and_cases, or_parts, or_left, or_right, not-true, not-false, not_from_false, both_ways, false_from_ne_true}
use Rattle.std.proofs.lemmas.List.Folds.{Any-from_list_any, list_all-append}
use Rattle.mls_model.specs.Numbers.{below, same_bytes}
use Rattle.mls_model.specs.Studies.{Sizes}
use Rattle.mls_model.specs.Blocks.{overlaps}
use Rattle.mls_model.specs.Frames.{Piece}
use Rattle.mls_model.specs.Lanes.{Lane}
use Rattle.mls_model.specs.Survival.{is_crash}
use Rattle.mls_model.specs.Completion.{Key, key_of, is_of_key, is_share, has_all_shares}
use Rattle.mls_laws.proofs.Completing.{same_key, own_key}
use Rattle.mls_orders.specs.Tapes.{lane_events, tape_pieces}
use Rattle.mls_orders.specs.OrderFree.{greatest_life, CarryTheSame, IsSettled, IsOrderFree, some_life_has_all, is_crash_free, carry_the_same, all_carry_the_same, is_settled, all_settled, is_order_free}
use Rattle.mls_orders.proofs.Found.{or_second, at_below}
use Rattle.mls_orders.proofs.GroupRows.{has_share}
use Rattle.mls_orders.proofs.WholeKeys.{any_weaker, some_of_key, never_without}

-- ---- tests of all elements

all_get : {X : Type 0} (test : X → Bool) (xs : List X) (k : ℕ) (d : X) → list_all test xs ≡ true → k < length xs → test (get_or xs k d) ≡ true
all_get test [] k d all lt = absurd (omega arith)
all_get test (x ∷ xs) zero d all lt = (and_parts (test x) (list_all test xs) all).0
all_get test (x ∷ xs) (suc k) d all lt = all_get test xs k d (and_parts (test x) (list_all test xs) all).1 (omega arith)

all_contained : {X : Type 0} (test : X → Bool) (xs : List X) (x : X) → list_all test xs ≡ true → Contains xs x → test x ≡ true
all_contained test xs x all there = ap test (sym there.2) ∙ all_get test xs there.0 x all there.1

all_from : {X : Type 0} (test : X → Bool) (xs : List X) → ((x : X) → Contains xs x → test x ≡ true) → list_all test xs ≡ true
all_from test [] each = refl
all_from test (x ∷ xs) each = and_from (test x) (list_all test xs) (each x (0, omega arith, refl)) (all_from test xs (λ y there. each y (suc there.0, omega (arith, there.1), there.2)))

all_below : (test : ℕ → Bool) (n : ℕ) → ((k : ℕ) → k < n → test k ≡ true) → list_all test (below n) ≡ true
all_below test zero each = refl
all_below test (suc n) each = list_all-append test (below n) (n ∷ []) ∙ and_from _ _ (all_below test n (λ k lt. each k (omega (arith, lt)))) (and_from _ _ (each n (omega arith)) refl)

-- ---- no crash

calm_lanes : (lanes : List Lane) → list_all is_crash_free lanes ≡ true → AllByRecursion (λ (lane : Lane). list_any is_crash (lane_events lane) ≡ false) lanes
calm_lanes [] all = tt
calm_lanes (lane ∷ lanes) all =
    let parts = and_parts (is_crash_free lane) (list_all is_crash_free lanes) all in
    (not-true (list_any is_crash (lane_events lane)) parts.0, calm_lanes lanes parts.1)

calm_tests : (lanes : List Lane) → AllByRecursion (λ (lane : Lane). list_any is_crash (lane_events lane) ≡ false) lanes → list_all is_crash_free lanes ≡ true
calm_tests [] all = refl
calm_tests (lane ∷ lanes) all = and_from (is_crash_free lane) (list_all is_crash_free lanes) (not_from_false _ all.0) (calm_tests lanes all.1)

-- ---- the same samples

same_from_test : (xs ys : List ℕ) → same_bytes xs ys ≡ true → xs ≡ ys
same_from_test [] [] h = refl
same_from_test [] (y ∷ ys) h = absurd (both_ways false refl h)
same_from_test (x ∷ xs) [] h = absurd (both_ways false refl h)
same_from_test (x ∷ xs) (y ∷ ys) h =
    let parts = and_parts (eqb x y) (same_bytes xs ys) h in
    let first : x ≡ y = eqb-true x y parts.0 in
    let rest : xs ≡ ys = same_from_test xs ys parts.1 in
    λ i. first i ∷ rest i

same_itself : (xs : List ℕ) → same_bytes xs xs ≡ true
same_itself [] = refl
same_itself (x ∷ xs) = and_from (eqb x x) (same_bytes xs xs) (eq-eqb x x refl) (same_itself xs)

carry_from_test : (p q : Piece) → carry_the_same p q ≡ true → CarryTheSame p q
carry_from_test p q h key client =
    let own : is_of_key (key_of p) q ≡ true = ap (λ (k : Key). is_of_key k q) key ∙ own_key q in
    same_from_test p.samples q.samples (or_second (is_of_key (key_of p) q && eqb q.client p.client) (same_bytes p.samples q.samples) h (and_from _ _ own (eq-eqb q.client p.client (sym client))))

carry_to_test : (p q : Piece) → CarryTheSame p q → carry_the_same p q ≡ true
carry_to_test p q same = ⊎_elim
    (λ t.
    let parts = and_parts (is_of_key (key_of p) q) (eqb q.client p.client) t in
    let samples : p.samples ≡ q.samples = same (sym (same_key (key_of p) q parts.0)) (sym (eqb-true q.client p.client parts.1)) in
    or_right (not (is_of_key (key_of p) q && eqb q.client p.client)) _ (ap (same_bytes p.samples) (sym samples) ∙ same_itself p.samples))
    (λ f. or_left _ (same_bytes p.samples q.samples) (not_from_false _ f))
    (cases_Bool (is_of_key (key_of p) q && eqb q.client p.client))

-- ---- settled keys

one_fails : (test : ℕ → Bool) (n : ℕ) → list_all test (below n) ≡ false → (k : ℕ) × (k < n) × (test k ≡ false)
one_fails test zero h = absurd (both_ways true h refl)
one_fails test (suc n) h = ⊎_elim
    (λ f. let before = one_fails test n f in (before.0, omega (arith, before.1), before.2))
    (λ f. (n, omega arith, ⊎_elim (λ e. e) (λ e. absurd (both_ways true e refl)) (and_cases (test n) true f)))
    (and_cases (list_all test (below n)) (list_all test (n ∷ [])) (sym (list_all-append test (below n) (n ∷ [])) ∙ h))

-- where a life has all shares and a piece, some life has all
by_piece : (s : Sizes) (rank : ℕ) (key : Key) (life client : ℕ) (pieces : List Piece) → has_all_shares s rank key life pieces ≡ true → list_any (is_share key life client) pieces ≡ true → some_life_has_all s rank key pieces ≡ true
unfolding some_life_has_all
by_piece s rank key life client pieces all share =
    any_weaker (is_share key life client) (λ q. is_of_key key q && has_all_shares s rank key q.life pieces)
    (λ q t.
    let tests = and_parts (is_of_key key q && eqb q.life life) (eqb q.client client) t in
    let own = and_parts (is_of_key key q) (eqb q.life life) tests.0 in
    and_from _ _ own.0 (ap (λ (l : ℕ). has_all_shares s rank key l pieces) (eqb-true q.life life own.1) ∙ all))
    pieces share

pub by_life : (s : Sizes) (rank : ℕ) (key : Key) (life client : ℕ) (pieces : List Piece) → client < s.clients → overlaps s rank client ≡ true → has_all_shares s rank key life pieces ≡ true → some_life_has_all s rank key pieces ≡ true
by_life s rank key life client pieces lt some all = by_piece s rank key life client pieces all (has_share s rank key life client pieces all lt some)

pub some_life : (s : Sizes) (rank : ℕ) (key : Key) (pieces : List Piece) → some_life_has_all s rank key pieces ≡ true → (life : ℕ) × (has_all_shares s rank key life pieces ≡ true)
unfolding some_life_has_all
some_life s rank key pieces h =
    let at = Any-from_list_any (λ p. is_of_key key p && has_all_shares s rank key p.life pieces) pieces h in
    ((at.1).life, (and_parts (is_of_key key at.1) (has_all_shares s rank key (at.1).life pieces) at.4).1)

-- where a life has all shares and another one does not, the first has a piece
has_piece : (s : Sizes) (rank : ℕ) (key : Key) (life top : ℕ) (pieces : List Piece) → has_all_shares s rank key life pieces ≡ true → has_all_shares s rank key top pieces ≡ false → some_life_has_all s rank key pieces ≡ true
has_piece s rank key life top pieces all none =
    let lacks = one_fails (λ client. not (overlaps s rank client) || list_any (is_share key top client) pieces) s.clients none in
    let parts = or_parts (not (overlaps s rank lacks.0)) (list_any (is_share key top lacks.0) pieces) lacks.2 in
    by_life s rank key life lacks.0 pieces lacks.1 (not-false (overlaps s rank lacks.0) parts.0) all

settled_by : (s : Sizes) (rank : ℕ) (key : Key) (pieces : List Piece) → (some_life_has_all s rank key pieces ≡ true → has_all_shares s rank key (greatest_life key pieces) pieces ≡ true) → IsSettled s rank pieces key
settled_by s rank key pieces top = ⊎_elim
    (λ t. inr t)
    (λ f. inl (λ life. false_from_ne_true _ (λ all. both_ways _ f (top (has_piece s rank key life (greatest_life key pieces) pieces all f)))))
    (cases_Bool (has_all_shares s rank key (greatest_life key pieces) pieces))

settled_from_test : (s : Sizes) (rank : ℕ) (pieces : List Piece) → all_settled s rank pieces ≡ true → (key : Key) → IsSettled s rank pieces key
settled_from_test s rank pieces all key = settled_by s rank key pieces (λ some.
    let at = Any-from_list_any (is_of_key key) pieces (some_of_key s rank key pieces some) in
    let p : Piece = at.1 in
    let own : key_of p ≡ key = same_key key p at.4 in
    let test : is_settled s rank pieces key ≡ true = ap (is_settled s rank pieces) (sym own) ∙ all_contained (λ q. is_settled s rank pieces (key_of q)) pieces p all (at.0, at.2, at.3) in
    or_second (some_life_has_all s rank key pieces) _ test some)

settled_to_test : (s : Sizes) (rank : ℕ) (key : Key) (pieces : List Piece) → IsSettled s rank pieces key → is_settled s rank pieces key ≡ true
settled_to_test s rank key pieces settled = ⊎_elim
    (λ none. or_left _ _ (not_from_false _ (false_from_ne_true _ (never_without s rank key pieces none))))
    (λ top. or_right (not (some_life_has_all s rank key pieces)) _ top)
    settled

-- ---- the whole premise

RankTest : Sizes → List Lane → ℕ → Bool
RankTest s lanes rank = all_carry_the_same (tape_pieces s lanes rank) && all_settled s rank (tape_pieces s lanes rank)

from_tests : (s : Sizes) (lanes : List Lane) → list_all is_crash_free lanes ≡ true → list_all (RankTest s lanes) (below s.ranks) ≡ true → IsOrderFree s lanes
unfolding RankTest
from_tests s lanes calm each =
    let at : (rank : ℕ) → rank < s.ranks → (all_carry_the_same (tape_pieces s lanes rank) ≡ true) × (all_settled s rank (tape_pieces s lanes rank) ≡ true) = λ rank within.
    and_parts _ _ (at_below (RankTest s lanes) s.ranks rank each within) in
    record {
      no_crash = calm_lanes lanes calm;
      alike = λ rank within p q there too. carry_from_test p q (all_contained (carry_the_same p) (tape_pieces s lanes rank) q (all_contained (λ r. list_all (carry_the_same r) (tape_pieces s lanes rank)) (tape_pieces s lanes rank) p (at rank within).0 there) too);
      settled = λ rank within key. settled_from_test s rank (tape_pieces s lanes rank) (at rank within).1 key;
    }

rank_test : (s : Sizes) (lanes : List Lane) → IsOrderFree s lanes → (rank : ℕ) → rank < s.ranks → RankTest s lanes rank ≡ true
unfolding RankTest
rank_test s lanes free rank within =
    let tape : List Piece = tape_pieces s lanes rank in
    and_from _ _
    (all_from (λ p. list_all (carry_the_same p) tape) tape (λ p there. all_from (carry_the_same p) tape (λ q too. carry_to_test p q (free.alike rank within p q there too))))
    (all_from (λ p. is_settled s rank tape (key_of p)) tape (λ p there. settled_to_test s rank (key_of p) tape (free.settled rank within (key_of p))))

pub tested : (s : Sizes) (lanes : List Lane) → (is_order_free s lanes ≡ true) ↔ IsOrderFree s lanes
unfolding is_order_free RankTest
tested s lanes = (
  (λ h. let parts = and_parts _ _ h in from_tests s lanes parts.0 parts.1),
  (λ free. and_from _ _ (calm_tests lanes free.no_crash) (all_below (RankTest s lanes) s.ranks (rank_test s lanes free))),
)
