-- Under the schedule of trial each rank accepts each group once in each plane.
use Rattle.std.proofs.Common.{◌≡◌, ◌≢◌, ℕ, zero, suc, ◌+◌, ◌*◌, ◌/◌, ◌%◌, ◌≤◌, ◌<◌, Bool, true, false, not, ◌&&◌, ◌||◌, cond, eqb, ltb, List, [], ◌∷◌, ◌++◌, length, map, get_or, Option, Some, None, refl, sym, ◌∙◌, ap, subst, inl, inr, arith, append_assoc, length-append, mod-lt}
use Rattle.std.specs.Prelude.{sum_by, unwrap_or, unsigned_abs, ℤ, pos}
use Rattle.std.specs.List.{flat_map, list_any, list_all, AllByRecursion, AllPairs}
use Rattle.std.proofs.lemmas.Bool.{cases_Bool, cases_lt, cases_eq, or_parts, and_from, and_parts, eq-eqb, eqb-true, ne_eqb, lt-ltb, le-ltb, not_from_false}
use Rattle.std.proofs.lemmas.List.{map_push, length-map}
use Rattle.std.proofs.lemmas.Grind.{flat_map-append}
use Rattle.std.proofs.lemmas.List.Folds.{list_any-append}
use Rattle.std.proofs.lemmas.List.Sums.{sum_by-append}
use Rattle.std.proofs.lemmas.Nat.{div_below}
use Rattle.std.proofs.Math.Nat.{div-add-mod, mul-le-mul}
use Rattle.mls_model.specs.Numbers.{below, element, times}
use Rattle.mls_model.specs.Places.{gathered, any_place}
use Rattle.mls_model.specs.Studies.{Study, Sizes, IsStudy, AreSizes, planes, plane_of}
use Rattle.mls_model.specs.Blocks.{block, part, overlap, overlaps, meet, width}
use Rattle.mls_model.specs.Frames.{Piece}
use Rattle.mls_model.specs.Lanes.{Lane}
use Rattle.std.specs.Prelude.{int_lt}
use Rattle.mls_model.specs.Statistics.{least, most}
use Rattle.mls_text.proofs.Counted.{length-below}
use Rattle.mls_design.specs.TrialText.{accepted_counts, groups_text, groups_line, AcceptsAll}
use Rattle.mls_model.specs.Fitting.{Fits}
use Rattle.mls_model.specs.Completion.{Key, key_of, is_of_key, is_later_life, is_share, has_all_shares, makes_whole, is_completed, completes}
use Rattle.mls_model.specs.AcceptedRows.{completions, accepted}
use Rattle.mls_model.specs.Histories.{history}
use Rattle.mls_model.specs.Survival.{surviving}
use Rattle.mls_model.specs.ResultText.{pieces_of, order_at, histories_of}
use Rattle.mls_laws.proofs.Places.{any_place_there}
use Rattle.mls_laws.proofs.Fits.{all_fit}
use Rattle.mls_laws.proofs.OneClient.{is_block}
use Rattle.mls_laws.proofs.Completing.{same_key, accepted_completed, accepted_apart}
use Rattle.mls_base.proofs.Spans.{holder, holder_holds, holder_within, in_span, in_meet, bounds}
use Rattle.mls_design.specs.Trial.{trial_lanes}
use Rattle.mls_design.specs.TrialSchedule.{trial_order, trial_orders}
use Rattle.mls_design.proofs.TrialReading.{all-append, all_lists, all_map}
use Rattle.mls_design.proofs.TrialOrders.{element_map_below}
use Rattle.mls_design.proofs.TrialCompletion.{trial_pieces, pieces_low, shares}

-- ---- a life without a later one that has all shares completes its key

-- the last element that passes a test
record HasLast {A : Type 0} (p : A → Bool) (xs : List A) : Type 0 where
  front : List A
  here : A
  back : List A
  is : xs ≡ front ++ here ∷ back
  test : p here ≡ true
  none : list_any p back ≡ false

last_of : {A : Type 0} (p : A → Bool) (xs : List A) → list_any p xs ≡ true → HasLast p xs
last_of p [] some = absurd cc
last_of p (x ∷ xs) some = elim (cases_Bool (list_any p xs)) [
  | inl t ↦ let rest = last_of p xs t in
      record { front = x ∷ rest.front; here = rest.here; back = rest.back; is = ap (λ ys. x ∷ ys) rest.is; test = rest.test; none = rest.none }
  | inr f ↦ record { front = []; here = x; back = xs; is = refl; test = only (p x) (list_any p xs) some f; none = f }
]
  where
    only : (a b : Bool) → (a || b) ≡ true → b ≡ false → a ≡ true
    only true b h f = refl
    only false b h f = sym f ∙ h

-- a piece of the key with this life
abbrev is_of_life : Key → ℕ → Piece → Bool
is_of_life key life p = is_of_key key p && eqb p.life life

none_later : (key : Key) (life : ℕ) (ps : List Piece) → AllByRecursion (λ (p : Piece). p.life ≤ life) ps → list_any (is_later_life key life) ps ≡ false
none_later key life [] all = refl
none_later key life (p ∷ ps) all = neither (is_of_key key p) (ltb life p.life) (list_any (is_later_life key life) ps) (le-ltb life p.life all.0) (none_later key life ps all.1)
  where
    neither : (a b c : Bool) → b ≡ false → c ≡ false → ((a && b) || c) ≡ false
    neither true b c e f = rw (e, f) refl
    neither false b c e f = f

all_front : {A : Type 0} (P : A → Type 0) (xs ys : List A) → AllByRecursion P (xs ++ ys) → AllByRecursion P xs
all_front P [] ys all = tt
all_front P (x ∷ xs) ys all = (all.0, all_front P xs ys all.1)

-- what no element of a list passes, none of a list passes that holds of fewer
fewer_pass : {A : Type 0} (p q : A → Bool) (xs : List A) → ((x : A) → p x ≡ true → q x ≡ true) → list_any q xs ≡ false → list_any p xs ≡ false
fewer_pass p q [] so none = refl
fewer_pass p q (x ∷ xs) so none =
    let parts = or_parts (q x) (list_any q xs) none in
    elim (cases_Bool (p x)) [
      | inl t ↦ absurd (clash (so x t) parts.0)
      | inr f ↦ rw f (fewer_pass p q xs so parts.1)
    ]
  where
    clash : {b : Bool} → b ≡ true → b ≡ false → ⊥
    clash e f = cc

share_life : (key : Key) (life client : ℕ) (p : Piece) → is_share key life client p ≡ true → is_of_life key life p ≡ true
share_life key life client p h = (and_parts (is_of_key key p && eqb p.life life) (eqb p.client client) h).0

each_true : (p : ℕ → Bool) (n : ℕ) → ((i : ℕ) → i < n → p i ≡ true) → list_all p (below n) ≡ true
each_true p zero each = refl
each_true p (suc n) each = pushed p (below n) n (each_true p n (λ i h. each i (omega (arith, h)))) (each n (omega arith))
  where
    pushed : (p : ℕ → Bool) (xs : List ℕ) (x : ℕ) → list_all p xs ≡ true → p x ≡ true → list_all p (xs ++ x ∷ []) ≡ true
    pushed p [] x all h = and_from _ _ h refl
    pushed p (y ∷ xs) x all h = let parts = and_parts (p y) (list_all p xs) all in and_from _ _ parts.0 (pushed p xs x parts.1 h)

client_ok : (b : Bool) (x : Bool) → (b ≡ true → x ≡ true) → (not b || x) ≡ true
client_ok true x h = h refl
client_ok false x h = refl

whole_life : (s : Sizes) (rank : ℕ) (key : Key) (life client : ℕ) (ps : List Piece) → AllByRecursion (λ (p : Piece). p.life ≤ life) ps → ((c : ℕ) → c < s.clients → overlaps s rank c ≡ true → list_any (is_share key life c) ps ≡ true) → list_any (is_share key life client) ps ≡ true → is_completed s rank key ps ≡ true
unfolding is_completed makes_whole
whole_life s rank key life client ps low each some =
    let last = last_of (is_of_life key life) ps (more_pass (is_share key life client) (is_of_life key life) ps (λ p h. share_life key life client p h) some) in
    let before : List Piece = last.front in
    let p : Piece = last.here in
    let parts = and_parts (is_of_key key p) (eqb p.life life) last.test in
    let own : key_of p ≡ key = same_key key p parts.0 in
    let age : p.life ≡ life = eqb-true p.life life parts.1 in
    let lows : AllByRecursion (λ (q : Piece). q.life ≤ life) before = all_front (λ (q : Piece). q.life ≤ life) before (p ∷ last.back) (subst (AllByRecursion (λ (q : Piece). q.life ≤ life)) last.is low) in
    let split : ps ≡ (before ++ p ∷ []) ++ last.back = last.is ∙ sym (append_assoc before (p ∷ []) last.back) in
    let all : has_all_shares s rank key life (before ++ p ∷ []) ≡ true = each_true (λ c. not (overlaps s rank c) || list_any (is_share key life c) (before ++ p ∷ [])) s.clients (λ c h.
    client_ok (overlaps s rank c) (list_any (is_share key life c) (before ++ p ∷ [])) (λ t.
    in_front (is_share key life c) (before ++ p ∷ []) last.back
    (ap (list_any (is_share key life c)) (sym split) ∙ each c h t)
    (fewer_pass (is_share key life c) (is_of_life key life) last.back (λ q g. share_life key life c q g) last.none))) in
    let made : makes_whole s rank before p ≡ true = and_from _ _
    (not_from_false _ (ap (λ k. list_any (is_later_life k p.life) before) own ∙ ap (λ m. list_any (is_later_life key m) before) age ∙ none_later key life before lows))
    (ap (λ k. has_all_shares s rank k p.life (before ++ p ∷ [])) own ∙ ap (λ m. has_all_shares s rank key m (before ++ p ∷ [])) age ∙ all) in
    ap (any_place (λ front q. is_of_key key q && makes_whole s rank front q) []) last.is
    ∙ any_place_there (λ front q. is_of_key key q && makes_whole s rank front q) before p last.back (and_from _ _ parts.0 made)
  where
    more_pass : {A : Type 0} (p q : A → Bool) (xs : List A) → ((x : A) → p x ≡ true → q x ≡ true) → list_any p xs ≡ true → list_any q xs ≡ true
    more_pass p q xs so some = elim (cases_Bool (list_any q xs)) [
      | inl t ↦ t
      | inr f ↦ let none = fewer_pass p q xs so f in cc
    ]

    in_front : {A : Type 0} (p : A → Bool) (xs ys : List A) → list_any p (xs ++ ys) ≡ true → list_any p ys ≡ false → list_any p xs ≡ true
    in_front p xs ys some none = first_is (list_any p xs) (list_any p ys) (sym (list_any-append p xs ys) ∙ some) none
      where
        first_is : (a b : Bool) → (a || b) ≡ true → b ≡ false → a ≡ true
        first_is true b h f = refl
        first_is false b h f = sym f ∙ h

-- ---- a client that overlaps

meeting_client : (s : Sizes) (rank : ℕ) → AreSizes s → rank < s.ranks → (client : ℕ) × (client < s.clients) × (overlaps s rank client ≡ true)
meeting_client s rank ok r =
    let own = is_block s rank ok r in
    let x : ℕ = (block s rank).first in
    let small : x < s.cells = omega (arith, own.some, own.within) in
    let client : ℕ = holder s.cells s.clients x in
    let known : client < s.clients = holder_within s.cells s.clients x ok.some_clients small in
    let mine = holder_holds s.cells s.clients x ok.some_clients ok.some_cells in
    let both = (in_meet (block s rank) (part s client) x).1 (in_span (block s rank) x (omega arith) own.some, mine) in
    let inside = bounds (meet (block s rank) (part s client)) x both in
    (client, known, lt-ltb 0 (width (overlap s rank client)) (omega (arith, inside.0, inside.1)))

-- ---- each key is completed

step_small : (plane steps fields : ℕ) → 1 ≤ fields → plane < steps * fields → plane / fields < steps
step_small plane steps fields some h = div_below plane fields steps (omega (arith, some)) (omega (arith, h))

pub trial_completed : (study : Study) (number rank group plane : ℕ) → IsStudy study → rank < study.sizes.ranks → group < study.sizes.groups → plane < planes study.sizes → is_completed study.sizes rank (record { group = group; plane = plane }) (trial_pieces study number rank) ≡ true
trial_completed study number rank group plane ok r g p =
    let s : Sizes = study.sizes in
    let step : ℕ = plane / s.fields in
    let field : ℕ = plane % s.fields in
    let step_in : step < s.steps = step_small plane s.steps s.fields ok.sizes.some_fields p in
    let field_in : field < s.fields = mod-lt plane (omega (arith, ok.sizes.some_fields)) in
    let same : plane_of s step field ≡ plane = omega (arith, div-add-mod plane s.fields) in
    let key : Key = record { group = group; plane = plane } in
    let each : (c : ℕ) → c < s.clients → overlaps s rank c ≡ true → list_any (is_share key 3 c) (trial_pieces study number rank) ≡ true = λ c h t.
    subst (λ q. list_any (is_share (record { group = group; plane = q }) 3 c) (trial_pieces study number rank) ≡ true) same (shares study number rank c group step field r h t g step_in field_in) in
    let one = meeting_client s rank ok.sizes r in
    whole_life s rank key 3 one.0 (trial_pieces study number rank) (pieces_low study number rank) each (each one.0 one.1 one.2)

-- ---- as many groups as there are

count_one : (g : ℕ) (n : ℕ) → g < n → sum_by (λ k. cond (eqb g k) 1 0) (below n) ≡ 1
count_one g zero h = absurd (omega (arith, h))
count_one g (suc n) h = elim (cases_eq g n) [
  | inl same ↦ omega (arith, sum_by-append (λ k. cond (eqb g k) 1 0) (below n) (n ∷ []), ap {B = ℕ} (λ (b : Bool). cond b 1 0) (eq-eqb g n same), none_before g n (omega (arith, same)))
  | inr other ↦ omega (arith, sum_by-append (λ k. cond (eqb g k) 1 0) (below n) (n ∷ []), ap {B = ℕ} (λ (b : Bool). cond b 1 0) (ne_eqb g n other), count_one g n (less g n other h))
]
  where
    none_before : (g n : ℕ) → n ≤ g → sum_by (λ k. cond (eqb g k) 1 0) (below n) ≡ 0
    none_before g zero h = refl
    none_before g (suc n) h = omega (arith, sum_by-append (λ k. cond (eqb g k) 1 0) (below n) (n ∷ []), ap {B = ℕ} (λ (b : Bool). cond b 1 0) (ne_eqb g n (λ e. absurd (omega (arith, e, h)))), none_before g n (omega (arith, h)))

    less : (g n : ℕ) → (g ≡ n → ⊥) → g < suc n → g < n
    less g n other h = elim (cases_lt g n) [ inl small ↦ small | inr large ↦ absurd (other (omega (arith, h, large))) ]

sum_both : (f h k : ℕ → ℕ) (xs : List ℕ) → ((i : ℕ) → f i ≡ h i + k i) → sum_by f xs ≡ sum_by h xs + sum_by k xs
sum_both f h k xs same = sums f h k same xs
  where
    sums : (f h k : ℕ → ℕ) → ((i : ℕ) → f i ≡ h i + k i) → (xs : List ℕ) → sum_by f xs ≡ sum_by h xs + sum_by k xs
    sums f h k same [] = refl
    sums f h k same (x ∷ xs) = omega (arith, sum_by-append f (x ∷ []) xs, sum_by-append h (x ∷ []) xs, sum_by-append k (x ∷ []) xs, sums f h k same xs, same x)

counted : (xs : List ℕ) (n : ℕ) → AllByRecursion (λ g. g < n) xs → sum_by (λ k. times k xs) (below n) ≡ length xs
counted [] n all = nothing n
  where
    nothing : (n : ℕ) → sum_by (λ k. times k []) (below n) ≡ 0
    nothing zero = refl
    nothing (suc n) = omega (arith, sum_by-append (λ k. times k []) (below n) (n ∷ []), nothing n)
counted (x ∷ xs) n all =
    omega (arith, sum_both (λ k. times k (x ∷ xs)) (λ k. cond (eqb x k) 1 0) (λ k. times k xs) (below n) (λ k. one_more (eqb x k) (times k xs)), count_one x n all.0, counted xs n all.1)
  where
    one_more : (b : Bool) (m : ℕ) → cond b (suc m) m ≡ cond b 1 0 + m
    one_more true m = omega arith
    one_more false m = omega arith

all_one : (f : ℕ → ℕ) (n : ℕ) → ((k : ℕ) → k < n → f k ≡ 1) → sum_by f (below n) ≡ n
all_one f zero each = refl
all_one f (suc n) each = omega (arith, sum_by-append f (below n) (n ∷ []), all_one f n (λ k h. each k (omega (arith, h))), each n (omega arith))

stands_once : (k : ℕ) (xs : List ℕ) → AllPairs (λ (a b : ℕ). a ≢ b) xs → list_any (λ g. eqb g k) xs ≡ true → times k xs ≡ 1
stands_once k [] apart some = absurd cc
stands_once k (x ∷ xs) apart some = elim (cases_eq x k) [
  | inl same ↦ ap (λ (b : Bool). cond b (suc (times k xs)) (times k xs)) (eq-eqb x k same) ∙ ap suc (not_again k xs (λ j h e. apart 0 (suc j) 0 (omega arith) (omega (arith, h)) (same ∙ sym e)))
  | inr other ↦
      let test = ne_eqb x k other in
      ap (λ (b : Bool). cond b (suc (times k xs)) (times k xs)) test
      ∙ stands_once k xs (λ i j d h g. apart (suc i) (suc j) d (omega (arith, h)) (omega (arith, g))) (ap (λ (b : Bool). b || list_any (λ g. eqb g k) xs) (sym test) ∙ some)
]
  where
    not_again : (k : ℕ) (xs : List ℕ) → ((j : ℕ) → j < length xs → get_or xs j 0 ≡ k → ⊥) → times k xs ≡ 0
    not_again k [] none = refl
    not_again k (x ∷ xs) none = ap (λ (b : Bool). cond b (suc (times k xs)) (times k xs)) (ne_eqb x k (none 0 (omega arith))) ∙ not_again k xs (λ j h. none (suc j) (omega (arith, h)))

as_many : (xs : List ℕ) (n : ℕ) → AllByRecursion (λ g. g < n) xs → AllPairs (λ (a b : ℕ). a ≢ b) xs → ((k : ℕ) → k < n → list_any (λ g. eqb g k) xs ≡ true) → length xs ≡ n
as_many xs n all apart each = sym (counted xs n all) ∙ all_one (λ k. times k xs) n (λ k h. stands_once k xs apart (each k h))

-- ---- the accepted groups

one_small : (n : ℕ) (b : Bool) (g : ℕ) → g < n → AllByRecursion (λ k. k < n) (cond b (g ∷ []) [])
one_small n true g h = (h, tt)
one_small n false g h = tt

completions_small : (s : Sizes) (rank plane : ℕ) (before pieces : List Piece) → AllByRecursion (Fits s rank) pieces → AllByRecursion (λ k. k < s.groups) (gathered (λ front p. cond (eqb p.plane plane && completes s rank front p) (p.group ∷ []) []) before pieces)
unfolding gathered
completions_small s rank plane before [] all = tt
completions_small s rank plane before (p ∷ pieces) all =
    all-append (λ k. k < s.groups) (cond (eqb p.plane plane && completes s rank before p) (p.group ∷ []) []) _ (one_small s.groups (eqb p.plane plane && completes s rank before p) p.group all.0.group) (completions_small s rank plane (before ++ p ∷ []) pieces all.1)

accepted_small : (s : Sizes) (rank plane : ℕ) (pieces : List Piece) → AllByRecursion (Fits s rank) pieces → AllByRecursion (λ k. k < s.groups) (accepted s rank plane pieces)
unfolding accepted completions
accepted_small s rank plane pieces all = completions_small s rank plane [] pieces all

pub all_accepted : (study : Study) (number rank plane : ℕ) → IsStudy study → rank < study.sizes.ranks → plane < planes study.sizes → length (accepted study.sizes rank plane (trial_pieces study number rank)) ≡ study.sizes.groups
all_accepted study number rank plane ok r p =
    let s : Sizes = study.sizes in
    let pieces : List Piece = trial_pieces study number rank in
    as_many (accepted s rank plane pieces) s.groups
    (accepted_small s rank plane pieces (all_fit s rank (surviving (history (trial_lanes study number) (trial_order study number rank)))))
    (accepted_apart s rank plane pieces)
    (λ group g. accepted_completed s rank (record { group = group; plane = plane }) pieces ∙ trial_completed study number rank group plane ok r g p)

-- ---- the rank's list of the schedule

element_below_map : {A : Type 0} (f : ℕ → A) (n i : ℕ) → i < n → element (map f (below n)) i ≡ Some (f i)
element_below_map f zero i h = absurd (omega (arith, h))
element_below_map f (suc n) i h = elim (cases_eq i n) [
  | inl same ↦ subst (λ k. element (map f (below (suc n))) k ≡ Some (f k)) (sym same) (element_map_below f n)
  | inr other ↦ pushed f n i (element_below_map f n i (less i n other h))
]
  where
    less : (g n : ℕ) → (g ≡ n → ⊥) → g < suc n → g < n
    less g n other h = elim (cases_lt g n) [ inl small ↦ small | inr large ↦ absurd (other (omega (arith, h, large))) ]

    kept : {A : Type 0} (xs : List A) (y x : A) (i : ℕ) → element xs i ≡ Some x → element (xs ++ y ∷ []) i ≡ Some x
    kept [] y x i e = absurd cc
    kept (z ∷ xs) y x zero e = e
    kept (z ∷ xs) y x (suc i) e = kept xs y x i e

    pushed : {A : Type 0} (f : ℕ → A) (n i : ℕ) → element (map f (below n)) i ≡ Some (f i) → element (map f (below (suc n))) i ≡ Some (f i)
    pushed f n i e = ap (λ xs. element xs i) (map_push f (below n) n) ∙ kept (map f (below n)) (f n) (f i) i e

order_is : (study : Study) (number rank : ℕ) → rank < study.sizes.ranks → order_at (trial_orders study number) rank ≡ trial_order study number rank
unfolding trial_orders
order_is study number rank r = ap (λ o. unwrap_or o []) (element_below_map (trial_order study number) study.sizes.ranks rank r)

-- Each rank accepts all groups in each plane.
pub each_group_once : (study : Study) (number rank plane : ℕ) → IsStudy study → rank < study.sizes.ranks → plane < planes study.sizes → length (accepted study.sizes rank plane (pieces_of study.sizes rank (histories_of (trial_lanes study number) (trial_orders study number) rank))) ≡ study.sizes.groups
each_group_once study number rank plane ok r p =
    ap (λ o. length (accepted study.sizes rank plane (pieces_of study.sizes rank (history (trial_lanes study number) o)))) (order_is study number rank r)
    ∙ all_accepted study number rank plane ok r p

-- ---- the line of the summary

is_least : (g : ℤ) (b : Bool) → ◌≡◌ {A = Option ℤ} (Some (cond b g g)) (Some g)
is_least g true = refl
is_least g false = refl

all_least : (g : ℤ) (w : ℤ) (ws : List ℤ) → AllByRecursion (λ x. x ≡ g) (w ∷ ws) → least (w ∷ ws) ≡ Some g
all_least g w [] all = ap (λ x. Some x) all.0
all_least g w (v ∷ ws) all =
    ap (λ (o : Option ℤ). elim o [ None ↦ Some w | Some m ↦ Some (cond (int_lt w m) w m) ]) (all_least g v ws all.1)
    ∙ ap (λ x. Some (cond (int_lt x g) x g)) all.0 ∙ is_least g (int_lt g g)

all_most : (g : ℤ) (w : ℤ) (ws : List ℤ) → AllByRecursion (λ x. x ≡ g) (w ∷ ws) → most (w ∷ ws) ≡ Some g
all_most g w [] all = ap (λ x. Some x) all.0
all_most g w (v ∷ ws) all =
    ap (λ (o : Option ℤ). elim o [ None ↦ Some w | Some m ↦ Some (cond (int_lt m w) w m) ]) (all_most g v ws all.1)
    ∙ ap (λ x. Some (cond (int_lt g x) x g)) all.0 ∙ is_least g (int_lt g g)

least_of : (g : ℤ) (ws : List ℤ) → 0 < length ws → AllByRecursion (λ x. x ≡ g) ws → (least ws ≡ Some g) × (most ws ≡ Some g)
least_of g [] some all = absurd (omega (arith, some))
least_of g (w ∷ ws) some all = (all_least g w ws all, all_most g w ws all)

some_lists : {A : Type 0} (f : ℕ → List A) (n : ℕ) → 0 < n → ((i : ℕ) → 0 < length (f i)) → 0 < length (flat_map f (below n))
some_lists f zero some each = absurd (omega (arith, some))
some_lists f (suc n) some each = omega (arith, ap length (flat_map-append f (below n) (n ∷ [])), length-append (flat_map f (below n)) (f n ++ []), length-append (f n) [], each n)

pub groups_twice : (s : Sizes) (lanes : List Lane) (orders : List (List ℕ)) → AreSizes s → AcceptsAll s lanes orders → groups_line s (histories_of lanes orders) ≡ groups_text s.groups s.groups
unfolding groups_line accepted_counts
groups_twice s lanes orders ok accepts =
    let count : ℕ → ℕ → ℤ = λ rank plane. pos (length (accepted s rank plane (pieces_of s rank (histories_of lanes orders rank)))) in
    let counts : ℕ → List ℤ = λ rank. map (count rank) (below (planes s)) in
    let all : List ℤ = flat_map counts (below s.ranks) in
    let g : ℤ = pos s.groups in
    let each : AllByRecursion (λ x. x ≡ g) all = all_lists (λ x. x ≡ g) counts s.ranks (λ rank r. all_map (λ x. x ≡ g) (count rank) (planes s) (λ plane p. ap pos (accepts rank plane r p))) in
    let some_planes : 0 < planes s = mul_some s.steps s.fields ok.some_steps ok.some_fields in
    let some : 0 < length all = some_lists counts s.ranks (omega (arith, ok.some_ranks)) (λ rank. omega (arith, length-map (below (planes s)) (count rank), length-below (planes s), some_planes)) in
    let both = least_of g all some each in
    ap (λ (o : Option ℤ). groups_text (unsigned_abs (unwrap_or o (pos 0))) (unsigned_abs (unwrap_or (most all) (pos 0)))) both.0
    ∙ ap (λ (o : Option ℤ). groups_text s.groups (unsigned_abs (unwrap_or o (pos 0)))) both.1
  where
    mul_some : (a b : ℕ) → 1 ≤ a → 1 ≤ b → 0 < a * b
    mul_some a b ha hb =
        let one : 1 ≤ a = ha in
        let two : 1 ≤ b = hb in
        let all : 1 * 1 ≤ a * b = mul-le-mul one two in
        omega arith
