-- How often each lane stands in a rank's list of a complete schedule.
use Rattle.std.proofs.Common.{◌≡◌, ℕ, zero, suc, ◌+◌, ◌<◌, ◌≤◌, Bool, true, false, cond, eqb, leb, ◌&&◌, List, [], ◌∷◌, ◌++◌, length, map, replicate, Option, Some, None, unwrap_or, refl, sym, ap, ◌∙◌, subst, ⊎_elim, arith, eq-eqb, ne_eqb, eqb-true}
use Rattle.std.specs.List.{list_all, flat_map, enumerate_from}
use Rattle.std.proofs.lemmas.Option.{same_Some}
use Rattle.std.proofs.lemmas.Bool.{cases_Bool, cases_eq, and_parts, and_left, both_ways}
use Rattle.std.proofs.lemmas.List.{map_push, length-map, length_push}
use Rattle.mls_model.specs.Numbers.{below, element, times, joined}
use Rattle.mls_model.specs.Lanes.{Lane}
use Rattle.mls_model.specs.Schedules.{event_count, is_lane_of, is_legal_order, is_legal, is_complete, plain_order, plain}
use Rattle.mls_model.specs.ResultText.{order_at}

-- how often lane k stands where each lane of the rank stands as often as it has events, and no other lane does
abbrev pub turns : List Lane → ℕ → ℕ → ℕ
turns [] rank k = 0
turns (lane ∷ lanes) rank zero = cond (eqb lane.rank rank) (length lane.frames) 0
turns (lane ∷ lanes) rank (suc k) = turns lanes rank k

-- ---- how often a number stands in a list

times_more : (b : Bool) (m n r : ℕ) → m ≡ n + r → cond b (suc m) m ≡ cond b (suc n) n + r
times_more true m n r e = omega arith
times_more false m n r e = e

pub times-append : (k : ℕ) (xs ys : List ℕ) → times k (xs ++ ys) ≡ times k xs + times k ys
times-append k [] ys = omega arith
times-append k (x ∷ xs) ys = times_more (eqb x k) (times k (xs ++ ys)) (times k xs) (times k ys) (times-append k xs ys)

times_same : (k n : ℕ) → times k (replicate n k) ≡ n
times_same k zero = refl
times_same k (suc n) = rw (eq-eqb k k refl) (ap suc (times_same k n))

times_other : (k j n : ℕ) → (j ≡ k → ⊥) → times k (replicate n j) ≡ 0
times_other k j zero ne = refl
times_other k j (suc n) ne = rw (ne_eqb j k ne) (times_other k j n ne)

-- a number that fails a test does not stand where all pass
not_standing : (p : ℕ → Bool) (k : ℕ) (xs : List ℕ) → list_all p xs ≡ true → p k ≡ false → times k xs ≡ 0
not_standing p k [] all fails = refl
not_standing p k (x ∷ xs) all fails =
    let parts = and_parts (p x) (list_all p xs) all in
    let other : x ≡ k → ⊥ = λ e. both_ways (p k) fails (ap p (sym e) ∙ parts.0) in
    rw (ne_eqb x k other) (not_standing p k xs parts.1 fails)

-- ---- lanes by number

lane_at_is : (lanes : List Lane) (q k : ℕ) (l : Lane) → element lanes k ≡ Some l → is_lane_of lanes q k ≡ eqb l.rank q
lane_at_is [] q k l e = absurd cc
lane_at_is (m ∷ lanes) q zero l e = ap (λ (x : Lane). eqb x.rank q) (same_Some m l e)
lane_at_is (m ∷ lanes) q (suc k) l e = lane_at_is lanes q k l e

no_lane_at : (lanes : List Lane) (q k : ℕ) → element lanes k ≡ None → is_lane_of lanes q k ≡ false
no_lane_at [] q k e = refl
no_lane_at (m ∷ lanes) q zero e = absurd cc
no_lane_at (m ∷ lanes) q (suc k) e = no_lane_at lanes q k e

turns_at_lane : (lanes : List Lane) (rank k : ℕ) (l : Lane) → element lanes k ≡ Some l → turns lanes rank k ≡ cond (eqb l.rank rank) (length l.frames) 0
turns_at_lane [] rank k l e = absurd cc
turns_at_lane (m ∷ lanes) rank zero l e = ap (λ (x : Lane). cond (eqb x.rank rank) (length x.frames) 0) (same_Some m l e)
turns_at_lane (m ∷ lanes) rank (suc k) l e = turns_at_lane lanes rank k l e

no_turns_at : (lanes : List Lane) (rank k : ℕ) → element lanes k ≡ None → turns lanes rank k ≡ 0
no_turns_at [] rank k e = refl
no_turns_at (m ∷ lanes) rank zero e = absurd cc
no_turns_at (m ∷ lanes) rank (suc k) e = no_turns_at lanes rank k e

-- ---- legal and complete lists

abbrev legal_from : List Lane → ℕ → List (List ℕ) → Bool
legal_from lanes b orders = list_all (λ (p : ℕ × List ℕ). is_legal_order lanes p.0 p.1) (enumerate_from b orders)

legal_at : (lanes : List Lane) (b j : ℕ) (orders : List (List ℕ)) → legal_from lanes b orders ≡ true → is_legal_order lanes (b + j) (order_at orders j) ≡ true
unfolding is_legal_order
legal_at lanes b j [] all = refl
legal_at lanes b zero (o ∷ orders) all =
    let at : b ≡ b + 0 = omega arith in
    ap (λ (n : ℕ). is_legal_order lanes n o) (sym at) ∙ (and_parts _ _ all).0
legal_at lanes b (suc j) (o ∷ orders) all =
    let at : (b + 1) + j ≡ b + suc j = omega arith in
    ap (λ (n : ℕ). is_legal_order lanes n (order_at orders j)) (sym at) ∙ legal_at lanes (b + 1) j orders (and_parts _ _ all).1

no_turn : (lanes : List Lane) (rank k : ℕ) (order : List ℕ) → is_legal_order lanes rank order ≡ true → is_lane_of lanes rank k ≡ false → times k order ≡ 0
unfolding is_legal_order
no_turn lanes rank k order legal other = not_standing (λ n. is_lane_of lanes rank n && leb (times n order) (event_count lanes n)) k order legal (and_left _ _ other)

none_later : (lanes : List Lane) (b k : ℕ) (orders : List (List ℕ)) → legal_from lanes b orders ≡ true → ((q : ℕ) → b ≤ q → is_lane_of lanes q k ≡ false) → times k (joined orders) ≡ 0
none_later lanes b k [] all other = refl
none_later lanes b k (o ∷ orders) all other =
    let parts = and_parts (is_legal_order lanes b o) (legal_from lanes (b + 1) orders) all in
    let here : times k o ≡ 0 = no_turn lanes b k o parts.0 (other b (omega arith)) in
    let rest : times k (joined orders) ≡ 0 = none_later lanes (b + 1) k orders parts.1 (λ q le. other q (omega arith)) in
    times-append k o (joined orders) ∙ omega (arith, here, rest)

-- a lane of one rank stands in that rank's list alone
own_list : (lanes : List Lane) (b j k : ℕ) (orders : List (List ℕ)) → legal_from lanes b orders ≡ true → ((q : ℕ) → (q ≡ b + j → ⊥) → is_lane_of lanes q k ≡ false) → times k (joined orders) ≡ times k (order_at orders j)
own_list lanes b j k [] all other = refl
own_list lanes b zero k (o ∷ orders) all other =
    let parts = and_parts (is_legal_order lanes b o) (legal_from lanes (b + 1) orders) all in
    let rest : times k (joined orders) ≡ 0 = none_later lanes (b + 1) k orders parts.1 (λ q le. other q (λ e. absurd (omega (arith, e)))) in
    times-append k o (joined orders) ∙ omega (arith, rest)
own_list lanes b (suc j) k (o ∷ orders) all other =
    let parts = and_parts (is_legal_order lanes b o) (legal_from lanes (b + 1) orders) all in
    let here : times k o ≡ 0 = no_turn lanes b k o parts.0 (other b (λ e. absurd (omega (arith, e)))) in
    let rest : times k (joined orders) ≡ times k (order_at orders j) = own_list lanes (b + 1) j k orders parts.1 (λ q ne. other q (λ e. ne (omega (arith, e)))) in
    times-append k o (joined orders) ∙ omega (arith, here, rest)

placed_all : {A : Type 0} (q : ℕ × A → Bool) (xs : List A) (o j : ℕ) (x : A) → list_all q (enumerate_from o xs) ≡ true → element xs j ≡ Some x → q (o + j, x) ≡ true
placed_all q [] o j x all e = absurd cc
placed_all q (y ∷ xs) o zero x all e =
    let here : o + 0 ≡ o = omega arith in
    ap (λ n. q (n, x)) here ∙ ap (λ z. q (o, z)) (sym (same_Some y x e)) ∙ (and_parts (q (o, y)) (list_all q (enumerate_from (o + 1) xs)) all).0
placed_all q (y ∷ xs) o (suc j) x all e =
    let later : o + suc j ≡ (o + 1) + j = omega arith in
    ap (λ n. q (n, x)) later ∙ placed_all q xs (o + 1) j x (and_parts (q (o, y)) (list_all q (enumerate_from (o + 1) xs)) all).1 e

legal_orders : (ranks : ℕ) (lanes : List Lane) (orders : List (List ℕ)) → is_legal ranks lanes orders ≡ true → legal_from lanes 0 orders ≡ true
unfolding is_legal
legal_orders ranks lanes orders h = (and_parts _ _ h).1

complete_parts : (ranks : ℕ) (lanes : List Lane) (orders : List (List ℕ)) → is_complete ranks lanes orders ≡ true → (legal_from lanes 0 orders ≡ true) × (list_all (λ (p : ℕ × Lane). eqb (times p.0 (joined orders)) (length p.1.frames)) (enumerate_from 0 lanes) ≡ true)
unfolding is_complete
complete_parts ranks lanes orders h = let parts = and_parts _ _ h in (legal_orders ranks lanes orders parts.0, parts.1)

at_none : (lanes : List Lane) (rank k : ℕ) (order : List ℕ) → is_legal_order lanes rank order ≡ true → element lanes k ≡ None → times k order ≡ turns lanes rank k
at_none lanes rank k order legal e = no_turn lanes rank k order legal (no_lane_at lanes rank k e) ∙ sym (no_turns_at lanes rank k e)

at_other : (lanes : List Lane) (rank k : ℕ) (order : List ℕ) (l : Lane) → is_legal_order lanes rank order ≡ true → element lanes k ≡ Some l → eqb l.rank rank ≡ false → times k order ≡ turns lanes rank k
at_other lanes rank k order l legal e f = no_turn lanes rank k order legal (lane_at_is lanes rank k l e ∙ f) ∙ sym (turns_at_lane lanes rank k l e ∙ ap (λ (b : Bool). cond b (length l.frames) 0) f)

at_own : (lanes : List Lane) (rank k : ℕ) (orders : List (List ℕ)) (l : Lane) → legal_from lanes 0 orders ≡ true → times k (joined orders) ≡ length l.frames → element lanes k ≡ Some l → eqb l.rank rank ≡ true → times k (order_at orders rank) ≡ turns lanes rank k
at_own lanes rank k orders l legal full e t =
    let own : l.rank ≡ rank = eqb-true l.rank rank t in
    let alone : (q : ℕ) → (q ≡ 0 + rank → ⊥) → is_lane_of lanes q k ≡ false = λ q ne. lane_at_is lanes q k l e ∙ ne_eqb l.rank q (λ s. ne (omega (arith, s, own))) in
    sym (own_list lanes 0 rank k orders legal alone) ∙ full ∙ sym (turns_at_lane lanes rank k l e ∙ ap (λ (b : Bool). cond b (length l.frames) 0) t)

by_element : (lanes : List Lane) (rank k : ℕ) (orders : List (List ℕ)) (o : Option Lane) → element lanes k ≡ o → legal_from lanes 0 orders ≡ true → list_all (λ (p : ℕ × Lane). eqb (times p.0 (joined orders)) (length p.1.frames)) (enumerate_from 0 lanes) ≡ true → times k (order_at orders rank) ≡ turns lanes rank k
by_element lanes rank k orders None e legal full =
    let at : 0 + rank ≡ rank = omega arith in
    at_none lanes rank k (order_at orders rank) (ap (λ (n : ℕ). is_legal_order lanes n (order_at orders rank)) (sym at) ∙ legal_at lanes 0 rank orders legal) e
by_element lanes rank k orders (Some l) e legal full =
    let at : 0 + rank ≡ rank = omega arith in
    let here : 0 + k ≡ k = omega arith in
    let mine : is_legal_order lanes rank (order_at orders rank) ≡ true = ap (λ (n : ℕ). is_legal_order lanes n (order_at orders rank)) (sym at) ∙ legal_at lanes 0 rank orders legal in
    let all : times k (joined orders) ≡ length l.frames = ap (λ (n : ℕ). times n (joined orders)) (sym here) ∙ eqb-true _ _ (placed_all (λ (p : ℕ × Lane). eqb (times p.0 (joined orders)) (length p.1.frames)) lanes 0 k l full e) in
    ⊎_elim (λ t. at_own lanes rank k orders l legal all e t) (λ f. at_other lanes rank k (order_at orders rank) l mine e f) (cases_Bool (eqb l.rank rank))

-- of a complete schedule
pub complete_turns : (ranks : ℕ) (lanes : List Lane) (orders : List (List ℕ)) → is_complete ranks lanes orders ≡ true → (rank k : ℕ) → times k (order_at orders rank) ≡ turns lanes rank k
complete_turns ranks lanes orders h rank k = let parts = complete_parts ranks lanes orders h in by_element lanes rank k orders (element lanes k) refl parts.0 parts.1

-- ---- the plain schedule

abbrev added : ℕ → ℕ × Lane → List ℕ
added rank p = cond (eqb p.1.rank rank) (replicate (length p.1.frames) p.0) []

abbrev plain_from : ℕ → ℕ → List Lane → List ℕ
plain_from rank k lanes = flat_map (added rank) (enumerate_from k lanes)

times_cond : (b : Bool) (k : ℕ) (xs : List ℕ) → times k (cond b xs []) ≡ cond b (times k xs) 0
times_cond true k xs = refl
times_cond false k xs = refl

none_either : (b : Bool) → ◌≡◌ {A = ℕ} (cond b 0 0) 0
none_either true = refl
none_either false = refl

added_other : (rank o k : ℕ) (l : Lane) → (o ≡ k → ⊥) → times k (added rank (o, l)) ≡ 0
added_other rank o k l ne = times_cond (eqb l.rank rank) k (replicate (length l.frames) o) ∙ ap (λ (n : ℕ). cond (eqb l.rank rank) n 0) (times_other k o (length l.frames) ne) ∙ none_either (eqb l.rank rank)

added_here : (rank o : ℕ) (l : Lane) → times o (added rank (o, l)) ≡ cond (eqb l.rank rank) (length l.frames) 0
added_here rank o l = times_cond (eqb l.rank rank) o (replicate (length l.frames) o) ∙ ap (λ (n : ℕ). cond (eqb l.rank rank) n 0) (times_same o (length l.frames))

none_before : (rank o k : ℕ) (lanes : List Lane) → k < o → times k (plain_from rank o lanes) ≡ 0
none_before rank o k [] lt = refl
none_before rank o k (l ∷ lanes) lt =
    omega (arith, times-append k (added rank (o, l)) (plain_from rank (o + 1) lanes), added_other rank o k l (λ e. absurd (omega (arith, e))), none_before rank (o + 1) k lanes (omega arith))

plain_at : (rank o j : ℕ) (lanes : List Lane) → times (o + j) (plain_from rank o lanes) ≡ turns lanes rank j
plain_at rank o j [] = refl
plain_at rank o zero (l ∷ lanes) =
    let here = added_here rank o l in
    let rest = none_before rank (o + 1) o lanes (omega arith) in
    let at : o + 0 ≡ o = omega arith in
    ap (λ (n : ℕ). times n (plain_from rank o (l ∷ lanes))) at ∙ omega (arith, times-append o (added rank (o, l)) (plain_from rank (o + 1) lanes), here, rest)
plain_at rank o (suc j) (l ∷ lanes) =
    let here = added_other rank o (o + suc j) l (λ e. absurd (omega (arith, e))) in
    let at : o + suc j ≡ (o + 1) + j = omega arith in
    let rest : times (o + suc j) (plain_from rank (o + 1) lanes) ≡ turns lanes rank j = ap (λ (n : ℕ). times n (plain_from rank (o + 1) lanes)) at ∙ plain_at rank (o + 1) j lanes in
    omega (arith, times-append (o + suc j) (added rank (o, l)) (plain_from rank (o + 1) lanes), here, rest)

plain_order_turns : (lanes : List Lane) (rank k : ℕ) → times k (plain_order lanes rank) ≡ turns lanes rank k
unfolding plain_order
plain_order_turns lanes rank k = let at : 0 + k ≡ k = omega arith in ap (λ (n : ℕ). times n (plain_from rank 0 lanes)) (sym at) ∙ plain_at rank 0 k lanes

element_front : {A : Type 0} (xs zs : List A) (r : ℕ) (y : A) → element xs r ≡ Some y → element (xs ++ zs) r ≡ Some y
element_front [] zs r y e = absurd cc
element_front (x ∷ xs) zs zero y e = e
element_front (x ∷ xs) zs (suc r) y e = element_front xs zs r y e

element_end : {A : Type 0} (xs : List A) (y : A) → element (xs ++ y ∷ []) (length xs) ≡ Some y
element_end [] y = refl
element_end (x ∷ xs) y = element_end xs y

length_below : (n : ℕ) → length (below n) ≡ n
length_below zero = refl
length_below (suc n) = length_push (below n) n ∙ omega (arith, length_below n)

element_below : {A : Type 0} (f : ℕ → A) (n r : ℕ) → r < n → element (map f (below n)) r ≡ Some (f r)
element_below f zero r lt = absurd (omega arith)
element_below f (suc n) r lt =
    ap (λ xs. element xs r) (map_push f (below n) n) ∙ ⊎_elim
    (λ e.
    let long : length (map f (below n)) ≡ r = length-map (below n) f ∙ length_below n ∙ sym e in
    subst (λ (k : ℕ). element (map f (below n) ++ f n ∷ []) k ≡ Some (f r)) long (element_end (map f (below n)) (f n) ∙ ap (λ (k : ℕ). Some (f k)) (sym e)))
    (λ ne. element_front (map f (below n)) (f n ∷ []) r (f r) (element_below f n r (omega (arith, ne))))
    (cases_eq r n)

pub plain_turns : (ranks : ℕ) (lanes : List Lane) (rank k : ℕ) → rank < ranks → times k (order_at (plain ranks lanes) rank) ≡ turns lanes rank k
unfolding plain
plain_turns ranks lanes rank k lt = ap (λ (o : Option (List ℕ)). times k (unwrap_or o [])) (element_below (plain_order lanes) ranks rank lt) ∙ plain_order_turns lanes rank k
