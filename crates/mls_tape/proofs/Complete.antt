-- The plain schedule is legal and complete.
use Rattle.std.proofs.Common.{◌≡◌, ℕ, zero, suc, ◌+◌, ◌≤◌, ◌<◌, Bool, true, false, cond, eqb, leb, ltb, ◌&&◌, List, [], ◌∷◌, ◌++◌, length, map, replicate, Option, Some, refl, sym, ap, subst, ◌∙◌, append_assoc, arith, inl, inr, ◌⊎◌, eq-eqb}
use Rattle.std.specs.List.{list_all, enumerate_from, AllByRecursion}
use Rattle.std.proofs.lemmas.Bool.{ne_eqb, eqb-true, le-leb, lt-ltb, le-ltb}
use Rattle.std.proofs.lemmas.Bool.Decides.{nat_tests}
use Rattle.std.proofs.lemmas.List.{append-nil, map_push, length-map}
use Rattle.mls_model.specs.Numbers.{below, element, times, joined}
use Rattle.mls_model.specs.Lanes.{Lane}
use Rattle.mls_model.specs.Schedules.{event_count, is_lane_of, is_legal_order, is_legal, is_complete, plain_order, plain}
use Rattle.mls_text.proofs.Counted.{length-below}
use Rattle.mls_tape.proofs.Entries.{count_of, lane_of_rank}
use Rattle.mls_tape.proofs.Plain.{turns, turns_from, plain_start}

-- ---- tests

pub both : (a b : Bool) → a ≡ true → b ≡ true → (a && b) ≡ true
both a b e1 e2 = rw (e1, e2) refl

first_of_both : (a b : Bool) → (a && b) ≡ true → a ≡ true
first_of_both true b e = refl
first_of_both false b e = e

second_of_both : (a b : Bool) → (a && b) ≡ true → b ≡ true
second_of_both true b e = e
second_of_both false b e = absurd cc

-- ---- how often a number stands in a list

times_more : (b : Bool) (m n r : ℕ) → m ≡ n + r → cond b (suc m) m ≡ cond b (suc n) n + r
times_more true m n r e = omega arith
times_more false m n r e = e

pub times_up : (b : Bool) (n : ℕ) → n ≤ cond b (suc n) n
times_up true n = omega arith
times_up false n = omega arith

pub times-append : (k : ℕ) (xs ys : List ℕ) → times k (xs ++ ys) ≡ times k xs + times k ys
times-append k [] ys = omega arith
times-append k (x ∷ xs) ys = times_more (eqb x k) (times k (xs ++ ys)) (times k xs) (times k ys) (times-append k xs ys)

times_same : (k n : ℕ) → times k (replicate n k) ≡ n
times_same k zero = refl
times_same k (suc n) = rw (eq-eqb k k refl) (ap suc (times_same k n))

times_other : (k j n : ℕ) → (j ≡ k → ⊥) → times k (replicate n j) ≡ 0
times_other k j zero ne = refl
times_other k j (suc n) ne = rw (ne_eqb j k ne) (times_other k j n ne)

-- a test that holds of each number that stands in a list
pub all_standing : (p : ℕ → Bool) (xs : List ℕ) → ((k : ℕ) → 1 ≤ times k xs → p k ≡ true) → list_all p xs ≡ true
all_standing p [] h = refl
all_standing p (x ∷ xs) h = both (p x) (list_all p xs) (h x (rw (eq-eqb x x refl) (omega arith))) (all_standing p xs (λ k some. h k (omega (arith, times_up (eqb x k) (times k xs)))))

-- ---- the plain list of a rank

same_cond : (b : Bool) → ◌≡◌ {A = ℕ} (cond b 0 0) 0
same_cond true = refl
same_cond false = refl

turns_cases : (b : Bool) (k : ℕ) (xs : List ℕ) → times k (cond b xs []) ≡ cond b (times k xs) 0
turns_cases true k xs = refl
turns_cases false k xs = refl

turns_other : (rank o k : ℕ) (l : Lane) → (o ≡ k → ⊥) → times k (turns rank (o, l)) ≡ 0
turns_other rank o k l ne = turns_cases (eqb l.rank rank) k (replicate (length l.frames) o) ∙ ap (λ (n : ℕ). cond (eqb l.rank rank) n 0) (times_other k o (length l.frames) ne) ∙ same_cond (eqb l.rank rank)

turns_here : (rank o : ℕ) (l : Lane) → times o (turns rank (o, l)) ≡ cond (eqb l.rank rank) (length l.frames) 0
turns_here rank o l = turns_cases (eqb l.rank rank) o (replicate (length l.frames) o) ∙ ap (λ (n : ℕ). cond (eqb l.rank rank) n 0) (times_same o (length l.frames))

-- no number below the first stands
turns_below : (rank o k : ℕ) (lanes : List Lane) → k < o → times k (turns_from rank o lanes) ≡ 0
turns_below rank o k [] lt = refl
turns_below rank o k (l ∷ lanes) lt =
    omega (arith, times-append k (turns rank (o, l)) (turns_from rank (o + 1) lanes), turns_other rank o k l (λ e. absurd (omega arith)), turns_below rank (o + 1) k lanes (omega arith))

turns_at : (rank o j : ℕ) (lanes : List Lane) → times (o + j) (turns_from rank o lanes) ≡ cond (is_lane_of lanes rank j) (event_count lanes j) 0
turns_at rank o j [] = refl
turns_at rank o zero (l ∷ lanes) =
    let here = turns_here rank o l in
    let rest = turns_below rank (o + 1) o lanes (omega arith) in
    let at : o + 0 ≡ o = omega arith in
    ap (λ (n : ℕ). times n (turns_from rank o (l ∷ lanes))) at ∙ omega (arith, times-append o (turns rank (o, l)) (turns_from rank (o + 1) lanes), here, rest)
turns_at rank o (suc j) (l ∷ lanes) =
    let here = turns_other rank o (o + suc j) l (λ e. absurd (omega arith)) in
    let at : o + suc j ≡ (o + 1) + j = omega arith in
    let rest = ap (λ (n : ℕ). times n (turns_from rank (o + 1) lanes)) at ∙ turns_at rank (o + 1) j lanes in
    omega (arith, times-append (o + suc j) (turns rank (o, l)) (turns_from rank (o + 1) lanes), here, rest)

plain_times : (lanes : List Lane) (rank k : ℕ) → times k (plain_order lanes rank) ≡ cond (is_lane_of lanes rank k) (event_count lanes k) 0
plain_times lanes rank k =
    let at : 0 + k ≡ k = omega arith in
    ap (λ (xs : List ℕ). times k xs) (sym (plain_start lanes rank)) ∙ ap (λ (n : ℕ). times n (turns_from rank 0 lanes)) (sym at) ∙ turns_at rank 0 k lanes

standing_is_legal : (b : Bool) (n c : ℕ) → n ≡ cond b c 0 → 1 ≤ n → (b && leb n c) ≡ true
standing_is_legal true n c e some = le-leb n c (omega arith)
standing_is_legal false n c e some = absurd (omega arith)

plain_order_legal : (lanes : List Lane) (rank : ℕ) → is_legal_order lanes rank (plain_order lanes rank) ≡ true
unfolding is_legal_order
plain_order_legal lanes rank = all_standing (λ k. is_lane_of lanes rank k && leb (times k (plain_order lanes rank)) (event_count lanes k)) (plain_order lanes rank) (λ k some. standing_is_legal (is_lane_of lanes rank k) (times k (plain_order lanes rank)) (event_count lanes k) (plain_times lanes rank k) some)

-- ---- all ranks

element_push : {A : Type 0} (xs : List A) (y x : A) (j : ℕ) → element (xs ++ y ∷ []) j ≡ Some x → (element xs j ≡ Some x) ⊎ ((j ≡ length xs) × (x ≡ y))
element_push [] y x zero e = inr (refl, cc)
element_push [] y x (suc j) e = absurd cc
element_push (z ∷ xs) y x zero e = inl e
element_push (z ∷ xs) y x (suc j) e =
    elim (element_push xs y x j e) [ inl h ↦ inl h | inr h ↦ inr (ap suc h.0, h.1) ]

pub element_below : {A : Type 0} (f : ℕ → A) (n j : ℕ) (x : A) → element (map f (below n)) j ≡ Some x → (j < n) × (x ≡ f j)
element_below f zero j x e = absurd cc
element_below f (suc n) j x e =
    let pushed : element (map f (below n) ++ f n ∷ []) j ≡ Some x = ap (λ xs. element xs j) (sym (map_push f (below n) n)) ∙ e in
    elim (element_push (map f (below n)) (f n) x j pushed) [
      | inl h ↦ (let r = element_below f n j x h in (omega (arith, r.0), r.1))
      | inr h ↦ (let len : j ≡ n = h.0 ∙ length-map (below n) f ∙ length-below n in (omega (arith, len), h.1 ∙ ap f (sym len)))
    ]

-- a test that holds of each element with its place
pub all_placed : {A : Type 0} (q : ℕ × A → Bool) (xs : List A) (o : ℕ) → ((j : ℕ) (x : A) → element xs j ≡ Some x → q (o + j, x) ≡ true) → list_all q (enumerate_from o xs) ≡ true
all_placed q [] o h = refl
all_placed q (x ∷ xs) o h =
    let here : o + 0 ≡ o = omega arith in
    both (q (o, x)) (list_all q (enumerate_from (o + 1) xs))
    (ap (λ n. q (n, x)) (sym here) ∙ h 0 x refl)
    (all_placed q xs (o + 1) (λ j y e. let later : (o + 1) + j ≡ o + suc j = omega arith in ap (λ n. q (n, y)) later ∙ h (suc j) y e))

same_some : {A : Type 0} (x y : A) → ◌≡◌ {A = Option A} (Some x) (Some y) → x ≡ y
same_some x y e = cc

placed_all : {A : Type 0} (q : ℕ × A → Bool) (xs : List A) (o j : ℕ) (x : A) → list_all q (enumerate_from o xs) ≡ true → element xs j ≡ Some x → q (o + j, x) ≡ true
placed_all q [] o j x all e = absurd cc
placed_all q (y ∷ xs) o zero x all e =
    let here : o + 0 ≡ o = omega arith in
    ap (λ n. q (n, x)) here ∙ ap (λ z. q (o, z)) (sym (same_some y x e)) ∙ first_of_both (q (o, y)) (list_all q (enumerate_from (o + 1) xs)) all
placed_all q (y ∷ xs) o (suc j) x all e =
    let later : o + suc j ≡ (o + 1) + j = omega arith in
    ap (λ n. q (n, x)) later ∙ placed_all q xs (o + 1) j x (second_of_both (q (o, y)) (list_all q (enumerate_from (o + 1) xs)) all) e

pub plain_legal : (ranks : ℕ) (lanes : List Lane) → is_legal ranks lanes (plain ranks lanes) ≡ true
unfolding is_legal plain
plain_legal ranks lanes =
    both (eqb (length (map (plain_order lanes) (below ranks))) ranks) (list_all (λ (p : ℕ × List ℕ). is_legal_order lanes p.0 p.1) (enumerate_from 0 (map (plain_order lanes) (below ranks))))
    (eq-eqb _ _ (length-map (below ranks) (plain_order lanes) ∙ length-below ranks))
    (all_placed (λ (p : ℕ × List ℕ). is_legal_order lanes p.0 p.1) (map (plain_order lanes) (below ranks)) 0 (λ rank order e.
    let same = element_below (plain_order lanes) ranks rank order e in
    let at : 0 + rank ≡ rank = omega arith in
    ap (λ n. is_legal_order lanes n order) at ∙ ap (λ os. is_legal_order lanes rank os) same.1 ∙ plain_order_legal lanes rank))

-- a lane's number stands as often as it has events
joined_push : (xss : List (List ℕ)) (ys : List ℕ) → joined (xss ++ ys ∷ []) ≡ joined xss ++ ys
joined_push [] ys = append-nil ys
joined_push (xs ∷ xss) ys = ap (λ (t : List ℕ). xs ++ t) (joined_push xss ys) ∙ sym (append_assoc xs (joined xss) ys)

counted_once : (r n c : ℕ) → cond (ltb r n) c 0 + cond (eqb r n) c 0 ≡ cond (ltb r (suc n)) c 0
counted_once r n c = grind (arith, nat_tests)

all_times : (lanes : List Lane) (k : ℕ) (l : Lane) (n : ℕ) → element lanes k ≡ Some l → times k (joined (map (plain_order lanes) (below n))) ≡ cond (ltb l.rank n) (length l.frames) 0
all_times lanes k l zero e = sym (ap (λ (b : Bool). cond b (length l.frames) 0) (le-ltb l.rank 0 (omega arith)))
all_times lanes k l (suc n) e =
    let one = times-append k (joined (map (plain_order lanes) (below n))) (plain_order lanes n) in
    let split : joined (map (plain_order lanes) (below n ++ n ∷ [])) ≡ joined (map (plain_order lanes) (below n)) ++ plain_order lanes n = ap (λ (xss : List (List ℕ)). joined xss) (map_push (plain_order lanes) (below n) n) ∙ joined_push (map (plain_order lanes) (below n)) (plain_order lanes n) in
    let before = all_times lanes k l n e in
    let last : times k (plain_order lanes n) ≡ cond (eqb l.rank n) (length l.frames) 0 = plain_times lanes n k ∙ ap (λ (b : Bool). cond b (event_count lanes k) 0) (lane_of_rank lanes n k l e) ∙ ap (λ (c : ℕ). cond (eqb l.rank n) c 0) (count_of lanes k l e) in
    ap (λ (xs : List ℕ). times k xs) split ∙ one ∙ ap (λ (m : ℕ). m + times k (plain_order lanes n)) before ∙ ap (λ (m : ℕ). cond (ltb l.rank n) (length l.frames) 0 + m) last ∙ counted_once l.rank n (length l.frames)

plain_all : (lanes : List Lane) (ranks k : ℕ) (l : Lane) → element lanes k ≡ Some l → l.rank < ranks → times k (joined (plain ranks lanes)) ≡ length l.frames
unfolding plain
plain_all lanes ranks k l e lt = all_times lanes k l ranks e ∙ ap (λ (b : Bool). cond b (length l.frames) 0) (lt-ltb l.rank ranks lt)

ranks_at : (ranks : ℕ) (lanes : List Lane) (k : ℕ) (l : Lane) → AllByRecursion (λ (lane : Lane). lane.rank < ranks) lanes → element lanes k ≡ Some l → l.rank < ranks
ranks_at ranks [] k l known e = absurd cc
ranks_at ranks (m ∷ lanes) zero l known e = subst (λ (x : Lane). x.rank < ranks) (same_some m l e) known.0
ranks_at ranks (m ∷ lanes) (suc k) l known e = ranks_at ranks lanes k l known.1 e

pub plain_complete : (ranks : ℕ) (lanes : List Lane) → AllByRecursion (λ (lane : Lane). lane.rank < ranks) lanes → is_complete ranks lanes (plain ranks lanes) ≡ true
unfolding is_complete
plain_complete ranks lanes known =
    both (is_legal ranks lanes (plain ranks lanes)) (list_all (λ (p : ℕ × Lane). eqb (times p.0 (joined (plain ranks lanes))) (length p.1.frames)) (enumerate_from 0 lanes))
    (plain_legal ranks lanes)
    (all_placed (λ (p : ℕ × Lane). eqb (times p.0 (joined (plain ranks lanes))) (length p.1.frames)) lanes 0 (λ k l e.
    let at : 0 + k ≡ k = omega arith in
    eq-eqb _ _ (ap (λ (n : ℕ). times n (joined (plain ranks lanes))) at ∙ plain_all lanes ranks k l e (ranks_at ranks lanes k l known e))))

pub legal_order : (ranks : ℕ) (lanes : List Lane) (orders : List (List ℕ)) (rank : ℕ) (order : List ℕ) → is_legal ranks lanes orders ≡ true → element orders rank ≡ Some order → is_legal_order lanes rank order ≡ true
unfolding is_legal
legal_order ranks lanes orders rank order legal e =
    let at : rank ≡ 0 + rank = omega arith in
    ap (λ (n : ℕ). is_legal_order lanes n order) at ∙ placed_all (λ (p : ℕ × List ℕ). is_legal_order lanes p.0 p.1) orders 0 rank order (second_of_both (eqb (length orders) ranks) (list_all (λ (p : ℕ × List ℕ). is_legal_order lanes p.0 p.1) (enumerate_from 0 orders)) legal) e

pub legal_count : (ranks : ℕ) (lanes : List Lane) (orders : List (List ℕ)) → is_legal ranks lanes orders ≡ true → length orders ≡ ranks
unfolding is_legal
legal_count ranks lanes orders legal = eqb-true _ _ (first_of_both (eqb (length orders) ranks) (list_all (λ (p : ℕ × List ℕ). is_legal_order lanes p.0 p.1) (enumerate_from 0 orders)) legal)
