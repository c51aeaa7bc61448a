-- The schedule of trial is legal and complete: each list has each lane as often as the plain one.
use Rattle.std.proofs.Common.{◌≡◌, ℕ, zero, suc, ◌+◌, ◌≤◌, ◌<◌, Bool, true, false, ◌&&◌, cond, eqb, leb, List, [], ◌∷◌, ◌++◌, length, map, replicate, Option, Some, refl, sym, ◌∙◌, ap, subst, inl, inr, arith, append_assoc}
use Rattle.std.specs.List.{flat_map, list_all, enumerate_from, AllByRecursion}
use Rattle.std.proofs.lemmas.Bool.{cases_Bool, eq-eqb, eqb-true}
use Rattle.std.proofs.lemmas.List.{append-nil, map_push, length-map}
use Rattle.std.proofs.lemmas.Grind.{flat_map-append}
use Rattle.mls_model.specs.Numbers.{below, element, times, joined}
use Rattle.mls_model.specs.Studies.{Study, IsStudy}
use Rattle.mls_model.specs.Lanes.{Lane}
use Rattle.mls_model.specs.Schedules.{event_count, is_lane_of, is_legal_order, is_legal, is_complete, plain_order, plain}
use Rattle.mls_text.proofs.Counted.{length-below}
use Rattle.mls_tape.proofs.Complete.{both, times-append, all_standing, element_below, all_placed, plain_legal, plain_complete, legal_order}
use Rattle.mls_design.specs.declared.trial.stock.Stock.{Stock}
use Rattle.mls_design.specs.Trial.{earlier_lanes, resent_lanes, trial_lanes}
use Rattle.mls_design.specs.TrialSchedule.{stocks, mixed, stock_events, whole_lanes, mixing_from, trial_order, trial_orders}
use Rattle.mls_design.specs.TrialMixing.{Rise}
use Rattle.mls_design.proofs.TrialReading.{IsMade, all_so, all_made}
use Rattle.mls_design.proofs.TrialMixing.{stock_with, mixed_times}

-- ---- stocks

-- what a lane gives
abbrev pub stock_of : ℕ → ℕ → Lane → List Stock
stock_of rank k lane = cond (eqb lane.rank rank) (record { lane = k; events = length lane.frames } ∷ []) []

pub stocks_cons : (rank from : ℕ) (lane : Lane) (lanes : List Lane) → stocks rank from (lane ∷ lanes) ≡ stock_of rank from lane ++ stocks rank (from + 1) lanes
unfolding stocks
stocks_cons rank from lane lanes = refl

pub stocks_none : (rank from : ℕ) → stocks rank from [] ≡ []
unfolding stocks
stocks_none rank from = refl

pub stocks_append : (rank from : ℕ) (xs ys : List Lane) → stocks rank from (xs ++ ys) ≡ stocks rank from xs ++ stocks rank (from + length xs) ys
stocks_append rank from [] ys =
    let same : from ≡ from + 0 = omega arith in
    ap (λ n. stocks rank n ys) same ∙ ap (λ (ss : List Stock). ss ++ stocks rank (from + 0) ys) (sym (stocks_none rank from))
stocks_append rank from (x ∷ xs) ys =
    let same : (from + 1) + length xs ≡ from + suc (length xs) = omega arith in
    stocks_cons rank from x (xs ++ ys)
    ∙ ap (λ (ss : List Stock). stock_of rank from x ++ ss) (stocks_append rank (from + 1) xs ys)
    ∙ sym (append_assoc (stock_of rank from x) (stocks rank (from + 1) xs) (stocks rank ((from + 1) + length xs) ys))
    ∙ ap (λ (ss : List Stock). ss ++ stocks rank ((from + 1) + length xs) ys) (sym (stocks_cons rank from x xs))
    ∙ ap (λ n. stocks rank from (x ∷ xs) ++ stocks rank n ys) same

above_of : (rank m from : ℕ) (lane : Lane) (rest : List Stock) → m < from → AllByRecursion (λ (t : Stock). m < t.lane) rest → AllByRecursion (λ (t : Stock). m < t.lane) (stock_of rank from lane ++ rest)
above_of rank m from lane rest h above = elim (cases_Bool (eqb lane.rank rank)) [
  | inl t ↦ subst (λ (b : Bool). AllByRecursion (λ (t : Stock). m < t.lane) (cond b (record { lane = from; events = length lane.frames } ∷ []) [] ++ rest)) (sym t) (h, above)
  | inr f ↦ subst (λ (b : Bool). AllByRecursion (λ (t : Stock). m < t.lane) (cond b (record { lane = from; events = length lane.frames } ∷ []) [] ++ rest)) (sym f) above
]

stocks_above : (rank m from : ℕ) (lanes : List Lane) → m < from → AllByRecursion (λ (t : Stock). m < t.lane) (stocks rank from lanes)
stocks_above rank m from [] h = subst (AllByRecursion (λ (t : Stock). m < t.lane)) (sym (stocks_none rank from)) tt
stocks_above rank m from (x ∷ xs) h = subst (AllByRecursion (λ (t : Stock). m < t.lane)) (sym (stocks_cons rank from x xs)) (above_of rank m from x (stocks rank (from + 1) xs) h (stocks_above rank m (from + 1) xs (omega (arith, h))))

rise_of : (rank from : ℕ) (lane : Lane) (rest : List Stock) → AllByRecursion (λ (t : Stock). from < t.lane) rest → Rise rest → Rise (stock_of rank from lane ++ rest)
rise_of rank from lane rest above rise = elim (cases_Bool (eqb lane.rank rank)) [
  | inl t ↦ subst (λ (b : Bool). Rise (cond b (record { lane = from; events = length lane.frames } ∷ []) [] ++ rest)) (sym t) (above, rise)
  | inr f ↦ subst (λ (b : Bool). Rise (cond b (record { lane = from; events = length lane.frames } ∷ []) [] ++ rest)) (sym f) rise
]

pub stocks_rise : (rank from : ℕ) (lanes : List Lane) → Rise (stocks rank from lanes)
stocks_rise rank from [] = subst Rise (sym (stocks_none rank from)) tt
stocks_rise rank from (x ∷ xs) = subst Rise (sym (stocks_cons rank from x xs)) (rise_of rank from x (stocks rank (from + 1) xs) (stocks_above rank from (from + 1) xs (omega arith)) (stocks_rise rank (from + 1) xs))

-- ---- whole lanes

pub whole_append : (xs ys : List Stock) → whole_lanes (xs ++ ys) ≡ whole_lanes xs ++ whole_lanes ys
unfolding whole_lanes
whole_append xs ys = flat_map-append (λ (s : Stock). replicate s.events s.lane) xs ys

abbrev turn : ℕ → ℕ × Lane → List ℕ
turn rank p = cond (eqb p.1.rank rank) (replicate (length p.1.frames) p.0) []

whole_of : (b : Bool) (k n : ℕ) (rest : List Stock) → whole_lanes (cond b (stock_with k n ∷ []) [] ++ rest) ≡ cond b (replicate n k) [] ++ whole_lanes rest
unfolding whole_lanes
whole_of true k n rest = refl
whole_of false k n rest = refl

no_whole : whole_lanes [] ≡ []
unfolding whole_lanes
no_whole = refl

pub whole_plain : (rank from : ℕ) (lanes : List Lane) → whole_lanes (stocks rank from lanes) ≡ flat_map (turn rank) (enumerate_from from lanes)
whole_plain rank from [] = ap (λ (ss : List Stock). whole_lanes ss) (stocks_none rank from) ∙ no_whole
whole_plain rank from (x ∷ xs) =
    ap (λ (ss : List Stock). whole_lanes ss) (stocks_cons rank from x xs)
    ∙ whole_of (eqb x.rank rank) from (length x.frames) (stocks rank (from + 1) xs)
    ∙ ap (λ r. turn rank (from, x) ++ r) (whole_plain rank (from + 1) xs)

whole_is_plain : (lanes : List Lane) (rank : ℕ) → whole_lanes (stocks rank 0 lanes) ≡ plain_order lanes rank
unfolding plain_order
whole_is_plain lanes rank = whole_plain rank 0 lanes

pub trial_times : (study : Study) (number rank k : ℕ) → times k (trial_order study number rank) ≡ times k (plain_order (trial_lanes study number) rank)
unfolding trial_order trial_lanes
trial_times study number rank k =
    let early : List Lane = earlier_lanes study number in
    let late : List Lane = resent_lanes study in
    let at : ℕ = mixing_from study number rank in
    let all : List Stock = stocks rank 0 early in
    let rest : List Stock = stocks rank (length early) late in
    let same : 0 + length early ≡ length early = omega arith in
    let joint : stocks rank 0 (early ++ late) ≡ all ++ rest = stocks_append rank 0 early late ∙ ap (λ n. all ++ stocks rank n late) same in
    let whole : plain_order (early ++ late) rank ≡ whole_lanes all ++ whole_lanes rest = sym (whole_is_plain (early ++ late) rank) ∙ ap (λ (ss : List Stock). whole_lanes ss) joint ∙ whole_append all rest in
    omega (arith, times-append k (mixed number at all (stock_events all)) (whole_lanes rest), mixed_times number at k all (stocks_rise rank 0 early), ap (times k) whole, times-append k (whole_lanes all) (whole_lanes rest))

-- ---- lists that have each lane as often as the plain ones

first_of_both : (a b : Bool) → (a && b) ≡ true → a ≡ true
first_of_both true b e = refl
first_of_both false b e = e

second_of_both : (a b : Bool) → (a && b) ≡ true → b ≡ true
second_of_both true b e = e
second_of_both false b e = absurd cc

standing : (p : ℕ → Bool) (xs : List ℕ) (k : ℕ) → list_all p xs ≡ true → 1 ≤ times k xs → p k ≡ true
standing p [] k all some = absurd (omega (arith, some))
standing p (x ∷ xs) k all some = elim (cases_Bool (eqb x k)) [
  | inl t ↦ ap p (sym (eqb-true x k t)) ∙ first_of_both (p x) (list_all p xs) all
  | inr f ↦
      let less : times k (x ∷ xs) ≡ times k xs = ap (λ (b : Bool). cond b (suc (times k xs)) (times k xs)) f in
      standing p xs k (second_of_both (p x) (list_all p xs) all) (omega (arith, less, some))
]

element_last : {A : Type 0} (xs : List A) (y : A) → element (xs ++ y ∷ []) (length xs) ≡ Some y
element_last [] y = refl
element_last (x ∷ xs) y = element_last xs y

pub element_map_below : {A : Type 0} (f : ℕ → A) (n : ℕ) → element (map f (below (suc n))) n ≡ Some (f n)
element_map_below f n =
    let long : n ≡ length (map f (below n)) = sym (length-map (below n) f ∙ length-below n) in
    ap (λ xs. element xs n) (map_push f (below n) n) ∙ ap (element (map f (below n) ++ f n ∷ [])) long ∙ element_last (map f (below n)) (f n)

plain_at : (lanes : List Lane) (rank : ℕ) → element (plain (suc rank) lanes) rank ≡ Some (plain_order lanes rank)
unfolding plain
plain_at lanes rank = element_map_below (plain_order lanes) rank

plain_order_legal : (lanes : List Lane) (rank : ℕ) → is_legal_order lanes rank (plain_order lanes rank) ≡ true
plain_order_legal lanes rank = legal_order (suc rank) lanes (plain (suc rank) lanes) rank (plain_order lanes rank) (plain_legal (suc rank) lanes) (plain_at lanes rank)

same_times_legal : (lanes : List Lane) (rank : ℕ) (order others : List ℕ) → is_legal_order lanes rank others ≡ true → ((k : ℕ) → times k order ≡ times k others) → is_legal_order lanes rank order ≡ true
unfolding is_legal_order
same_times_legal lanes rank order others legal same =
    all_standing (λ k. is_lane_of lanes rank k && leb (times k order) (event_count lanes k)) order
    (λ k some. ap (λ n. is_lane_of lanes rank k && leb n (event_count lanes k)) (same k)
    ∙ standing (λ j. is_lane_of lanes rank j && leb (times j others) (event_count lanes j)) others k legal (omega (arith, some, same k)))

pub legal_lists : (ranks : ℕ) (lanes : List Lane) (f : ℕ → List ℕ) → ((rank : ℕ) → is_legal_order lanes rank (f rank) ≡ true) → is_legal ranks lanes (map f (below ranks)) ≡ true
unfolding is_legal
legal_lists ranks lanes f each =
    both (eqb (length (map f (below ranks))) ranks) (list_all (λ (p : ℕ × List ℕ). is_legal_order lanes p.0 p.1) (enumerate_from 0 (map f (below ranks))))
    (eq-eqb _ _ (length-map (below ranks) f ∙ length-below ranks))
    (all_placed (λ (p : ℕ × List ℕ). is_legal_order lanes p.0 p.1) (map f (below ranks)) 0 (λ rank order e.
    let same = element_below f ranks rank order e in
    let at : 0 + rank ≡ rank = omega arith in
    ap (λ n. is_legal_order lanes n order) at ∙ ap (λ os. is_legal_order lanes rank os) same.1 ∙ each rank))

same_joined : (f g : ℕ → List ℕ) (k n : ℕ) → ((i : ℕ) → times k (f i) ≡ times k (g i)) → times k (joined (map f (below n))) ≡ times k (joined (map g (below n)))
same_joined f g k zero each = refl
same_joined f g k (suc n) each =
    omega (arith, pushed f, pushed g, same_joined f g k n each, each n)
  where
    pushed : (h : ℕ → List ℕ) → times k (joined (map h (below (suc n)))) ≡ times k (joined (map h (below n))) + times k (h n)
    pushed h =
        ap (λ (xss : List (List ℕ)). times k (joined xss)) (map_push h (below n) n)
        ∙ ap (times k) (flat_map-append (λ (p : List ℕ). p) (map h (below n)) (h n ∷ []) ∙ ap (λ xs. joined (map h (below n)) ++ xs) (append-nil (h n)))
        ∙ times-append k (joined (map h (below n))) (h n)

same_some : {A : Type 0} (x y : A) → ◌≡◌ {A = Option A} (Some x) (Some y) → x ≡ y
same_some x y e = cc

placed_all : {A : Type 0} (q : ℕ × A → Bool) (xs : List A) (o j : ℕ) (x : A) → list_all q (enumerate_from o xs) ≡ true → element xs j ≡ Some x → q (o + j, x) ≡ true
placed_all q [] o j x all e = absurd cc
placed_all q (y ∷ xs) o zero x all e =
    let here : o + 0 ≡ o = omega arith in
    ap (λ n. q (n, x)) here ∙ ap (λ z. q (o, z)) (sym (same_some y x e)) ∙ first_of_both (q (o, y)) (list_all q (enumerate_from (o + 1) xs)) all
placed_all q (y ∷ xs) o (suc j) x all e =
    let later : o + suc j ≡ (o + 1) + j = omega arith in
    ap (λ n. q (n, x)) later ∙ placed_all q xs (o + 1) j x (second_of_both (q (o, y)) (list_all q (enumerate_from (o + 1) xs)) all) e

complete_by : (ranks : ℕ) (lanes : List Lane) (f : ℕ → List ℕ) → ((rank k : ℕ) → times k (f rank) ≡ times k (plain_order lanes rank)) → is_complete ranks lanes (plain ranks lanes) ≡ true → is_complete ranks lanes (map f (below ranks)) ≡ true
unfolding is_complete plain
complete_by ranks lanes f same done =
    both (is_legal ranks lanes (map f (below ranks))) (list_all (λ (p : ℕ × Lane). eqb (times p.0 (joined (map f (below ranks)))) (length p.1.frames)) (enumerate_from 0 lanes))
    (legal_lists ranks lanes f (λ rank. same_times_legal lanes rank (f rank) (plain_order lanes rank) (plain_order_legal lanes rank) (same rank)))
    (all_placed (λ (p : ℕ × Lane). eqb (times p.0 (joined (map f (below ranks)))) (length p.1.frames)) lanes 0 (λ k l e.
    ap (λ n. eqb n (length l.frames)) (same_joined f (plain_order lanes) (0 + k) ranks (λ rank. same rank (0 + k)))
    ∙ placed_all (λ (p : ℕ × Lane). eqb (times p.0 (joined (map (plain_order lanes) (below ranks)))) (length p.1.frames)) lanes 0 k l (second_of_both (is_legal ranks lanes (map (plain_order lanes) (below ranks))) _ done) e))

complete_lists : (ranks : ℕ) (lanes : List Lane) (f : ℕ → List ℕ) → AllByRecursion (λ (lane : Lane). lane.rank < ranks) lanes → ((rank k : ℕ) → times k (f rank) ≡ times k (plain_order lanes rank)) → is_complete ranks lanes (map f (below ranks)) ≡ true
complete_lists ranks lanes f known same = complete_by ranks lanes f same (plain_complete ranks lanes known)

-- The schedule of trial is complete.
pub trial_complete : (study : Study) (number : ℕ) → IsStudy study → is_complete study.sizes.ranks (trial_lanes study number) (trial_orders study number) ≡ true
unfolding trial_orders
trial_complete study number ok =
    complete_lists study.sizes.ranks (trial_lanes study number) (trial_order study number)
    (all_so (IsMade study.sizes) (λ (lane : Lane). lane.rank < study.sizes.ranks) (trial_lanes study number) (all_made study number ok) (λ lane made. made.rank))
    (λ rank k. trial_times study number rank k)
