-- A rank's lanes with their events, as the code walks over a tape's lanes.
use Rattle.std.proofs.Common.{◌≡◌, ℕ, zero, suc, ◌+◌, ◌-◌, ◌≤◌, ◌<◌, Bool, cond, ltb, List, [], ◌∷◌, ◌++◌, length, map, take, drop, set, get_or, Some, refl, sym, ◌∙◌, ap, subst, inl, inr, arith, add-one}
use Rattle.std.specs.Global.{Vec}
use Rattle.std.proofs.lemmas.Bool.{cases_Bool, eq-eqb, ne_eqb, lt-ltb, le-ltb, ltb-true}
use Rattle.std.proofs.lemmas.List.{append-nil, map_push, take_at, drop_at}
use Rattle.std.proofs.lemmas.List.Sums.{sum_by-cons}
use Rattle.std.proofs.lemmas.Grind.{flat_map-append}
use Rattle.rand_pcg.specs.Lcg.{Lcg}
use Rattle.mls_model.specs.Numbers.{below, element, times}
use Rattle.mls_model.specs.Studies.{Study}
use Rattle.mls_model.specs.Lanes.{Lane}
use Rattle.mls_tape.proofs.Plain.{turns_from}
use Rattle.mls_tape.specs.Passed.{lists_seen}
use Rattle.mls_design.specs.declared.trial.stock.Stock.{Stock}
use Rattle.mls_design.specs.Trial.{routes, words_before, earlier_lanes, resent_lanes, trial_lanes}
use Rattle.mls_design.specs.TrialSchedule.{stocks, mixed, stock_events, picks, whole_lanes, mixing_from, trial_order, trial_orders}
use Rattle.mls_design.specs.TrialMixing.{rest_by, rests, spent, spend, IsRankOrder}
use Rattle.mls_design.specs.TrialSizes.{HasDrawn}
use Rattle.mls_design.proofs.Counting.{map-below_more}
use Rattle.mls_design.proofs.Elements.{take_element}
use Rattle.mls_design.proofs.TrialMixing.{stock_with}
use Rattle.mls_design.proofs.TrialOrders.{stock_of, stocks_cons, stocks_none, stocks_append, whole_plain}

-- ---- the lanes that have events

rests-append : (xs ys : List Stock) (before : List ℕ) → rests (xs ++ ys) before ≡ rests xs before ++ rests ys before
rests-append xs ys before = flat_map-append (λ (s : Stock). rest_by (times s.lane before) s) xs ys

length_front : {A : Type 0} (xs : List A) (k : ℕ) (x : A) → element xs k ≡ Some x → length (take k xs) ≡ k
length_front [] k x e = absurd cc
length_front (y ∷ xs) zero x e = refl
length_front (y ∷ xs) (suc k) x e = ap suc (length_front xs k x e)

one_stock : (rank k : ℕ) (lane : Lane) → stocks rank k (lane ∷ []) ≡ stock_of rank k lane
one_stock rank k lane = stocks_cons rank k lane [] ∙ ap (λ (ss : List Stock). stock_of rank k lane ++ ss) (stocks_none rank (k + 1)) ∙ append-nil (stock_of rank k lane)

pub stocks_more : (lanes : List Lane) (rank k : ℕ) (lane : Lane) → element lanes k ≡ Some lane → rests (stocks rank 0 (take (k + 1) lanes)) [] ≡ rests (stocks rank 0 (take k lanes)) [] ++ rests (stock_of rank k lane) []
stocks_more lanes rank k lane e =
    let at : 0 + length (take k lanes) ≡ k = omega (arith, length_front lanes k lane e) in
    ap (λ ls. rests (stocks rank 0 ls) []) (take_element lanes k lane e)
    ∙ ap (λ (ss : List Stock). rests ss []) (stocks_append rank 0 (take k lanes) (lane ∷ []) ∙ ap (λ n. stocks rank 0 (take k lanes) ++ stocks rank n (lane ∷ [])) at ∙ ap (λ (ss : List Stock). stocks rank 0 (take k lanes) ++ ss) (one_stock rank k lane))
    ∙ rests-append (stocks rank 0 (take k lanes)) (stock_of rank k lane) []

pub own_stock : (rank k n : ℕ) (lane : Lane) → lane.rank ≡ rank → n ≡ length lane.frames → rests (stock_of rank k lane) [] ≡ rest_by 0 (record { lane = k; events = n })
own_stock rank k n lane own is =
    ap (λ (b : Bool). rests (cond b (record { lane = k; events = length lane.frames } ∷ []) []) []) (eq-eqb lane.rank rank own)
    ∙ append-nil (rest_by 0 (record { lane = k; events = length lane.frames }))
    ∙ ap (λ m. rest_by 0 (record { lane = k; events = m })) (sym is)

pub some_stock : (s : Stock) → 0 < s.events → rest_by 0 s ≡ s ∷ []
some_stock s some =
    let whole : s.events - 0 ≡ s.events = omega arith in
    ap (λ (b : Bool). cond b (stock_with (s.lane) (s.events - 0) ∷ []) []) (lt-ltb 0 s.events some)
    ∙ ap (λ m. stock_with (s.lane) (m) ∷ []) whole

pub none_stock : (s : Stock) → s.events ≤ 0 → rest_by 0 s ≡ []
none_stock s none = ap (λ (b : Bool). cond b (stock_with (s.lane) (s.events - 0) ∷ []) []) (le-ltb 0 s.events none)

pub other_stock : (rank k : ℕ) (lane : Lane) → (lane.rank ≡ rank → ⊥) → rests (stock_of rank k lane) [] ≡ []
other_stock rank k lane other = ap (λ (b : Bool). rests (cond b (record { lane = k; events = length lane.frames } ∷ []) []) []) (ne_eqb lane.rank rank other)

pub no_stocks : (rank : ℕ) (lanes : List Lane) → rests (stocks rank 0 (take 0 lanes)) [] ≡ []
no_stocks rank lanes = ap (λ (ss : List Stock). rests ss []) (stocks_none rank 0)

-- ---- one event less

pub less_at : (place : ℕ) (still : List Stock) (d : Stock) → place < length still → 1 < (get_or still place d).events → set still place (record { lane = (get_or still place d).lane; events = (get_or still place d).events - 1 }) ≡ spend place still
less_at place [] d here more = absurd (omega (arith, here))
less_at zero (s ∷ still) d here more = sym (ap (λ (b : Bool). cond b (stock_with (s.lane) (s.events - 1) ∷ []) [] ++ still) (lt-ltb 1 s.events more))
less_at (suc place) (s ∷ still) d here more = ap (λ (ss : List Stock). s ∷ ss) (less_at place still d (omega (arith, here)) more)

pub gone_at : (place : ℕ) (still : List Stock) (d : Stock) → place < length still → (get_or still place d).events ≤ 1 → take place still ++ drop (suc place) still ≡ spend place still
gone_at place [] d here few = absurd (omega (arith, here))
gone_at zero (s ∷ still) d here few = sym (ap (λ (b : Bool). cond b (stock_with (s.lane) (s.events - 1) ∷ []) [] ++ still) (le-ltb 1 s.events few))
gone_at (suc place) (s ∷ still) d here few = ap (λ (ss : List Stock). s ∷ ss) (gone_at place still d (omega (arith, here)) few)

-- each step makes less
spent_less : (s : Stock) (still : List Stock) → stock_events (spent s ++ still) + length (spent s ++ still) < stock_events (s ∷ still) + length (s ∷ still)
spent_less s still = elim (cases_Bool (ltb 1 s.events)) [
  | inl t ↦
      let more : 1 < s.events = ltb-true _ _ t in
      let now : spent s ++ still ≡ record { lane = s.lane; events = s.events - 1 } ∷ still = ap (λ (b : Bool). cond b (stock_with (s.lane) (s.events - 1) ∷ []) [] ++ still) t in
      omega (arith, ap (λ (ss : List Stock). stock_events ss) now, ap (λ (ss : List Stock). length ss) now, sum_by-cons (λ (q : Stock). q.events) (record { lane = s.lane; events = s.events - 1 }) still, sum_by-cons (λ (q : Stock). q.events) s still, more)
  | inr f ↦
      let now : spent s ++ still ≡ still = ap (λ (b : Bool). cond b (stock_with (s.lane) (s.events - 1) ∷ []) [] ++ still) f in
      omega (arith, ap (λ (ss : List Stock). stock_events ss) now, ap (λ (ss : List Stock). length ss) now, sum_by-cons (λ (q : Stock). q.events) s still)
]

pub spend_less : (place : ℕ) (still : List Stock) → place < length still → stock_events (spend place still) + length (spend place still) < stock_events still + length still
spend_less place [] here = absurd (omega (arith, here))
spend_less zero (s ∷ still) here = spent_less s still
spend_less (suc place) (s ∷ still) here =
    omega (arith, spend_less place still (omega (arith, here)), sum_by-cons (λ (q : Stock). q.events) s (spend place still), sum_by-cons (λ (q : Stock). q.events) s still)

-- ---- whole lanes

pub turns_are : (rank from : ℕ) (lanes : List Lane) → turns_from rank from lanes ≡ whole_lanes (stocks rank from lanes)
turns_are rank from lanes = sym (whole_plain rank from lanes)

-- ---- the lists of the ranks

early_front : (study : Study) (number : ℕ) → take (length (earlier_lanes study number)) (trial_lanes study number) ≡ earlier_lanes study number
unfolding trial_lanes
early_front study number = take_at (earlier_lanes study number) (resent_lanes study) (length (earlier_lanes study number)) refl

late_back : (study : Study) (number : ℕ) → drop (length (earlier_lanes study number)) (trial_lanes study number) ≡ resent_lanes study
unfolding trial_lanes
late_back study number = drop_at (earlier_lanes study number) (resent_lanes study) (length (earlier_lanes study number)) refl

order_of : (study : Study) (number rank : ℕ) (order : List ℕ) → order ≡ mixed number (mixing_from study number rank) (stocks rank 0 (earlier_lanes study number)) (stock_events (stocks rank 0 (earlier_lanes study number))) ++ whole_lanes (stocks rank (length (earlier_lanes study number)) (resent_lanes study)) → order ≡ trial_order study number rank
unfolding trial_order
order_of study number rank order is = is

pub from_more : (study : Study) (number rank : ℕ) → mixing_from study number (rank + 1) ≡ mixing_from study number rank + picks number (mixing_from study number rank) (stocks rank 0 (earlier_lanes study number))
unfolding mixing_from
from_more study number rank = ap (mixing_from study number) (add-one rank)

pub is_trial_order : (study : Study) (number rank earlier : ℕ) (lanes : List Lane) (order : List ℕ) (g : Lcg) → lanes ≡ trial_lanes study number → earlier ≡ length (earlier_lanes study number) → IsRankOrder number (mixing_from study number rank) rank earlier lanes order g → (order ≡ trial_order study number rank) × HasDrawn number (mixing_from study number (rank + 1)) g
is_trial_order study number rank earlier lanes order g are is made =
    let at : ℕ = mixing_from study number rank in
    let front : take earlier lanes ≡ earlier_lanes study number = ap (λ n. take n lanes) is ∙ ap (take (length (earlier_lanes study number))) are ∙ early_front study number in
    let back : drop earlier lanes ≡ resent_lanes study = ap (λ n. drop n lanes) is ∙ ap (drop (length (earlier_lanes study number))) are ∙ late_back study number in
    let whole : order ≡ mixed number at (stocks rank 0 (earlier_lanes study number)) (stock_events (stocks rank 0 (earlier_lanes study number))) ++ whole_lanes (stocks rank (length (earlier_lanes study number)) (resent_lanes study)) =
    made.order_is
    ∙ ap (λ ls. mixed number at (stocks rank 0 ls) (stock_events (stocks rank 0 ls)) ++ whole_lanes (stocks rank earlier (drop earlier lanes))) front
    ∙ ap (λ ls. mixed number at (stocks rank 0 (earlier_lanes study number)) (stock_events (stocks rank 0 (earlier_lanes study number))) ++ whole_lanes (stocks rank earlier ls)) back
    ∙ ap (λ n. mixed number at (stocks rank 0 (earlier_lanes study number)) (stock_events (stocks rank 0 (earlier_lanes study number))) ++ whole_lanes (stocks rank n (resent_lanes study))) is in (
      order_of study number rank order whole,
      subst (λ n. HasDrawn number n g) (ap (λ ls. at + picks number at (stocks rank 0 ls)) front ∙ sym (from_more study number rank)) made.drawn,
    )

pub lists_more : (f : ℕ → List ℕ) (n : ℕ) (lists after : List (Vec ℕ)) (v : Vec ℕ) → lists_seen lists ≡ map f (below n) → after ≡ lists ++ v ∷ [] → v.items ≡ f n → lists_seen after ≡ map f (below (n + 1))
lists_more f n lists after v so_far pushed is =
    ap (λ (vs : List (Vec ℕ)). lists_seen vs) pushed ∙ map_push (λ (w : Vec ℕ). w.items) lists v
    ∙ ap (λ ls. ls ++ v.items ∷ []) so_far ∙ ap (λ o. map f (below n) ++ o ∷ []) is ∙ sym (map-below_more f n)

pub from_none : (study : Study) (number : ℕ) → mixing_from study number 0 ≡ words_before study number (routes study.sizes)
unfolding mixing_from
from_none study number = refl

pub are_orders : (study : Study) (number : ℕ) → map (trial_order study number) (below study.sizes.ranks) ≡ trial_orders study number
unfolding trial_orders
are_orders study number = refl
