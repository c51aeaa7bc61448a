-- What is left of a rank's lanes while they are mixed.
use Rattle.std.proofs.Common.{◌≡◌, ℕ, zero, suc, ◌+◌, ◌-◌, ◌%◌, ◌≤◌, ◌<◌, Bool, true, false, cond, ltb, leb, eqb, List, [], ◌∷◌, ◌++◌, length, map, replicate, get_or, refl, sym, ◌∙◌, ap, subst, inl, inr, arith, add-one, append_assoc, length-append, mod-lt}
use Rattle.std.specs.List.{filter, AllByRecursion}
use Rattle.std.proofs.lemmas.Bool.{cases_Bool, cases_lt, ltb-true, ltb-false, lt-ltb, le-leb, eq-eqb, ne_eqb}
use Rattle.std.proofs.lemmas.Bool.Decides.{nat_tests}
use Rattle.std.proofs.lemmas.List.{append-nil, length-map, get_or-map, replicate_more}
use Rattle.std.proofs.lemmas.List.Sums.{sum_by-cons}
use Rattle.rand_pcg.specs.Lcg.{Lcg}
use Rattle.mls_model.specs.Numbers.{below, times}
use Rattle.mls_model.specs.Designs.{word}
use Rattle.mls_tape.proofs.Complete.{times-append}
use Rattle.mls_design.specs.declared.trial.stock.Stock.{Stock}
use Rattle.mls_design.specs.TrialSchedule.{left, picked, mixed, stock_events, picks, whole_lanes}
use Rattle.mls_design.specs.TrialSizes.{HasDrawn}
use Rattle.mls_design.specs.TrialMixing.{rest_by, rests, spent, spend, Rise, IsMixing, IsMixed}

-- ---- how often a lane stands

times_one : (k x : ℕ) → (x ≡ k → ⊥) → times k (x ∷ []) ≡ 0
times_one k x ne = ap (λ (b : Bool). cond b 1 0) (ne_eqb x k ne)

times_self : (k : ℕ) → times k (k ∷ []) ≡ 1
times_self k = ap (λ (b : Bool). cond b 1 0) (eq-eqb k k refl)

times_other : (k x : ℕ) (before : List ℕ) → (x ≡ k → ⊥) → times k (before ++ x ∷ []) ≡ times k before
times_other k x before ne = omega (arith, times-append k before (x ∷ []), times_one k x ne)

times_own : (k : ℕ) (before : List ℕ) → times k (before ++ k ∷ []) ≡ times k before + 1
times_own k before = omega (arith, times-append k before (k ∷ []), times_self k)

-- ---- what is left of one lane

abbrev pub stock_with : ℕ → ℕ → Stock
stock_with lane events = record { lane = lane; events = events }

abbrev with_left : Stock → ℕ → Stock
with_left s n = record { lane = s.lane; events = s.events - n }

rest_none : (n : ℕ) (s : Stock) → ltb n s.events ≡ false → rest_by n s ≡ []
rest_none n s e = ap (λ (b : Bool). cond b (with_left s n ∷ []) []) e

rest_some : (n : ℕ) (s : Stock) → ltb n s.events ≡ true → rest_by n s ≡ with_left s n ∷ []
rest_some n s e = ap (λ (b : Bool). cond b (with_left s n ∷ []) []) e

one_less : (n e : ℕ) → n < e → ltb 1 (e - n) ≡ ltb (n + 1) e
one_less n e h = grind (arith, nat_tests)

spent_rest : (n : ℕ) (s : Stock) → n < s.events → spent (with_left s n) ≡ rest_by (n + 1) s
spent_rest n s h =
    let less : (s.events - n) - 1 ≡ s.events - (n + 1) = omega arith in
    ap (λ m. cond (ltb 1 (s.events - n)) (stock_with (s.lane) (m) ∷ []) []) less
    ∙ ap (λ (b : Bool). cond b (with_left s (n + 1) ∷ []) []) (one_less n s.events h)

-- ---- what is left of all

none_of : (s : Stock) (all : List Stock) (before : List ℕ) → ltb (times s.lane before) s.events ≡ false → rests (s ∷ all) before ≡ rests all before
none_of s all before e = ap (λ r. r ++ rests all before) (rest_none (times s.lane before) s e)

some_of : (s : Stock) (all : List Stock) (before : List ℕ) → ltb (times s.lane before) s.events ≡ true → rests (s ∷ all) before ≡ with_left s (times s.lane before) ∷ rests all before
some_of s all before e = ap (λ r. r ++ rests all before) (rest_some (times s.lane before) s e)

same_rests : (all : List Stock) (before : List ℕ) (k : ℕ) → AllByRecursion (λ (t : Stock). k < t.lane) all → rests all (before ++ k ∷ []) ≡ rests all before
same_rests [] before k above = refl
same_rests (s ∷ all) before k above =
    ap (λ n. rest_by n s ++ rests all (before ++ k ∷ [])) (times_other s.lane k before (λ e. absurd (omega (arith, e, above.0))))
    ∙ ap (λ r. rest_by (times s.lane before) s ++ r) (same_rests all before k above.1)

above_cons : (m : ℕ) (r : Stock) (rs : List Stock) (i : ℕ) (d : Stock) → m < r.lane → ((j : ℕ) → j < length rs → m < (get_or rs j d).lane) → i < length (r ∷ rs) → m < (get_or (r ∷ rs) i d).lane
above_cons m r rs zero d h each here = h
above_cons m r rs (suc i) d h each here = each i (omega (arith, here))

lane_above : (m : ℕ) (all : List Stock) (before : List ℕ) (i : ℕ) (d : Stock) → AllByRecursion (λ (t : Stock). m < t.lane) all → i < length (rests all before) → m < (get_or (rests all before) i d).lane
lane_above m [] before i d above here = absurd (omega (arith, here))
lane_above m (s ∷ all) before i d above here = elim (cases_Bool (ltb (times s.lane before) s.events)) [
  | inl t ↦
      subst (λ xs. i < length xs → m < (get_or xs i d).lane) (sym (some_of s all before t))
      (above_cons m (with_left s (times s.lane before)) (rests all before) i d above.0 (λ j h. lane_above m all before j d above.1 h)) here
  | inr f ↦
      subst (λ xs. i < length xs → m < (get_or xs i d).lane) (sym (none_of s all before f))
      (λ h. lane_above m all before i d above.1 h) here
]

spend_cons : (s : Stock) (all : List Stock) (before : List ℕ) (i : ℕ) (d : Stock) → Rise (s ∷ all) → ltb (times s.lane before) s.events ≡ true
    → ((j : ℕ) → j < length (rests all before) → rests all (before ++ (get_or (rests all before) j d).lane ∷ []) ≡ spend j (rests all before))
    → i < length (with_left s (times s.lane before) ∷ rests all before)
    → rests (s ∷ all) (before ++ (get_or (with_left s (times s.lane before) ∷ rests all before) i d).lane ∷ []) ≡ spend i (with_left s (times s.lane before) ∷ rests all before)
spend_cons s all before zero d rise t later here =
    let n : ℕ = times s.lane before in
    ap (λ m. rest_by m s ++ rests all (before ++ s.lane ∷ [])) (times_own s.lane before)
    ∙ ap (λ r. r ++ rests all (before ++ s.lane ∷ [])) (sym (spent_rest n s (ltb-true _ _ t)))
    ∙ ap (λ r. spent (with_left s n) ++ r) (same_rests all before s.lane rise.0)
spend_cons s all before (suc j) d rise t later here =
    let n : ℕ = times s.lane before in
    let k : ℕ = (get_or (rests all before) j d).lane in
    let up : s.lane < k = lane_above s.lane all before j d rise.0 (omega (arith, here)) in
    ap (λ m. rest_by m s ++ rests all (before ++ k ∷ [])) (times_other s.lane k before (λ e. absurd (omega (arith, e, up))))
    ∙ ap (λ r. r ++ rests all (before ++ k ∷ [])) (rest_some n s t)
    ∙ ap (λ r. with_left s n ∷ r) (later j (omega (arith, here)))

spend_past : (s : Stock) (all : List Stock) (before : List ℕ) (i : ℕ) (d : Stock) → Rise (s ∷ all) → ltb (times s.lane before) s.events ≡ false
    → ((j : ℕ) → j < length (rests all before) → rests all (before ++ (get_or (rests all before) j d).lane ∷ []) ≡ spend j (rests all before))
    → i < length (rests all before)
    → rests (s ∷ all) (before ++ (get_or (rests all before) i d).lane ∷ []) ≡ spend i (rests all before)
spend_past s all before i d rise f later here =
    let k : ℕ = (get_or (rests all before) i d).lane in
    let up : s.lane < k = lane_above s.lane all before i d rise.0 here in
    ap (λ m. rest_by m s ++ rests all (before ++ k ∷ [])) (times_other s.lane k before (λ e. absurd (omega (arith, e, up))))
    ∙ ap (λ r. r ++ rests all (before ++ k ∷ [])) (rest_none (times s.lane before) s f)
    ∙ later i here

-- a lane that has events left stands once more: it has one event less
pub one_spent : (all : List Stock) (before : List ℕ) (i : ℕ) (d : Stock) → Rise all → i < length (rests all before) → rests all (before ++ (get_or (rests all before) i d).lane ∷ []) ≡ spend i (rests all before)
one_spent [] before i d rise here = absurd (omega (arith, here))
one_spent (s ∷ all) before i d rise here = elim (cases_Bool (ltb (times s.lane before) s.events)) [
  | inl t ↦
      subst (λ xs. i < length xs → rests (s ∷ all) (before ++ (get_or xs i d).lane ∷ []) ≡ spend i xs) (sym (some_of s all before t))
      (λ h. spend_cons s all before i d rise t (λ j g. one_spent all before j d rise.1 g) h) here
  | inr f ↦
      subst (λ xs. i < length xs → rests (s ∷ all) (before ++ (get_or xs i d).lane ∷ []) ≡ spend i xs) (sym (none_of s all before f))
      (λ h. spend_past s all before i d rise f (λ j g. one_spent all before j d rise.1 g) h) here
]

-- ---- each has some

abbrev pub HasSome : Stock → Type 0
HasSome s = 0 < s.events

pub rests_some : (all : List Stock) (before : List ℕ) → AllByRecursion HasSome (rests all before)
rests_some [] before = tt
rests_some (s ∷ all) before = elim (cases_Bool (ltb (times s.lane before) s.events)) [
  | inl t ↦ subst (AllByRecursion HasSome) (sym (some_of s all before t)) (let more : times s.lane before < s.events = ltb-true _ _ t in omega arith, rests_some all before)
  | inr f ↦ subst (AllByRecursion HasSome) (sym (none_of s all before f)) (rests_some all before)
]

spent_total : (s : Stock) (rest : List Stock) → 0 < s.events → stock_events (spent s ++ rest) + 1 ≡ s.events + stock_events rest
spent_total s rest h = elim (cases_Bool (ltb 1 s.events)) [
  | inl t ↦
      let more : 1 < s.events = ltb-true _ _ t in
      let here : stock_events (spent s ++ rest) ≡ (s.events - 1) + stock_events rest =
      ap (λ (b : Bool). stock_events (cond b (with_left s 1 ∷ []) [] ++ rest)) t ∙ sum_by-cons (λ (q : Stock). q.events) (with_left s 1) rest in
      omega (arith, more, here)
  | inr f ↦
      let few : s.events ≤ 1 = ltb-false _ _ f in
      let here : stock_events (spent s ++ rest) ≡ stock_events rest = ap (λ (b : Bool). stock_events (cond b (with_left s 1 ∷ []) [] ++ rest)) f in
      omega (arith, few, h, here)
]

spend_total : (i : ℕ) (ss : List Stock) → AllByRecursion HasSome ss → i < length ss → stock_events (spend i ss) + 1 ≡ stock_events ss
spend_total i [] some here = absurd (omega (arith, here))
spend_total zero (s ∷ ss) some here = spent_total s ss some.0 ∙ sym (sum_by-cons (λ (q : Stock). q.events) s ss)
spend_total (suc i) (s ∷ ss) some here =
    omega (arith, spend_total i ss some.1 (omega (arith, here)), sum_by-cons (λ (q : Stock). q.events) s (spend i ss), sum_by-cons (λ (q : Stock). q.events) s ss)

rest_start : (s : Stock) (rest : List Stock) → stock_events (rest_by 0 s ++ rest) ≡ s.events + stock_events rest
rest_start s rest = elim (cases_Bool (ltb 0 s.events)) [
  | inl t ↦ ap (λ r. stock_events (r ++ rest)) (rest_some 0 s t) ∙ sum_by-cons (λ (q : Stock). q.events) (with_left s 0) rest ∙ omega arith
  | inr f ↦
      let few : s.events ≤ 0 = ltb-false _ _ f in
      ap (λ r. stock_events (r ++ rest)) (rest_none 0 s f) ∙ omega (arith, few)
]

start_total : (all : List Stock) → stock_events (rests all []) ≡ stock_events all
start_total [] = refl
start_total (s ∷ all) = omega (arith, rest_start s (rests all []), start_total all, sum_by-cons (λ (q : Stock). q.events) s all)

-- ---- what is picked

by_test : (b : Bool) (l e : ℕ) (xs : List ℕ) (rs : List Stock) → xs ≡ map (λ (s : Stock). s.lane) rs → cond b (l ∷ []) [] ++ xs ≡ map (λ (s : Stock). s.lane) (cond b (stock_with (l) (e) ∷ []) [] ++ rs)
by_test true l e xs rs is = ap (λ ys. l ∷ ys) is
by_test false l e xs rs is = is

left_is : (all : List Stock) (before : List ℕ) → left all before ≡ map (λ (s : Stock). s.lane) (rests all before)
unfolding left
left_is [] before = refl
left_is (s ∷ all) before = by_test (ltb (times s.lane before) s.events) s.lane (s.events - times s.lane before) _ (rests all before) (left_is all before)

pub length_left : (all : List Stock) (before : List ℕ) → length (left all before) ≡ length (rests all before)
length_left all before = ap length (left_is all before) ∙ length-map (rests all before) (λ (s : Stock). s.lane)

picked_is : (w : ℕ) (all : List Stock) (before : List ℕ) (d : Stock) → 0 < length (rests all before) → picked w (left all before) ≡ (get_or (rests all before) (w % length (rests all before)) d).lane
picked_is w all before d some =
    let r : List Stock = rests all before in
    ap (picked w) (left_is all before)
    ∙ ap (λ n. get_or (map (λ (s : Stock). s.lane) r) (w % n) 0) (length-map r (λ (s : Stock). s.lane))
    ∙ get_or-map (λ (s : Stock). s.lane) r (w % length r) d 0 (mod-lt w some)

pub mixed_more : (number at : ℕ) (all : List Stock) (n : ℕ) → mixed number at all (n + 1) ≡ mixed number at all n ++ picked (word number (at + n)) (left all (mixed number at all n)) ∷ []
unfolding mixed
mixed_more number at all n = ap (mixed number at all) (add-one n)

pub mixed_none : (number at : ℕ) (all : List Stock) → mixed number at all 0 ≡ []
unfolding mixed
mixed_none number at all = refl

abbrev nobody : Stock
nobody = record { lane = 0; events = 0 }

-- the place that is picked after n events
abbrev place_at : ℕ → ℕ → List Stock → ℕ → ℕ
place_at number at all n = word number (at + n) % length (rests all (mixed number at all n))

mixed_lane : (number at : ℕ) (all : List Stock) (n : ℕ) → 0 < length (rests all (mixed number at all n)) → mixed number at all (n + 1) ≡ mixed number at all n ++ (get_or (rests all (mixed number at all n)) (place_at number at all n) nobody).lane ∷ []
mixed_lane number at all n some = mixed_more number at all n ∙ ap (λ k. mixed number at all n ++ k ∷ []) (picked_is (word number (at + n)) all (mixed number at all n) nobody some)

mixed_rests : (number at : ℕ) (all : List Stock) (n : ℕ) → Rise all → 0 < length (rests all (mixed number at all n)) → rests all (mixed number at all (n + 1)) ≡ spend (place_at number at all n) (rests all (mixed number at all n))
mixed_rests number at all n rise some =
    ap (rests all) (mixed_lane number at all n some) ∙ one_spent all (mixed number at all n) (place_at number at all n) nobody rise (mod-lt (word number (at + n)) some)

-- ---- all events are taken

total_while : (number at : ℕ) (all : List Stock) (n : ℕ) → Rise all → ((m : ℕ) → m < n → 0 < length (rests all (mixed number at all m))) → stock_events (rests all (mixed number at all n)) + n ≡ stock_events all
total_while number at all zero rise each = omega (arith, ap (λ o. stock_events (rests all o)) (mixed_none number at all), start_total all)
total_while number at all (suc n) rise each =
    let some = each n (omega arith) in
    let r : List Stock = rests all (mixed number at all n) in
    let place : ℕ = place_at number at all n in
    let same : suc n ≡ n + 1 = omega arith in
    let step = spend_total place r (rests_some all (mixed number at all n)) (mod-lt (word number (at + n)) some) in
    let now : stock_events (rests all (mixed number at all (suc n))) ≡ stock_events (spend place r) =
    ap (λ m. stock_events (rests all (mixed number at all m))) same ∙ ap (λ (ss : List Stock). stock_events ss) (mixed_rests number at all n rise some) in
    omega (arith, now, step, total_while number at all n rise (λ m h. each m (omega (arith, h))))

none_total : (ss : List Stock) → 0 < stock_events ss → 0 < length ss
none_total [] h = absurd (omega (arith, h))
none_total (s ∷ ss) h = omega arith

pub some_left : (number at : ℕ) (all : List Stock) (n : ℕ) → Rise all → n ≤ stock_events all → (m : ℕ) → m < n → 0 < length (rests all (mixed number at all m))
some_left number at all zero rise few m h = absurd (omega (arith, h))
some_left number at all (suc n) rise few m h = elim (cases_lt m n) [
  | inl small ↦ some_left number at all n rise (omega (arith, few)) m small
  | inr large ↦
      let same : n ≡ m = omega (arith, h, large) in
      let total = total_while number at all n rise (some_left number at all n rise (omega (arith, few))) in
      subst (λ k. 0 < length (rests all (mixed number at all k))) same (none_total (rests all (mixed number at all n)) (omega (arith, total, few)))
]

no_events : (ss : List Stock) → AllByRecursion HasSome ss → stock_events ss ≡ 0 → ss ≡ []
no_events [] some none = refl
no_events (s ∷ ss) some none = absurd (omega (arith, sum_by-cons (λ (q : Stock). q.events) s ss, some.0, none))

pub none_left : (number at : ℕ) (all : List Stock) → Rise all → rests all (mixed number at all (stock_events all)) ≡ []
none_left number at all rise =
    let e : ℕ = stock_events all in
    no_events (rests all (mixed number at all e)) (rests_some all (mixed number at all e)) (omega (arith, total_while number at all e rise (some_left number at all e rise (omega arith))))

-- ---- each lane stands as often as it has events

abbrev one_if : ℕ → ℕ → ℕ
one_if k x = cond (eqb x k) 1 0

times_push : (k x : ℕ) (before : List ℕ) → times k (before ++ x ∷ []) ≡ times k before + one_if k x
times_push k x before = times-append k before (x ∷ [])

times_repeated : (k x n : ℕ) → times k (replicate (n + 1) x) ≡ times k (replicate n x) + one_if k x
times_repeated k x n = ap (times k) (sym (replicate_more n x)) ∙ times_push k x (replicate n x)

whole_cons : (s : Stock) (ss : List Stock) → whole_lanes (s ∷ ss) ≡ replicate s.events s.lane ++ whole_lanes ss
unfolding whole_lanes
whole_cons s ss = refl

times_whole : (k : ℕ) (s : Stock) (ss : List Stock) → times k (whole_lanes (s ∷ ss)) ≡ times k (replicate s.events s.lane) + times k (whole_lanes ss)
times_whole k s ss = ap (times k) (whole_cons s ss) ∙ times-append k (replicate s.events s.lane) (whole_lanes ss)

spent_times : (k : ℕ) (s : Stock) (ss : List Stock) → 0 < s.events → times k (whole_lanes (spent s ++ ss)) + one_if k s.lane ≡ times k (whole_lanes (s ∷ ss))
spent_times k s ss h =
    let less : (s.events - 1) + 1 ≡ s.events = omega (arith, h) in
    let one : times k (replicate s.events s.lane) ≡ times k (replicate (s.events - 1) s.lane) + one_if k s.lane = ap (λ m. times k (replicate m s.lane)) (sym less) ∙ times_repeated k s.lane (s.events - 1) in
    elim (cases_Bool (ltb 1 s.events)) [
      | inl t ↦
          let here : times k (whole_lanes (spent s ++ ss)) ≡ times k (replicate (s.events - 1) s.lane) + times k (whole_lanes ss) =
          ap (λ (b : Bool). times k (whole_lanes (cond b (with_left s 1 ∷ []) [] ++ ss))) t ∙ times_whole k (with_left s 1) ss in
          omega (arith, here, one, times_whole k s ss)
      | inr f ↦
          let few : s.events ≤ 1 = ltb-false _ _ f in
          let none : s.events - 1 ≡ 0 = omega (arith, few) in
          let nothing : times k (replicate (s.events - 1) s.lane) ≡ 0 = ap (λ m. times k (replicate m s.lane)) none in
          let here : times k (whole_lanes (spent s ++ ss)) ≡ times k (whole_lanes ss) = ap (λ (b : Bool). times k (whole_lanes (cond b (with_left s 1 ∷ []) [] ++ ss))) f in
          omega (arith, here, one, nothing, times_whole k s ss)
    ]

spend_times : (k i : ℕ) (ss : List Stock) (d : Stock) → AllByRecursion HasSome ss → i < length ss → times k (whole_lanes (spend i ss)) + one_if k (get_or ss i d).lane ≡ times k (whole_lanes ss)
spend_times k i [] d some here = absurd (omega (arith, here))
spend_times k zero (s ∷ ss) d some here = spent_times k s ss some.0
spend_times k (suc i) (s ∷ ss) d some here =
    omega (arith, spend_times k i ss d some.1 (omega (arith, here)), times_whole k s (spend i ss), times_whole k s ss)

start_times : (k : ℕ) (all : List Stock) → times k (whole_lanes (rests all [])) ≡ times k (whole_lanes all)
start_times k [] = refl
start_times k (s ∷ all) = elim (cases_Bool (ltb 0 s.events)) [
  | inl t ↦
      let same : s.events - 0 ≡ s.events = omega arith in
      ap (λ (ss : List Stock). times k (whole_lanes ss)) (some_of s all [] t) ∙ times_whole k (with_left s 0) (rests all [])
      ∙ ap (λ m. times k (replicate m s.lane) + times k (whole_lanes (rests all []))) same
      ∙ ap (λ m. times k (replicate s.events s.lane) + m) (start_times k all) ∙ sym (times_whole k s all)
  | inr f ↦
      let few : s.events ≤ 0 = ltb-false _ _ f in
      let none : s.events ≡ 0 = omega (arith, few) in
      let nothing : times k (replicate s.events s.lane) ≡ 0 = ap (λ m. times k (replicate m s.lane)) none in
      ap (λ (ss : List Stock). times k (whole_lanes ss)) (none_of s all [] f) ∙ start_times k all ∙ omega (arith, nothing, times_whole k s all)
]

times_while : (number at k : ℕ) (all : List Stock) (n : ℕ) → Rise all → n ≤ stock_events all → times k (mixed number at all n) + times k (whole_lanes (rests all (mixed number at all n))) ≡ times k (whole_lanes all)
times_while number at k all zero rise few =
    let none = mixed_none number at all in
    omega (arith, ap (times k) none, ap (λ o. times k (whole_lanes (rests all o))) none, start_times k all)
times_while number at k all (suc n) rise few =
    let some = some_left number at all (suc n) rise few n (omega arith) in
    let before : List ℕ = mixed number at all n in
    let r : List Stock = rests all before in
    let place : ℕ = place_at number at all n in
    let lane : ℕ = (get_or r place nobody).lane in
    let same : suc n ≡ n + 1 = omega arith in
    let order : mixed number at all (suc n) ≡ before ++ lane ∷ [] = ap (mixed number at all) same ∙ mixed_lane number at all n some in
    let now : rests all (mixed number at all (suc n)) ≡ spend place r = ap (λ m. rests all (mixed number at all m)) same ∙ mixed_rests number at all n rise some in
    let step = spend_times k place r nobody (rests_some all before) (mod-lt (word number (at + n)) some) in
    omega (arith, ap (times k) order, times_push k lane before, ap (λ (ss : List Stock). times k (whole_lanes ss)) now, step, times_while number at k all n rise (omega (arith, few)))

no_whole : (k : ℕ) → times k (whole_lanes []) ≡ 0
unfolding whole_lanes
no_whole k = refl

pub mixed_times : (number at k : ℕ) (all : List Stock) → Rise all → times k (mixed number at all (stock_events all)) ≡ times k (whole_lanes all)
mixed_times number at k all rise =
    let e : ℕ = stock_events all in
    omega (arith, times_while number at k all e rise (omega arith), ap (λ (ss : List Stock). times k (whole_lanes ss)) (none_left number at all rise), no_whole k)

-- ---- the picks in the code

pub starts_mixing : (number at : ℕ) (all still : List Stock) (g : Lcg) → still ≡ rests all [] → HasDrawn number at g → IsMixing number at all [] still g
starts_mixing number at all still g is h = record {
  mixing = sym (mixed_none number at all);
  rest = is;
  choices = λ m few. absurd (omega (arith, few));
  drawn = let same : at ≡ at + 0 = omega arith in subst (λ m. HasDrawn number m g) same h;
}

pub mixes_more : (number at : ℕ) (all : List Stock) (order : List ℕ) (still : List Stock) (g next : Lcg) (w place lane : ℕ) (after : List ℕ) (behind : List Stock) (d : Stock) → Rise all → IsMixing number at all order still g → 2 ≤ length still → w ≡ word number (at + length order) → HasDrawn number ((at + length order) + 1) next → place ≡ w % length still → lane ≡ (get_or still place d).lane → after ≡ order ++ lane ∷ [] → behind ≡ spend place still → IsMixing number at all after behind next
mixes_more number at all order still g next w place lane after behind d rise is two drew h at_place is_lane pushed spent_one =
    let n : ℕ = length order in
    let r : List Stock = rests all order in
    let long : length after ≡ n + 1 = ap length pushed ∙ length-append order (lane ∷ []) in
    let some : 0 < length r = omega (arith, two, ap length is.rest) in
    let here : place ≡ w % length r = at_place ∙ ap (λ (ss : List Stock). w % length ss) is.rest in
    let own : lane ≡ (get_or r (w % length r) d).lane = is_lane ∙ ap (λ (ss : List Stock). (get_or ss place d).lane) is.rest ∙ ap (λ p. (get_or r p d).lane) here in
    let pick : lane ≡ picked (word number (at + n)) (left all (mixed number at all n)) = own ∙ sym (picked_is w all order d some) ∙ ap (λ v. picked v (left all order)) drew ∙ ap (λ o. picked (word number (at + n)) (left all o)) is.mixing in
    let words : (at + n) + 1 ≡ at + length after = omega (arith, long) in
    record {
      mixing = pushed ∙ ap (λ o. o ++ lane ∷ []) is.mixing ∙ ap (λ k. mixed number at all n ++ k ∷ []) pick ∙ sym (mixed_more number at all n) ∙ ap (mixed number at all) (sym long);
      rest = spent_one ∙ ap (λ (ss : List Stock). spend place ss) is.rest ∙ ap (λ p. spend p r) here ∙ sym (one_spent all order (w % length r) d rise (mod-lt w some)) ∙ ap (λ k. rests all (order ++ k ∷ [])) (sym own) ∙ ap (rests all) (sym pushed);
      choices = λ m few. elim (cases_lt m n) [
        | inl small ↦ is.choices m small
        | inr large ↦
            let same : n ≡ m = omega (arith, few, long, large) in
            subst (λ k. 2 ≤ length (rests all (mixed number at all k))) same (omega (arith, two, ap length is.rest, ap (λ o. length (rests all o)) is.mixing))
      ];
      drawn = subst (λ m. HasDrawn number m next) words h;
    }

-- ---- the number of picks

fewer_rest : (n m : ℕ) (s : Stock) → n ≤ m → length (rest_by m s) ≤ length (rest_by n s)
fewer_rest n m s h = elim (cases_Bool (ltb m s.events)) [
  | inl t ↦
      let more : m < s.events = ltb-true _ _ t in
      omega (arith, ap length (rest_some m s t), ap length (rest_some n s (lt-ltb n s.events (omega (arith, more, h)))))
  | inr f ↦ omega (arith, ap length (rest_none m s f))
]

fewer : (all : List Stock) (before : List ℕ) (k : ℕ) → length (rests all (before ++ k ∷ [])) ≤ length (rests all before)
fewer [] before k = omega arith
fewer (s ∷ all) before k =
    omega (arith, fewer all before k, fewer_rest (times s.lane before) (times s.lane (before ++ k ∷ [])) s (omega (arith, times-append s.lane before (k ∷ []))), length-append (rest_by (times s.lane before) s) (rests all before), length-append (rest_by (times s.lane (before ++ k ∷ [])) s) (rests all (before ++ k ∷ [])))

never_rises : (number at : ℕ) (all : List Stock) (n j : ℕ) → length (rests all (mixed number at all (n + j))) ≤ length (rests all (mixed number at all n))
never_rises number at all n zero =
    let same : n + 0 ≡ n = omega arith in omega (arith, ap (λ m. length (rests all (mixed number at all m))) same)
never_rises number at all n (suc j) =
    let same : n + suc j ≡ (n + j) + 1 = omega arith in
    let before : List ℕ = mixed number at all (n + j) in
    omega (arith, ap (λ m. length (rests all (mixed number at all m))) same, ap (λ o. length (rests all o)) (mixed_more number at all (n + j)), fewer all before (picked (word number (at + (n + j))) (left all before)), never_rises number at all n j)

count_push : (p : ℕ → Bool) (xs : List ℕ) (x : ℕ) → length (filter p (xs ++ x ∷ [])) ≡ length (filter p xs) + cond (p x) 1 0
count_push p [] x = elim (cases_Bool (p x)) [
  | inl t ↦ rw t refl
  | inr f ↦ rw f refl
]
count_push p (y ∷ xs) x = elim (cases_Bool (p y)) [
  | inl t ↦ rw t (omega (arith, count_push p xs x))
  | inr f ↦ rw f (count_push p xs x)
]

counted_to : (p : ℕ → Bool) (n e : ℕ) → n ≤ e → ((m : ℕ) → m < n → p m ≡ true) → ((m : ℕ) → n ≤ m → m < e → p m ≡ false) → length (filter p (below e)) ≡ n
counted_to p n zero few yes_below no_above = omega (arith, few)
counted_to p n (suc e) few yes_below no_above = elim (cases_lt e n) [
  | inl all ↦
      let top = counted_to p e e (omega arith) (λ m h. yes_below m (omega (arith, h, all))) (λ m a b. absurd (omega (arith, a, b))) in
      omega (arith, count_push p (below e) e, top, ap {B = ℕ} (λ (b : Bool). cond b 1 0) (yes_below e all), few, all)
  | inr past ↦
      let top = counted_to p n e past yes_below (λ m a b. no_above m a (omega (arith, b))) in
      omega (arith, count_push p (below e) e, top, ap {B = ℕ} (λ (b : Bool). cond b 1 0) (no_above e past (omega arith)))
]

picks_are : (number at : ℕ) (all : List Stock) (n : ℕ) → n ≤ stock_events all → ((m : ℕ) → m < n → 2 ≤ length (rests all (mixed number at all m))) → length (rests all (mixed number at all n)) ≤ 1 → picks number at all ≡ n
unfolding picks
picks_are number at all n few two one =
    counted_to (λ m. leb 2 (length (left all (mixed number at all m)))) n (stock_events all) few
    (λ m h. le-leb 2 _ (omega (arith, two m h, length_left all (mixed number at all m))))
    (λ m a b. below_two (length (left all (mixed number at all m))) (
    let same : n + (m - n) ≡ m = omega (arith, a) in
    omega (arith, length_left all (mixed number at all m), ap (λ k. length (rests all (mixed number at all k))) same, never_rises number at all n (m - n), one)))
  where
    below_two : (k : ℕ) → k ≤ 1 → leb 2 k ≡ false
    below_two k h = grind (arith, nat_tests)

-- ---- the end

some_while : (number at : ℕ) (all : List Stock) (order : List ℕ) (still : List Stock) (g : Lcg) → IsMixing number at all order still g → (m : ℕ) → m < length order → 0 < length (rests all (mixed number at all m))
some_while number at all order still g is m h = omega (arith, is.choices m h)

taken : (number at : ℕ) (all : List Stock) (order : List ℕ) (still : List Stock) (g : Lcg) → Rise all → IsMixing number at all order still g → stock_events still + length order ≡ stock_events all
taken number at all order still g rise is =
    omega (arith, total_while number at all (length order) rise (some_while number at all order still g is), ap (λ o. stock_events (rests all o)) is.mixing, ap (λ (ss : List Stock). stock_events ss) is.rest)

drawn_all : (number at : ℕ) (all : List Stock) (order : List ℕ) (still : List Stock) (g : Lcg) → Rise all → IsMixing number at all order still g → length still ≤ 1 → HasDrawn number (at + picks number at all) g
drawn_all number at all order still g rise is one =
    let n : ℕ = length order in
    let all_picks : picks number at all ≡ n = picks_are number at all n (omega (arith, taken number at all order still g rise is)) is.choices (omega (arith, one, ap length is.rest, ap (λ o. length (rests all o)) is.mixing)) in
    subst (λ m. HasDrawn number (at + m) g) (sym all_picks) is.drawn

pub mixed_out : (number at : ℕ) (all : List Stock) (order : List ℕ) (still : List Stock) (g : Lcg) → Rise all → IsMixing number at all order still g → length still ≡ 0 → IsMixed number at all order g
mixed_out number at all order still g rise is none =
    let empty : stock_events still ≡ 0 = no_length still none in
    let all_taken : length order ≡ stock_events all = omega (arith, taken number at all order still g rise is, empty) in
    record {
      order_is = is.mixing ∙ ap (mixed number at all) all_taken;
      drawn = drawn_all number at all order still g rise is (omega (arith, none));
    }
  where
    no_length : (ss : List Stock) → length ss ≡ 0 → stock_events ss ≡ 0
    no_length [] h = refl
    no_length (s ∷ ss) h = absurd (omega (arith, h))

-- one lane is left alone
record IsAlone (number at : ℕ) (all : List Stock) (order : List ℕ) (s : Stock) (j : ℕ) : Type 0 where
  order_is : mixed number at all (length order + j) ≡ order ++ replicate j s.lane
  rest : rests all (mixed number at all (length order + j)) ≡ rest_by j s

no_choice : (w k : ℕ) → k ≡ 1 → w % k ≡ 0
no_choice w k one = let P : ℕ → Type 0 = λ m. w % m ≡ 0 in subst P (sym one) (omega (arith, mod-lt w (let some : 0 < 1 = omega arith in some)))

alone : (number at : ℕ) (all : List Stock) (order : List ℕ) (s : Stock) (j : ℕ) → Rise all → order ≡ mixed number at all (length order) → rests all order ≡ s ∷ [] → 0 < s.events → j ≤ s.events → IsAlone number at all order s j
alone number at all order s zero rise is only some few =
    let n : ℕ = length order in
    let same : n + 0 ≡ n = omega arith in
    let front : mixed number at all (n + 0) ≡ order = ap (mixed number at all) same ∙ sym is in
    let whole : s.events - 0 ≡ s.events = omega arith in
    record {
      order_is = front ∙ sym (append-nil order);
      rest = ap (rests all) front ∙ only ∙ ap (λ m. stock_with (s.lane) (m) ∷ []) (sym whole) ∙ sym (rest_some 0 s (lt-ltb 0 s.events some));
    }
alone number at all order s (suc j) rise is only some few =
    let n : ℕ = length order in
    let before = alone number at all order s j rise is only some (omega (arith, few)) in
    let same : n + suc j ≡ (n + j) + 1 = omega arith in
    let r : List Stock = rests all (mixed number at all (n + j)) in
    let here : r ≡ with_left s j ∷ [] = before.rest ∙ rest_some j s (lt-ltb j s.events (omega (arith, few))) in
    let one : length r ≡ 1 = ap length here in
    let there : 0 < length r = omega (arith, one) in
    let place : place_at number at all (n + j) ≡ 0 = no_choice (word number (at + (n + j))) (length r) one in
    let lane : (get_or r (place_at number at all (n + j)) nobody).lane ≡ s.lane = ap (λ p. (get_or r p nobody).lane) place ∙ ap (λ (ss : List Stock). (get_or ss 0 nobody).lane) here in
    let more : suc j ≡ j + 1 = omega arith in
    record {
      order_is =
          ap (mixed number at all) same ∙ mixed_lane number at all (n + j) there ∙ ap (λ k. mixed number at all (n + j) ++ k ∷ []) lane ∙ ap (λ o. o ++ s.lane ∷ []) before.order_is
          ∙ append_assoc order (replicate j s.lane) (s.lane ∷ []) ∙ ap (λ xs. order ++ xs) (replicate_more j s.lane) ∙ ap (λ m. order ++ replicate m s.lane) (sym more);
      rest =
          ap (λ m. rests all (mixed number at all m)) same ∙ mixed_rests number at all (n + j) rise there ∙ ap (λ p. spend p r) place ∙ ap (λ (ss : List Stock). spend 0 ss) here
          ∙ append-nil (spent (with_left s j)) ∙ spent_rest j s (omega (arith, few)) ∙ ap (λ m. rest_by m s) (sym more);
    }

only_one : (ss : List Stock) (d : Stock) → length ss ≡ 1 → ss ≡ get_or ss 0 d ∷ []
only_one [] d h = absurd (omega (arith, h))
only_one (s ∷ []) d h = refl
only_one (s ∷ t ∷ ss) d h = absurd (omega (arith, h))

pub mixed_alone : (number at : ℕ) (all : List Stock) (order : List ℕ) (still : List Stock) (g : Lcg) (d : Stock) (after : List ℕ) → Rise all → IsMixing number at all order still g → length still ≡ 1 → after ≡ order ++ replicate (get_or still 0 d).events (get_or still 0 d).lane → IsMixed number at all after g
mixed_alone number at all order still g d after rise is one_still pushed =
    let s : Stock = get_or still 0 d in
    let only : rests all order ≡ s ∷ [] = sym is.rest ∙ only_one still d one_still in
    let positive : AllByRecursion HasSome (s ∷ []) = subst (AllByRecursion HasSome) only (rests_some all order) in
    let end = alone number at all order s s.events rise is.mixing only positive.0 (omega arith) in
    let total : stock_events still ≡ s.events = ap (λ (ss : List Stock). stock_events ss) (only_one still d one_still) ∙ sum_by-cons (λ (q : Stock). q.events) s [] ∙ omega arith in
    let all_taken : length order + s.events ≡ stock_events all = omega (arith, taken number at all order still g rise is, total) in
    record {
      order_is = pushed ∙ sym end.order_is ∙ ap (mixed number at all) all_taken;
      drawn = drawn_all number at all order still g rise is (omega (arith, one_still));
    }
