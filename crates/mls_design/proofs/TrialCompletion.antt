-- Under the schedule of trial each key of each rank is completed.
use Rattle.std.proofs.Common.{◌≡◌, ℕ, zero, suc, ◌+◌, ◌-◌, ◌*◌, ◌≤◌, ◌<◌, Bool, true, false, not, ◌⊎◌, cond, eqb, ltb, List, [], ◌∷◌, ◌++◌, length, map, replicate, Option, Some, None, refl, sym, ◌∙◌, ap, subst, inl, inr, arith}
use Rattle.std.specs.List.{flat_map, filter_map, list_any, cons_option, AllByRecursion}
use Rattle.std.specs.Option.{option_to_list, option_map, option_and_then}
use Rattle.std.proofs.lemmas.Bool.{cases_Bool, cases_lt, cases_eq, or_left, or_right, and_from, eq-eqb, ne_eqb, lt-ltb}
use Rattle.std.proofs.lemmas.List.Elements.{filter_map-append}
use Rattle.std.proofs.Math.Nat.{mul-le-mul_right}
use Rattle.mls_model.specs.declared.lanes.LaneKind.{LaneKind}
use Rattle.mls_model.specs.declared.lanes.LaneKind.TheVariants.{Client, Control}
use Rattle.mls_model.specs.declared.outcomes.Reason.{Reason}
use Rattle.mls_model.specs.Numbers.{below, element, times}
use Rattle.mls_model.specs.Places.{gathered}
use Rattle.mls_model.specs.Studies.{Study, Sizes, planes, plane_of}
use Rattle.mls_model.specs.Blocks.{overlaps}
use Rattle.mls_model.specs.Frames.{Frame, Piece, piece, beat, bye, save, crash, hello, welcome, refuse}
use Rattle.mls_model.specs.Lanes.{Lane}
use Rattle.mls_model.specs.Histories.{LaneEvent, event_of, history}
use Rattle.mls_model.specs.Survival.{is_crash, survives, surviving}
use Rattle.mls_model.specs.Fitting.{has_its_cells, piece_reason, fitting_piece, fitting, Fits}
use Rattle.mls_model.specs.Completion.{is_share}
use Rattle.mls_model.specs.Designs.{solved_piece}
use Rattle.mls_laws.proofs.Places.{gathered_append}
use Rattle.mls_laws.proofs.Surviving.{surviving_append}
use Rattle.mls_laws.proofs.Fits.{of_event}
use Rattle.mls_tape.proofs.Complete.{times-append}
use Rattle.mls_design.specs.declared.trial.route.Route.{Route}
use Rattle.mls_design.specs.declared.trial.stock.Stock.{Stock}
use Rattle.mls_design.specs.Trial.{route_of, rank_routes, routes, step_pieces, life_pieces, resent_frames, resent_lane, resent_lanes, first_lanes, control_lanes, earlier_lanes, trial_lanes}
use Rattle.mls_design.specs.TrialSchedule.{stocks, mixed, stock_events, whole_lanes, mixing_from, trial_order}
use Rattle.mls_design.specs.TrialMixing.{Rise}
use Rattle.mls_design.proofs.TrialReading.{IsOfRoute, IsSentLane, all-append, all_so, all_map, first_lanes_sent, resent_lanes_sent}
use Rattle.mls_design.proofs.TrialMixing.{stock_with, mixed_times}
use Rattle.mls_design.proofs.TrialOrders.{stock_of, stocks_cons, stocks_none, stocks_rise}

-- ---- an element of a list

abbrev pub Has : {A : Type 0} → A → List A → Type 0
Has x [] = ⊥
Has x (y ∷ ys) = (x ≡ y) ⊎ Has x ys

has_left : {A : Type 0} (x : A) (xs ys : List A) → Has x xs → Has x (xs ++ ys)
has_left x [] ys h = absurd h
has_left x (y ∷ xs) ys h = elim h [ inl e ↦ inl e | inr r ↦ inr (has_left x xs ys r) ]

has_right : {A : Type 0} (x : A) (xs ys : List A) → Has x ys → Has x (xs ++ ys)
has_right x [] ys h = h
has_right x (y ∷ xs) ys h = inr (has_right x xs ys h)

has_map : {A B : Type 0} (f : A → B) (x : A) (xs : List A) → Has x xs → Has (f x) (map f xs)
has_map f x [] h = absurd h
has_map f x (y ∷ xs) h = elim h [ inl e ↦ inl (ap f e) | inr r ↦ inr (has_map f x xs r) ]

has_flat : {A B : Type 0} (f : A → List B) (x : A) (y : B) (xs : List A) → Has x xs → Has y (f x) → Has y (flat_map f xs)
has_flat f x y [] h own = absurd h
has_flat f x y (z ∷ xs) h own = elim h [
  | inl e ↦ has_left y (f z) (flat_map f xs) (subst (λ w. Has y (f w)) e own)
  | inr r ↦ has_right y (f z) (flat_map f xs) (has_flat f x y xs r own)
]

has_below : (i n : ℕ) → i < n → Has i (below n)
has_below i zero h = absurd (omega (arith, h))
has_below i (suc n) h = elim (cases_lt i n) [
  | inl small ↦ has_left i (below n) (n ∷ []) (has_below i n small)
  | inr large ↦ has_right i (below n) (n ∷ []) (inl (let same : i ≡ n = omega (arith, h, large) in same))
]

pub has_any : {A : Type 0} (p : A → Bool) (x : A) (xs : List A) → Has x xs → p x ≡ true → list_any p xs ≡ true
has_any p x [] h t = absurd h
has_any p x (y ∷ xs) h t = elim h [
  | inl e ↦ or_left (p y) (list_any p xs) (ap p (sym e) ∙ t)
  | inr r ↦ or_right (p y) (list_any p xs) (has_any p x xs r t)
]

has_cons_option : {A : Type 0} (q : A) (o : Option A) (rest : List A) → (o ≡ Some q) ⊎ Has q rest → Has q (cons_option o rest)
has_cons_option q None rest h = elim h [ inl e ↦ absurd cc | inr r ↦ r ]
has_cons_option q (Some x) rest h = elim h [ inl e ↦ inl (let same : q ≡ x = cc in same) | inr r ↦ inr r ]

has_kept : {A B : Type 0} (f : A → Option B) (x : A) (q : B) (xs : List A) → Has x xs → f x ≡ Some q → Has q (filter_map f xs)
has_kept f x q [] h e = absurd h
has_kept f x q (y ∷ xs) h e = has_cons_option q (f y) (filter_map f xs) (elim h [ inl s ↦ inl (ap f (sym s) ∙ e) | inr r ↦ inr (has_kept f x q xs r e) ])

has_element : {A : Type 0} (x : A) (xs : List A) → Has x xs → (i : ℕ) × (element xs i ≡ Some x) × (i < length xs)
has_element x [] h = absurd h
has_element x (y ∷ xs) h = elim h [
  | inl e ↦ (0, ap (λ z. Some z) (sym e), omega arith)
  | inr r ↦ let there = has_element x xs r in (suc there.0, there.1, omega (arith, there.2))
]

pub same_some : {A : Type 0} (x y : A) → ◌≡◌ {A = Option A} (Some x) (Some y) → x ≡ y
same_some x y e = cc

all_element : {A : Type 0} (P : A → Type 0) (xs : List A) (i : ℕ) (x : A) → AllByRecursion P xs → element xs i ≡ Some x → P x
all_element P [] i x all e = absurd cc
all_element P (y ∷ xs) zero x all e = subst P (same_some y x e) all.0
all_element P (y ∷ xs) (suc i) x all e = all_element P xs i x all.1 e

element_right : {A : Type 0} (xs ys : List A) (j : ℕ) → element (xs ++ ys) (length xs + j) ≡ element ys j
element_right [] ys j = let same : 0 + j ≡ j = omega arith in ap (element ys) same
element_right (x ∷ xs) ys j = let same : suc (length xs) + j ≡ suc (length xs + j) = omega arith in ap (element (x ∷ (xs ++ ys))) same ∙ element_right xs ys j

-- ---- the pieces of life 3 that a rank's resent lanes have

has_route : (s : Sizes) (rank client : ℕ) → rank < s.ranks → client < s.clients → overlaps s rank client ≡ true → Has (record { rank = rank; client = client }) (routes s)
unfolding routes rank_routes
has_route s rank client r c t =
    let own : Route = record { rank = rank; client = client } in
    let here : Has own (route_of s rank client) = subst (λ (b : Bool). Has own (cond b (own ∷ []) [])) (sym t) (inl refl) in
    has_flat (λ k. flat_map (route_of s k) (below s.clients)) rank own (below s.ranks) (has_below rank s.ranks r)
    (has_flat (route_of s rank) client own (below s.clients) (has_below client s.clients c) here)

has_life : (study : Study) (r : Route) (group step field : ℕ) → step < study.sizes.steps → field < study.sizes.fields → Has (piece (solved_piece study group 3 step field r.rank r.client)) (life_pieces study r group 3 study.sizes.steps)
unfolding life_pieces
has_life study r group step field s f =
    has_flat (λ at. step_pieces study r group 3 at) step (piece (solved_piece study group 3 step field r.rank r.client)) (below study.sizes.steps) (has_below step study.sizes.steps s)
    (has_map (λ k. piece (solved_piece study group 3 step k r.rank r.client)) field (below study.sizes.fields) (has_below field study.sizes.fields f))

has_resent : (study : Study) (r : Route) (group step field : ℕ) → group < study.sizes.groups → step < study.sizes.steps → field < study.sizes.fields → Has (piece (solved_piece study group 3 step field r.rank r.client)) (resent_frames study r)
unfolding resent_frames
has_resent study r group step field g s f =
    has_flat (λ k. life_pieces study r k 3 study.sizes.steps) group (piece (solved_piece study group 3 step field r.rank r.client)) (below study.sizes.groups) (has_below group study.sizes.groups g) (has_life study r group step field s f)

has_lane : (study : Study) (r : Route) → Has r (routes study.sizes) → Has (resent_lane study r) (resent_lanes study)
unfolding resent_lanes
has_lane study r h = has_map (resent_lane study) r (routes study.sizes) h

-- ---- events of whole lanes

abbrev give : List Lane → List ℕ → ℕ → List LaneEvent
give lanes before k = option_to_list (event_of lanes k (times k before))

times_apart : (k j n : ℕ) → (j ≡ k → ⊥) → times k (replicate n j) ≡ 0
times_apart k j zero ne = refl
times_apart k j (suc n) ne = ap (λ (b : Bool). cond b (suc (times k (replicate n j))) (times k (replicate n j))) (ne_eqb j k ne) ∙ times_apart k j n ne

times_same : (k : ℕ) (before : List ℕ) → times k (before ++ k ∷ []) ≡ times k before + 1
times_same k before = times-append k before (k ∷ []) ∙ ap (λ (b : Bool). times k before + cond b 1 0) (eq-eqb k k refl)

one_event : (o : Option LaneEvent) (e : LaneEvent) → o ≡ Some e → Has e (option_to_list o)
one_event None e h = absurd cc
one_event (Some x) e h = inl (sym (same_some x e h))

in_turns : (lanes : List Lane) (before : List ℕ) (k n t i : ℕ) (e : LaneEvent) → times k before ≡ t → t ≤ i → i < t + n → event_of lanes k i ≡ Some e → Has e (gathered (give lanes) before (replicate n k))
unfolding gathered
in_turns lanes before k zero t i e stood low high is = absurd (omega (arith, low, high))
in_turns lanes before k (suc n) t i e stood low high is = elim (cases_eq t i) [
  | inl same ↦ has_left e (give lanes before k) _ (one_event (event_of lanes k (times k before)) e (ap (event_of lanes k) (stood ∙ same) ∙ is))
  | inr other ↦ has_right e (give lanes before k) _ (in_turns lanes (before ++ k ∷ []) k n (t + 1) i e (times_same k before ∙ ap (λ m. m + 1) stood) (omega (arith, low, neq t i other low)) (omega (arith, high)) is)
]
  where
    neq : (t i : ℕ) → (t ≡ i → ⊥) → t ≤ i → t < i
    neq t i other low = elim (cases_lt t i) [ inl h ↦ h | inr h ↦ absurd (other (omega (arith, h, low))) ]

whole_cons : (s : Stock) (ss : List Stock) → whole_lanes (s ∷ ss) ≡ replicate s.events s.lane ++ whole_lanes ss
unfolding whole_lanes
whole_cons s ss = refl

pub all_has : {A : Type 0} (P : A → Type 0) (xs : List A) (x : A) → AllByRecursion P xs → Has x xs → P x
all_has P [] x all h = absurd h
all_has P (y ∷ xs) x all h = elim h [ inl e ↦ subst P (sym e) all.0 | inr r ↦ all_has P xs x all.1 r ]

in_whole : (lanes : List Lane) (before : List ℕ) (ss : List Stock) (s : Stock) (i : ℕ) (e : LaneEvent) → Rise ss → Has s ss → times s.lane before ≡ 0 → i < s.events → event_of lanes s.lane i ≡ Some e → Has e (gathered (give lanes) before (whole_lanes ss))
in_whole lanes before [] s i e rise has stood here is = absurd has
in_whole lanes before (q ∷ ss) s i e rise has stood here is =
    let split : gathered (give lanes) before (whole_lanes (q ∷ ss)) ≡ gathered (give lanes) before (replicate q.events q.lane) ++ gathered (give lanes) (before ++ replicate q.events q.lane) (whole_lanes ss) =
    ap (gathered (give lanes) before) (whole_cons q ss) ∙ gathered_append (give lanes) before (replicate q.events q.lane) (whole_lanes ss) in
    subst (Has e) (sym split) (elim has [
      | inl same ↦
          has_left e (gathered (give lanes) before (replicate q.events q.lane)) _
          (subst (λ (z : Stock). Has e (gathered (give lanes) before (replicate z.events z.lane))) same
          (in_turns lanes before s.lane s.events 0 i e stood (omega arith) (omega (arith, here)) is))
      | inr later ↦
          let up : q.lane < s.lane = all_has (λ (t : Stock). q.lane < t.lane) ss s rise.0 later in
          let still : times s.lane (before ++ replicate q.events q.lane) ≡ 0 = omega (arith, times-append s.lane before (replicate q.events q.lane), stood, times_apart s.lane q.lane q.events (λ eq. absurd (omega (arith, eq, up)))) in
          has_right e (gathered (give lanes) before (replicate q.events q.lane)) _ (in_whole lanes (before ++ replicate q.events q.lane) ss s i e rise.1 later still here is)
    ])

-- ---- the resent lanes' stocks

has_stock : (rank from j : ℕ) (lanes : List Lane) (lane : Lane) → element lanes j ≡ Some lane → lane.rank ≡ rank → Has (stock_with (from + j) (length lane.frames)) (stocks rank from lanes)
has_stock rank from j [] lane e own = absurd cc
has_stock rank from zero (l ∷ lanes) lane e own =
    let same : l ≡ lane = same_some l lane e in
    let here : Has (stock_with (from) (length lane.frames)) (stock_of rank from lane) = subst (λ (b : Bool). Has (stock_with (from) (length lane.frames)) (cond b (stock_with (from) (length lane.frames) ∷ []) [])) (sym (eq-eqb lane.rank rank own)) (inl refl) in
    let at : from + 0 ≡ from = omega arith in
    subst (Has (stock_with (from + 0) (length lane.frames))) (sym (stocks_cons rank from l lanes))
    (has_left _ (stock_of rank from l) (stocks rank (from + 1) lanes)
    (subst (λ n. Has (stock_with (n) (length lane.frames)) (stock_of rank from l)) (sym at)
    (subst (λ (z : Lane). Has (stock_with (from) (length lane.frames)) (stock_of rank from z)) (sym same) here)))
has_stock rank from (suc j) (l ∷ lanes) lane e own =
    let at : (from + 1) + j ≡ from + suc j = omega arith in
    subst (Has (stock_with (from + suc j) (length lane.frames))) (sym (stocks_cons rank from l lanes))
    (has_right _ (stock_of rank from l) (stocks rank (from + 1) lanes)
    (subst (λ n. Has (stock_with (n) (length lane.frames)) (stocks rank (from + 1) lanes)) at (has_stock rank (from + 1) j lanes lane e own)))

-- all numbers lie below one, or from one on
within_of : (P : Stock → Type 0) (rank k : ℕ) (lane : Lane) (rest : List Stock) → P (record { lane = k; events = length lane.frames }) → AllByRecursion P rest → AllByRecursion P (stock_of rank k lane ++ rest)
within_of P rank k lane rest h all = elim (cases_Bool (eqb lane.rank rank)) [
  | inl t ↦ subst (λ (b : Bool). AllByRecursion P (cond b (record { lane = k; events = length lane.frames } ∷ []) [] ++ rest)) (sym t) (h, all)
  | inr f ↦ subst (λ (b : Bool). AllByRecursion P (cond b (record { lane = k; events = length lane.frames } ∷ []) [] ++ rest)) (sym f) all
]

stocks_within : (rank from end : ℕ) (lanes : List Lane) → from + length lanes ≤ end → AllByRecursion (λ (s : Stock). s.lane < end) (stocks rank from lanes)
stocks_within rank from end [] h = subst (AllByRecursion (λ (s : Stock). s.lane < end)) (sym (stocks_none rank from)) tt
stocks_within rank from end (l ∷ lanes) h = subst (AllByRecursion (λ (s : Stock). s.lane < end)) (sym (stocks_cons rank from l lanes)) (within_of (λ (s : Stock). s.lane < end) rank from l (stocks rank (from + 1) lanes) (omega (arith, h)) (stocks_within rank (from + 1) end lanes (omega (arith, h))))

stocks_from : (rank first from : ℕ) (lanes : List Lane) → first ≤ from → AllByRecursion (λ (s : Stock). first ≤ s.lane) (stocks rank from lanes)
stocks_from rank first from [] h = subst (AllByRecursion (λ (s : Stock). first ≤ s.lane)) (sym (stocks_none rank from)) tt
stocks_from rank first from (l ∷ lanes) h = subst (AllByRecursion (λ (s : Stock). first ≤ s.lane)) (sym (stocks_cons rank from l lanes)) (within_of (λ (s : Stock). first ≤ s.lane) rank from l (stocks rank (from + 1) lanes) h (stocks_from rank first (from + 1) lanes (omega (arith, h))))

no_whole : whole_lanes [] ≡ []
unfolding whole_lanes
no_whole = refl

none_stood : (k : ℕ) (ss : List Stock) → AllByRecursion (λ (s : Stock). s.lane < k) ss → times k (whole_lanes ss) ≡ 0
none_stood k [] all = ap (times k) no_whole
none_stood k (s ∷ ss) all = omega (arith, ap (times k) (whole_cons s ss), times-append k (replicate s.events s.lane) (whole_lanes ss), times_apart k s.lane s.events (λ e. absurd (omega (arith, e, all.0))), none_stood k ss all.1)

all_repeated : (P : ℕ → Type 0) (k n : ℕ) → P k → AllByRecursion P (replicate n k)
all_repeated P k zero h = tt
all_repeated P k (suc n) h = (h, all_repeated P k n h)

whole_from : (first : ℕ) (ss : List Stock) → AllByRecursion (λ (s : Stock). first ≤ s.lane) ss → AllByRecursion (λ k. first ≤ k) (whole_lanes ss)
whole_from first [] all = subst (AllByRecursion (λ k. first ≤ k)) (sym no_whole) tt
whole_from first (s ∷ ss) all = subst (AllByRecursion (λ k. first ≤ k)) (sym (whole_cons s ss)) (all-append (λ k. first ≤ k) (replicate s.events s.lane) (whole_lanes ss) (all_repeated (λ k. first ≤ k) s.lane s.events all.0) (whole_from first ss all.1))

-- ---- what holds of each event

all_event : (P : LaneEvent → Type 0) (o : Option LaneEvent) → ((e : LaneEvent) → o ≡ Some e → P e) → AllByRecursion P (option_to_list o)
all_event P None each = tt
all_event P (Some e) each = (each e refl, tt)

all_given : (P : LaneEvent → Type 0) (Q : ℕ → Type 0) (lanes : List Lane) (before order : List ℕ) → AllByRecursion Q order → ((k i : ℕ) (e : LaneEvent) → Q k → event_of lanes k i ≡ Some e → P e) → AllByRecursion P (gathered (give lanes) before order)
unfolding gathered
all_given P Q lanes before [] all each = tt
all_given P Q lanes before (k ∷ order) all each =
    all-append P (give lanes before k) (gathered (give lanes) (before ++ k ∷ []) order)
    (all_event P (event_of lanes k (times k before)) (λ e is. each k (times k before) e all.0 is))
    (all_given P Q lanes (before ++ k ∷ []) order all.1 each)

event_there : (lanes : List Lane) (k i : ℕ) (e : LaneEvent) → event_of lanes k i ≡ Some e → (lane : Lane) × (element lanes k ≡ Some lane) × (element lane.frames i ≡ Some e.frame) × (e.kind ≡ lane.kind)
event_there lanes k i e is = by_lane (element lanes k) i e refl is
  where
    by_frame : (o : Option Frame) (lane : Lane) (e : LaneEvent) → option_map (λ f. record { kind = lane.kind; frame = f }) o ≡ Some e → (o ≡ Some e.frame) × (e.kind ≡ lane.kind)
    by_frame None lane e is = absurd cc
    by_frame (Some f) lane e is =
        let same = same_some (record { kind = lane.kind; frame = f }) e is in
        (ap (λ (x : LaneEvent). Some x.frame) same, ap (λ (x : LaneEvent). x.kind) (sym same))

    by_lane : {o : Option Lane} (o2 : Option Lane) (i : ℕ) (e : LaneEvent) → o ≡ o2 → option_and_then (λ (lane : Lane). option_map (λ frame. record { kind = lane.kind; frame = frame }) (element lane.frames i)) o2 ≡ Some e → (lane : Lane) × (o ≡ Some lane) × (element lane.frames i ≡ Some e.frame) × (e.kind ≡ lane.kind)
    by_lane None i e same is = absurd cc
    by_lane (Some lane) i e same is = let both = by_frame (element lane.frames i) lane e is in (lane, same, both.0, both.1)

event_here : (lanes : List Lane) (k i : ℕ) (lane : Lane) (f : Frame) → element lanes k ≡ Some lane → element lane.frames i ≡ Some f → event_of lanes k i ≡ Some (record { kind = lane.kind; frame = f })
event_here lanes k i lane f here there =
    ap (option_and_then (λ (l : Lane). option_map (λ frame. ◌≡◌-free l.kind frame) (element l.frames i))) here
    ∙ ap (option_map (λ frame. ◌≡◌-free lane.kind frame)) there
  where
    ◌≡◌-free : LaneKind → Frame → LaneEvent
    ◌≡◌-free kind frame = record { kind = kind; frame = frame }

-- a piece of it has a life up to 3
abbrev IsLow : Frame → Type 0
IsLow (piece p) = p.life ≤ 3
IsLow (beat group life) = Unit {0}
IsLow (bye group life) = Unit {0}
IsLow save = Unit {0}
IsLow crash = Unit {0}
IsLow (hello version group life client rank) = Unit {0}
IsLow (welcome lane) = Unit {0}
IsLow (refuse reason value) = Unit {0}

solved_life : (study : Study) (group life step field rank client : ℕ) → (solved_piece study group life step field rank client).life ≡ life
unfolding solved_piece
solved_life study group life step field rank client = refl

route_low : (study : Study) (r : Route) (most : ℕ) (f : Frame) → most ≤ 3 → IsOfRoute study r most f → IsLow f
route_low study r most (piece p) few h = omega (arith, ap (λ (q : Piece). q.life) h.is, solved_life study h.group h.life h.step h.field r.rank r.client, h.life_in, few)
route_low study r most (beat group life) few h = tt
route_low study r most (bye group life) few h = tt
route_low study r most save few h = tt
route_low study r most crash few h = tt
route_low study r most (hello version group life client rank) few h = tt
route_low study r most (welcome lane) few h = tt
route_low study r most (refuse reason value) few h = tt

abbrev IsLowLane : Lane → Type 0
IsLowLane lane = AllByRecursion IsLow lane.frames

sent_low : (study : Study) (most : ℕ) (lane : Lane) → most ≤ 3 → IsSentLane study most lane → IsLowLane lane
sent_low study most lane few h = all_so (IsOfRoute study h.route most) IsLow lane.frames h.frames (λ f own. route_low study h.route most f few own)

control_low : (s : Sizes) → AllByRecursion IsLowLane (control_lanes s)
unfolding control_lanes
control_low s = all_map IsLowLane _ s.ranks (λ rank h. (tt, (tt, (tt, (tt, tt)))))

lanes_low : (study : Study) (number : ℕ) → AllByRecursion IsLowLane (trial_lanes study number)
unfolding trial_lanes earlier_lanes
lanes_low study number =
    all-append IsLowLane (first_lanes study number ++ control_lanes study.sizes) (resent_lanes study)
    (all-append IsLowLane (first_lanes study number) (control_lanes study.sizes)
    (all_so (IsSentLane study 2) IsLowLane (first_lanes study number) (first_lanes_sent study number) (λ lane h. sent_low study 2 lane (omega arith) h))
    (control_low study.sizes))
    (all_so (IsSentLane study 3) IsLowLane (resent_lanes study) (resent_lanes_sent study) (λ lane h. sent_low study 3 lane (omega arith) h))

any_number : (order : List ℕ) → AllByRecursion (λ (k : ℕ). Unit {0}) order
any_number [] = tt
any_number (k ∷ order) = (tt, any_number order)

history_low : (study : Study) (number : ℕ) (before order : List ℕ) → AllByRecursion (λ (e : LaneEvent). IsLow e.frame) (gathered (give (trial_lanes study number)) before order)
history_low study number before order =
    let lanes : List Lane = trial_lanes study number in
    all_given (λ (e : LaneEvent). IsLow e.frame) (λ k. Unit {0}) lanes before order (any_number order) (λ k i e any is.
    let there = event_there lanes k i e is in
    all_element IsLow there.0.frames i e.frame (all_element IsLowLane lanes k there.0 (lanes_low study number) there.1) there.2)

surviving_all_of : (P : LaneEvent → Type 0) (h : List LaneEvent) → AllByRecursion P h → AllByRecursion P (surviving h)
unfolding surviving
surviving_all_of P [] all = tt
surviving_all_of P (e ∷ after) all = elim (cases_Bool (survives after)) [
  | inl t ↦ subst (λ (b : Bool). AllByRecursion P (cond b (e ∷ surviving after) (surviving after))) (sym t) (all.0, surviving_all_of P after all.1)
  | inr f ↦ subst (λ (b : Bool). AllByRecursion P (cond b (e ∷ surviving after) (surviving after))) (sym f) (surviving_all_of P after all.1)
]

kept_low : (s : Sizes) (rank : ℕ) (o : Option Piece) (rest : List Piece) → ((q : Piece) → o ≡ Some q → q.life ≤ 3) → AllByRecursion (λ (p : Piece). p.life ≤ 3) rest → AllByRecursion (λ (p : Piece). p.life ≤ 3) (cons_option o rest)
kept_low s rank None rest each all = all
kept_low s rank (Some q) rest each all = (each q refl, all)

filtered_low : (s : Sizes) (rank : ℕ) (events : List LaneEvent) → AllByRecursion (λ (e : LaneEvent). IsLow e.frame) events → AllByRecursion (λ (p : Piece). p.life ≤ 3) (filter_map (fitting_piece s rank) events)
filtered_low s rank [] all = tt
filtered_low s rank (e ∷ events) all = kept_low s rank (fitting_piece s rank e) (filter_map (fitting_piece s rank) events) (λ q is. subst IsLow (of_event s rank e q is).1 all.0) (filtered_low s rank events all.1)

fitting_low : (s : Sizes) (rank : ℕ) (events : List LaneEvent) → AllByRecursion (λ (e : LaneEvent). IsLow e.frame) events → AllByRecursion (λ (p : Piece). p.life ≤ 3) (fitting s rank events)
unfolding fitting
fitting_low s rank events all = filtered_low s rank events all

-- ---- pieces that fit

through : {A : Type 0} (b : Bool) (x rest : A) → b ≡ true → cond (not b) x rest ≡ rest
through true x rest e = refl
through false x rest e = absurd cc

no_reason : (s : Sizes) (rank : ℕ) (p : Piece) → Fits s rank p → piece_reason s rank p ≡ None
no_reason s rank p f =
    let cells : has_its_cells s rank p ≡ true = and_from _ _ (and_from _ _ f.some (eq-eqb _ _ f.first)) (eq-eqb _ _ f.count) in
    through (eqb p.rows (s.parameters + 2)) _ _ (eq-eqb _ _ f.rows)
    ∙ through (ltb p.group s.groups) _ _ (lt-ltb _ _ f.group)
    ∙ through (ltb p.plane (planes s)) _ _ (lt-ltb _ _ f.plane)
    ∙ through (ltb p.client s.clients) _ _ (lt-ltb _ _ f.client)
    ∙ through (has_its_cells s rank p) _ _ cells

by_none : (o : Option Reason) (p : Piece) → o ≡ None → elim o [ None ↦ Some p | Some r ↦ None ] ≡ Some p
by_none None p h = refl
by_none (Some r) p h = absurd cc

-- what is said of the solver's piece on a route
record IsShareOf (study : Study) (rank client group plane : ℕ) (p : Piece) : Type 0 where
  fits : Fits study.sizes rank p
  share : is_share (record { group = group; plane = plane }) 3 client p ≡ true

plane_small : (steps fields step field : ℕ) → step < steps → field < fields → step * fields + field < steps * fields
plane_small steps fields step field s f =
    let up : (step + 1) * fields ≤ steps * fields = mul-le-mul_right fields (omega arith) in
    omega arith

solved_share : (study : Study) (rank client group step field : ℕ) → group < study.sizes.groups → step < study.sizes.steps → field < study.sizes.fields → client < study.sizes.clients → overlaps study.sizes rank client ≡ true → IsShareOf study rank client group (plane_of study.sizes step field) (solved_piece study group 3 step field rank client)
unfolding solved_piece
solved_share study rank client group step field g s f c t = record {
  fits = record { rows = omega arith; group = g; plane = plane_small study.sizes.steps study.sizes.fields step field s f; client = c; some = t; first = refl; count = refl };
  share = and_from _ _ (and_from _ _ (and_from _ _ (eq-eqb group group refl) (eq-eqb (plane_of study.sizes step field) (plane_of study.sizes step field) refl)) (eq-eqb 3 3 refl)) (eq-eqb client client refl);
}

-- ---- the events after the mixed lanes

-- an event of a resent lane stands behind the mixed lanes
abbrev early_part : Study → ℕ → ℕ → List ℕ
early_part study number rank = mixed number (mixing_from study number rank) (stocks rank 0 (earlier_lanes study number)) (stock_events (stocks rank 0 (earlier_lanes study number)))

abbrev late_part : Study → ℕ → ℕ → List ℕ
late_part study number rank = whole_lanes (stocks rank (length (earlier_lanes study number)) (resent_lanes study))

abbrev late_events : Study → ℕ → ℕ → List LaneEvent
late_events study number rank = gathered (give (trial_lanes study number)) (early_part study number rank) (late_part study number rank)

abbrev early_events : Study → ℕ → ℕ → List LaneEvent
early_events study number rank = gathered (give (trial_lanes study number)) [] (early_part study number rank)

whole_history : (study : Study) (number rank : ℕ) → history (trial_lanes study number) (trial_order study number rank) ≡ early_events study number rank ++ late_events study number rank
unfolding history trial_order
whole_history study number rank = gathered_append (give (trial_lanes study number)) [] (early_part study number rank) (late_part study number rank)

resent_at : (study : Study) (number j : ℕ) → element (trial_lanes study number) (length (earlier_lanes study number) + j) ≡ element (resent_lanes study) j
unfolding trial_lanes
resent_at study number j = element_right (earlier_lanes study number) (resent_lanes study) j

late_has : (study : Study) (number rank client group step field : ℕ) → rank < study.sizes.ranks → client < study.sizes.clients → overlaps study.sizes rank client ≡ true → group < study.sizes.groups → step < study.sizes.steps → field < study.sizes.fields → Has (record { kind = Client; frame = piece (solved_piece study group 3 step field rank client) }) (late_events study number rank)
late_has study number rank client group step field r c t g s f =
    let early : ℕ = length (earlier_lanes study number) in
    let own : Route = record { rank = rank; client = client } in
    let lane : Lane = resent_lane study own in
    let frame : Frame = piece (solved_piece study group 3 step field rank client) in
    let there = has_element lane (resent_lanes study) (has_lane study own (has_route study.sizes rank client r c t)) in
    let event = has_element frame lane.frames (has_resent study own group step field g s f) in
    let all : List Stock = stocks rank 0 (earlier_lanes study number) in
    let stood : times (early + there.0) (early_part study number rank) ≡ 0 =
    mixed_times number (mixing_from study number rank) (early + there.0) all (stocks_rise rank 0 (earlier_lanes study number))
    ∙ none_stood (early + there.0) all (stocks_within rank 0 (early + there.0) (earlier_lanes study number) (omega arith)) in
    in_whole (trial_lanes study number) (early_part study number rank) (stocks rank early (resent_lanes study)) (record { lane = early + there.0; events = length lane.frames }) event.0 (record { kind = Client; frame = frame })
    (stocks_rise rank early (resent_lanes study)) (has_stock rank early there.0 (resent_lanes study) lane there.1 refl) stood event.2
    (event_here (trial_lanes study number) (early + there.0) event.0 lane frame (resent_at study number there.0 ∙ there.1) event.1)

client_quiet : (kind : LaneKind) (f : Frame) → kind ≡ Client → is_crash (record { kind = kind; frame = f }) ≡ false
client_quiet Client f e = refl
client_quiet Control f e = absurd cc

late_client : (study : Study) (number k i : ℕ) (e : LaneEvent) → length (earlier_lanes study number) ≤ k → event_of (trial_lanes study number) k i ≡ Some e → e.kind ≡ Client
late_client study number k i e from is =
    let early : ℕ = length (earlier_lanes study number) in
    let same : k ≡ early + (k - early) = omega (arith, from) in
    let there = event_there (trial_lanes study number) k i e is in
    let found : element (resent_lanes study) (k - early) ≡ Some there.0 = sym (resent_at study number (k - early)) ∙ ap (element (trial_lanes study number)) (sym same) ∙ there.1 in
    there.3 ∙ (all_element (IsSentLane study 3) (resent_lanes study) (k - early) there.0 (resent_lanes_sent study) found).kind

quiet : (es : List LaneEvent) → AllByRecursion (λ (e : LaneEvent). e.kind ≡ Client) es → list_any is_crash es ≡ false
quiet [] all = refl
quiet (e ∷ es) all = rw (client_quiet e.kind e.frame all.0) (quiet es all.1)

late_quiet : (study : Study) (number rank : ℕ) → list_any is_crash (late_events study number rank) ≡ false
late_quiet study number rank =
    let early : ℕ = length (earlier_lanes study number) in
    quiet (late_events study number rank)
    (all_given (λ (e : LaneEvent). e.kind ≡ Client) (λ k. early ≤ k) (trial_lanes study number) (early_part study number rank) (late_part study number rank)
    (whole_from early (stocks rank early (resent_lanes study)) (stocks_from rank early early (resent_lanes study) (omega arith)))
    (λ k i e from is. late_client study number k i e from is))

-- the fitting pieces of the rank
abbrev pub trial_pieces : Study → ℕ → ℕ → List Piece
trial_pieces study number rank = fitting study.sizes rank (surviving (history (trial_lanes study number) (trial_order study number rank)))

fitting-append : (s : Sizes) (rank : ℕ) (xs ys : List LaneEvent) → fitting s rank (xs ++ ys) ≡ fitting s rank xs ++ fitting s rank ys
unfolding fitting
fitting-append s rank xs ys = filter_map-append (fitting_piece s rank) xs ys

fitting_has : (s : Sizes) (rank : ℕ) (e : LaneEvent) (q : Piece) (es : List LaneEvent) → Has e es → fitting_piece s rank e ≡ Some q → Has q (fitting s rank es)
unfolding fitting
fitting_has s rank e q es h is = has_kept (fitting_piece s rank) e q es h is

pieces_are : (study : Study) (number rank : ℕ) → trial_pieces study number rank ≡ fitting study.sizes rank (surviving (early_events study number rank)) ++ fitting study.sizes rank (late_events study number rank)
pieces_are study number rank =
    ap (λ h. fitting study.sizes rank (surviving h)) (whole_history study number rank)
    ∙ ap (fitting study.sizes rank) (surviving_append (early_events study number rank) (late_events study number rank) (late_quiet study number rank))
    ∙ fitting-append study.sizes rank (surviving (early_events study number rank)) (late_events study number rank)

all_low : (study : Study) (number rank : ℕ) → AllByRecursion (λ (e : LaneEvent). IsLow e.frame) (history (trial_lanes study number) (trial_order study number rank))
unfolding history
all_low study number rank = history_low study number [] (trial_order study number rank)

pub pieces_low : (study : Study) (number rank : ℕ) → AllByRecursion (λ (p : Piece). p.life ≤ 3) (trial_pieces study number rank)
pieces_low study number rank =
    fitting_low study.sizes rank (surviving (history (trial_lanes study number) (trial_order study number rank)))
    (surviving_all_of (λ (e : LaneEvent). IsLow e.frame) (history (trial_lanes study number) (trial_order study number rank)) (all_low study number rank))

pub shares : (study : Study) (number rank client group step field : ℕ) → rank < study.sizes.ranks → client < study.sizes.clients → overlaps study.sizes rank client ≡ true → group < study.sizes.groups → step < study.sizes.steps → field < study.sizes.fields → list_any (is_share (record { group = group; plane = plane_of study.sizes step field }) 3 client) (trial_pieces study number rank) ≡ true
shares study number rank client group step field r c t g s f =
    let p : Piece = solved_piece study group 3 step field rank client in
    let own = solved_share study rank client group step field g s f c t in
    let fits : fitting_piece study.sizes rank (record { kind = Client; frame = piece p }) ≡ Some p = by_none (piece_reason study.sizes rank p) p (no_reason study.sizes rank p own.fits) in
    let there : Has p (fitting study.sizes rank (late_events study number rank)) = fitting_has study.sizes rank (record { kind = Client; frame = piece p }) p (late_events study number rank) (late_has study number rank client group step field r c t g s f) fits in
    has_any (is_share (record { group = group; plane = plane_of study.sizes step field }) 3 client) p (trial_pieces study number rank)
    (subst (Has p) (sym (pieces_are study number rank)) (has_right p (fitting study.sizes rank (surviving (early_events study number rank))) (fitting study.sizes rank (late_events study number rank)) there))
    own.share
