-- The sizes of a trial's lanes, and the walks over routes and ranks that add them up.
use Rattle.std.proofs.Common.{◌≡◌, ℕ, zero, suc, ◌+◌, ◌-◌, ◌*◌, ◌%◌, ◌≤◌, ◌<◌, Bool, true, false, eqb, List, [], ◌∷◌, ◌++◌, length, map, take, drop, get_or, inl, inr, Option, Some, None, IfSome, IfNone, refl, sym, ◌∙◌, ap, subst, arith, add-one, append_assoc}
use Rattle.std.specs.Prelude.{sum_by}
use Rattle.std.proofs.lemmas.List.{append-nil, map_push, take_more, take_all, take-append-drop, get_or-map, map-append}
use Rattle.std.proofs.lemmas.Bool.{cases_lt}
use Rattle.std.proofs.Math.Nat.{mul-le-mul}
use Rattle.rand_pcg.specs.Lcg.{Lcg}
use Rattle.rand_pcg.specs.Pcg.{pcg32}
use Rattle.mls_model.specs.declared.lanes.LaneKind.TheVariants.{Client}
use Rattle.mls_model.specs.Numbers.{below}
use Rattle.mls_model.specs.Studies.{Study, Sizes, AreSizes, planes}
use Rattle.mls_model.specs.Frames.{spelling, body}
use Rattle.mls_model.specs.Lanes.{Lane}
use Rattle.mls_model.specs.Designs.{generator, drawn, word}
use Rattle.mls_design.specs.declared.trial.route.Route.{Route}
use Rattle.mls_design.specs.declared.trial.size.Size.{Size}
use Rattle.mls_design.specs.declared.trial.plan.Plan.{Plan}
use Rattle.mls_design.specs.Trial.{routes, is_restarted, planned, piece_count, sent, words_before, lane_with, first_lane, first_lanes, control_lane, control_lanes, resent_frames, resent_lane, resent_lanes, earlier_lanes, trial_lanes, frame_bytes}
use Rattle.mls_design.specs.TrialSizes.{HasDrawn, copies_from, IsPlan, piece_bytes, lane_size, size_of, grown, is_over, is_too_large}
use Rattle.mls_text.proofs.Counted.{length-below, get_or-below}
use Rattle.mls_design.proofs.Counting.{map-below_more}
use Rattle.mls_design.proofs.TrialFrames.{planned_sized, resent_sized, as_they_are, are_written, sum-below_more}
use Rattle.mls_design.proofs.TrialTapes.{size_more, stays_over, first_of, first_more, first_all, first_front, words_more}

-- ---- words

pub word_next : (number n w : ℕ) (g next : Lcg) → HasDrawn number n g → ◌≡◌ {A = ℕ × Lcg} (w, next) (pcg32 g) → (w ≡ word number n) × HasDrawn number (n + 1) next
unfolding word drawn
word_next number n w g next is step =
    let here : ◌≡◌ {A = ℕ × Lcg} (w, next) (pcg32 (drawn (generator number) n)) = step ∙ ap pcg32 is in
    (ap (λ (p : ℕ × Lcg). p.0) here, ap (λ (p : ℕ × Lcg). p.1) here ∙ ap (drawn (generator number)) (sym (add-one n)))

pub none_drawn : (number : ℕ) → HasDrawn number 0 (generator number)
unfolding drawn
none_drawn number = refl

pub restart_more : (number n w : ℕ) (b : Bool) (all : List Bool) → w ≡ word number n → b ≡ (eqb (w % 8) 0) → all ≡ map (is_restarted number) (below n) → all ++ b ∷ [] ≡ map (is_restarted number) (below (n + 1))
unfolding is_restarted
restart_more number n w b all is test so_far =
    ap (λ xs. xs ++ b ∷ []) so_far ∙ ap (λ c. map (is_restarted number) (below n) ++ c ∷ []) (test ∙ ap (λ v. eqb (v % 8) 0) is) ∙ sym (map-below_more (is_restarted number) n)

-- ---- sizes of lanes

same_size : (a b c d : ℕ) → a ≡ c → b ≡ d → ◌≡◌ {A = Size} (record { bytes = a; events = b }) (record { bytes = c; events = d })
same_size a b c d e f = ap (λ m. record { bytes = m; events = b }) e ∙ ap (λ m. record { bytes = c; events = m }) f

planned_pieces : (study : Study) (number : ℕ) (plan : Plan) (r : Route) → IsPlan study number plan → piece_count (planned study number r) ≡ plan.pieces
planned_pieces study number plan r ok = (planned_sized study number r).count ∙ sym ok.pieces

pub first_size : (study : Study) (number n : ℕ) (plan : Plan) (r : Route) (k p : ℕ) → IsPlan study number plan → k ≡ copies_from number n plan.pieces → p ≡ piece_bytes study r → ◌≡◌ {A = Size} (record { bytes = 13 * plan.beats + p * k; events = plan.beats + k }) (lane_size (lane_with r.rank Client (sent number n (planned study number r))))
first_size study number n plan r k p ok is_k is_p =
    let s : ℕ = piece_bytes study r in
    let z = planned_sized study number r in
    let count : piece_count (planned study number r) ≡ plan.pieces = planned_pieces study number plan r ok in
    let long : length (planned study number r) ≡ plan.beats + piece_count (planned study number r) = omega (arith, z.long, z.count, ok.beats) in
    let w = are_written number n s plan.beats (planned study number r) z.each long in
    let all : k ≡ copies_from number n (piece_count (planned study number r)) = is_k ∙ ap (copies_from number n) (sym count) in
    same_size _ _ _ _
    (ap (λ q. 13 * plan.beats + q * k) is_p ∙ ap (λ m. 13 * plan.beats + s * m) all ∙ sym w.bytes)
    (ap (λ m. plan.beats + m) all ∙ sym w.events)

pub first_words : (study : Study) (number n : ℕ) (plan : Plan) (r : Route) (g : Lcg) → IsPlan study number plan → HasDrawn number (n + plan.pieces) g → HasDrawn number (n + piece_count (planned study number r)) g
first_words study number n plan r g ok h = subst (λ m. HasDrawn number (n + m) g) (sym (planned_pieces study number plan r ok)) h

pub resent_size : (study : Study) (r : Route) (p m : ℕ) → p ≡ piece_bytes study r → m ≡ study.sizes.groups * planes study.sizes → ◌≡◌ {A = Size} (record { bytes = p * m; events = m }) (lane_size (resent_lane study r))
resent_size study r p m is_p is_m =
    let s : ℕ = piece_bytes study r in
    let z = resent_sized study r in
    let total = as_they_are s (resent_frames study r) z.each in
    let pieces : piece_count (resent_frames study r) ≡ m = z.count ∙ sym is_m in
    let long : length (resent_frames study r) ≡ m = omega (arith, z.long, is_m) in
    let bytes : length (frame_bytes (resent_frames study r)) ≡ s * m = omega (arith, total, pieces, long, ap (λ q. s * q) pieces) in
    same_size _ _ _ _ (ap (λ q. q * m) is_p ∙ sym bytes) (sym long)

-- ---- bounds

pub written_small : (p k n : ℕ) → p ≤ 67108864 → k ≤ 2 * n → n ≤ 2147483648 → p * k ≤ 288230376151711744
written_small p k n h i j =
    let few : k ≤ 4294967296 = omega arith in
    let most : p * k ≤ 67108864 * 4294967296 = mul-le-mul h few in
    omega arith

pub marks_small : (s : Sizes) → AreSizes s → s.groups * (s.steps * s.fields) ≤ 1073741824
marks_small s ok =
    let q : ℕ = s.ranks - 1 in
    let some : s.ranks ≡ 1 + q = omega (arith, ok.some_ranks) in
    let whole : s.groups * s.steps * s.fields * s.ranks ≡ s.groups * s.steps * s.fields * (1 + q) = ap (λ r. s.groups * s.steps * s.fields * r) some in
    omega (arith, ok.marks, whole)

pub resent_small : (p m : ℕ) → p ≤ 67108864 → m ≤ 1073741824 → p * m ≤ 288230376151711744
resent_small p m h i =
    let most : p * m ≤ 67108864 * 1073741824 = mul-le-mul h i in
    omega arith

-- ---- plans

pub plan_more : (f : ℕ → ℕ) (n sum x : ℕ) → sum ≡ sum_by f (below n) → x ≡ f n → sum + x ≡ sum_by f (below (n + 1))
plan_more f n sum x so_far is = omega (arith, so_far, is, sum-below_more f n)

pub restarted_at : (number n g : ℕ) (all : List Bool) (d : Bool) → all ≡ map (is_restarted number) (below n) → g < n → get_or all g d ≡ is_restarted number g
restarted_at number n g all d are here =
    ap (λ xs. get_or xs g d) are ∙ get_or-map (is_restarted number) (below n) g 0 d (omega (arith, here, length-below n)) ∙ ap (is_restarted number) (get_or-below n g 0 here)

-- ---- walks over routes

pub first_step : (study : Study) (number k : ℕ) (rs : List Route) (d : Route) (size lane : Size) → k < length rs → size ≡ size_of study.sizes.signed (first_of study number (take k rs)) → lane ≡ lane_size (lane_with (get_or rs k d).rank Client (sent number (words_before study number (take k rs)) (planned study number (get_or rs k d)))) → grown size lane ≡ size_of study.sizes.signed (first_of study number (take (k + 1) rs))
unfolding first_lane
first_step study number k rs d size lane here so_far is =
    let front : List Route = take k rs in
    let r : Route = get_or rs k d in
    ap (λ z. grown z lane) so_far ∙ ap (grown (size_of study.sizes.signed (first_of study number front))) is
    ∙ sym (size_more study.sizes.signed (first_of study number front) (first_lane study number front r))
    ∙ ap (size_of study.sizes.signed) (sym (first_more study number front r))
    ∙ ap (λ qs. size_of study.sizes.signed (first_of study number qs)) (sym (take_more rs k d here))

pub words_step : (study : Study) (number k : ℕ) (rs : List Route) (d : Route) (g : Lcg) → k < length rs → HasDrawn number (words_before study number (take k rs) + piece_count (planned study number (get_or rs k d))) g → HasDrawn number (words_before study number (take (k + 1) rs)) g
words_step study number k rs d g here h =
    subst (λ m. HasDrawn number m g) (sym (ap (words_before study number) (take_more rs k d here) ∙ words_more study number (take k rs) (get_or rs k d))) h

-- the front of the first lanes is over the limits, so all of them are
pub first_over : (study : Study) (number k : ℕ) (rs : List Route) → rs ≡ routes study.sizes → is_over (size_of study.sizes.signed (first_of study number (take k rs))) ≡ true → is_over (size_of study.sizes.signed (first_lanes study number)) ≡ true
first_over study number k rs are h =
    let front = first_front study number (take k rs) (drop k rs) in
    let all : first_of study number (take k rs) ++ front.0 ≡ first_lanes study number = sym front.1 ∙ ap (first_of study number) (take-append-drop k rs ∙ are) ∙ first_all study number in
    subst (λ ls. is_over (size_of study.sizes.signed ls) ≡ true) all (stays_over study.sizes.signed (first_of study number (take k rs)) front.0 h)

pub first_done : (study : Study) (number k : ℕ) (rs : List Route) (size : Size) → rs ≡ routes study.sizes → length rs ≤ k → size ≡ size_of study.sizes.signed (first_of study number (take k rs)) → size ≡ size_of study.sizes.signed (first_lanes study number)
first_done study number k rs size are past so_far =
    so_far ∙ ap (λ qs. size_of study.sizes.signed (first_of study number qs)) (take_all k rs past ∙ are) ∙ ap (size_of study.sizes.signed) (first_all study number)

-- a lane more behind others, made of each number or route
pub map_step : (signed : Bool) (before : List Lane) (f : ℕ → Lane) (n : ℕ) (size lane : Size) → size ≡ size_of signed (before ++ map f (below n)) → lane ≡ lane_size (f n) → grown size lane ≡ size_of signed (before ++ map f (below (n + 1)))
map_step signed before f n size lane so_far is =
    ap (λ z. grown z lane) so_far ∙ ap (grown (size_of signed (before ++ map f (below n)))) is
    ∙ sym (size_more signed (before ++ map f (below n)) (f n))
    ∙ ap (size_of signed) (append_assoc before (map f (below n)) (f n ∷ []) ∙ ap (λ ls. before ++ ls) (sym (map-below_more f n)))

pub route_step : (study : Study) (before : List Lane) (k : ℕ) (rs : List Route) (d : Route) (size lane : Size) → k < length rs → size ≡ size_of study.sizes.signed (before ++ map (resent_lane study) (take k rs)) → lane ≡ lane_size (resent_lane study (get_or rs k d)) → grown size lane ≡ size_of study.sizes.signed (before ++ map (resent_lane study) (take (k + 1) rs))
route_step study before k rs d size lane here so_far is =
    let front : List Route = take k rs in
    let r : Route = get_or rs k d in
    ap (λ z. grown z lane) so_far ∙ ap (grown (size_of study.sizes.signed (before ++ map (resent_lane study) front))) is
    ∙ sym (size_more study.sizes.signed (before ++ map (resent_lane study) front) (resent_lane study r))
    ∙ ap (size_of study.sizes.signed) (append_assoc before (map (resent_lane study) front) (resent_lane study r ∷ []) ∙ ap (λ ls. before ++ ls) (sym (map_push (resent_lane study) front r)) ∙ ap (λ qs. before ++ map (resent_lane study) qs) (sym (take_more rs k d here)))

-- a front of the lanes is over the limits, so all of them are
over_front : (signed : Bool) (before front back all : List Lane) → all ≡ front ++ back → is_over (size_of signed (before ++ front)) ≡ true → is_over (size_of signed (before ++ all)) ≡ true
over_front signed before front back all are h =
    subst (λ ls. is_over (size_of signed ls) ≡ true) (append_assoc before front back ∙ ap (λ ls. before ++ ls) (sym are)) (stays_over signed (before ++ front) back h)

below_front : (f : ℕ → Lane) (n m : ℕ) → n ≤ m → (back : List Lane) × (map f (below m) ≡ map f (below n) ++ back)
below_front f n zero h = let none : n ≡ 0 = omega (arith, h) in ([], ap (λ k. map f (below k)) (sym none) ∙ sym (append-nil (map f (below n))))
below_front f n (suc m) h = elim (cases_lt n (suc m)) [
  | inl small ↦
      let rest = below_front f n m (omega (arith, small)) in
      (rest.0 ++ f m ∷ [], map_push f (below m) m ∙ ap (λ ls. ls ++ f m ∷ []) rest.1 ∙ append_assoc (map f (below n)) rest.0 (f m ∷ []))
  | inr large ↦
      let same : suc m ≡ n = omega (arith, h, large) in
      ([], ap (λ k. map f (below k)) same ∙ sym (append-nil (map f (below n))))
]

pub control_over : (signed : Bool) (before : List Lane) (s : Sizes) (n : ℕ) → n ≤ s.ranks → is_over (size_of signed (before ++ map control_lane (below n))) ≡ true → is_over (size_of signed (before ++ control_lanes s)) ≡ true
unfolding control_lanes
control_over signed before s n few h =
    let front = below_front control_lane n s.ranks few in
    over_front signed before (map control_lane (below n)) front.0 (map control_lane (below s.ranks)) front.1 h

pub control_done : (signed : Bool) (before : List Lane) (s : Sizes) (n : ℕ) (size : Size) → n ≡ s.ranks → size ≡ size_of signed (before ++ map control_lane (below n)) → size ≡ size_of signed (before ++ control_lanes s)
unfolding control_lanes
control_done signed before s n size all so_far = so_far ∙ ap (λ k. size_of signed (before ++ map control_lane (below k))) all

pub control_size : (rank : ℕ) → ◌≡◌ {A = Size} (record { bytes = 20; events = 4 }) (lane_size (control_lane rank))
unfolding spelling body
control_size rank = refl

pub resent_over : (study : Study) (before : List Lane) (k : ℕ) (rs : List Route) → rs ≡ routes study.sizes → is_over (size_of study.sizes.signed (before ++ map (resent_lane study) (take k rs))) ≡ true → is_over (size_of study.sizes.signed (before ++ resent_lanes study)) ≡ true
unfolding resent_lanes
resent_over study before k rs are h =
    let whole : map (resent_lane study) (routes study.sizes) ≡ map (resent_lane study) (take k rs) ++ map (resent_lane study) (drop k rs) = ap (map (resent_lane study)) (sym are ∙ sym (take-append-drop k rs)) ∙ map-append (resent_lane study) (take k rs) (drop k rs) in
    over_front study.sizes.signed before (map (resent_lane study) (take k rs)) (map (resent_lane study) (drop k rs)) (map (resent_lane study) (routes study.sizes)) whole h

pub resent_done : (study : Study) (before : List Lane) (k : ℕ) (rs : List Route) (size : Size) → rs ≡ routes study.sizes → length rs ≤ k → size ≡ size_of study.sizes.signed (before ++ map (resent_lane study) (take k rs)) → size ≡ size_of study.sizes.signed (before ++ resent_lanes study)
unfolding resent_lanes
resent_done study before k rs size are past so_far = so_far ∙ ap (λ qs. size_of study.sizes.signed (before ++ map (resent_lane study) qs)) (take_all k rs past ∙ are)

pub all_lanes_are : (study : Study) (number : ℕ) → trial_lanes study number ≡ (first_lanes study number ++ control_lanes study.sizes) ++ resent_lanes study
unfolding trial_lanes earlier_lanes
all_lanes_are study number = refl

pub too_large_by : (study : Study) (number : ℕ) → is_over (size_of study.sizes.signed ((first_lanes study number ++ control_lanes study.sizes) ++ resent_lanes study)) ≡ true → is_too_large study number ≡ true
unfolding is_too_large
too_large_by study number h = subst (λ ls. is_over (size_of study.sizes.signed ls) ≡ true) (sym (all_lanes_are study number)) h

pub too_large_early : (study : Study) (number : ℕ) → is_over (size_of study.sizes.signed (first_lanes study number ++ control_lanes study.sizes)) ≡ true → is_too_large study number ≡ true
too_large_early study number h = too_large_by study number (stays_over study.sizes.signed (first_lanes study number ++ control_lanes study.sizes) (resent_lanes study) h)

pub too_large_first : (study : Study) (number : ℕ) → is_over (size_of study.sizes.signed (first_lanes study number)) ≡ true → is_too_large study number ≡ true
too_large_first study number h = too_large_early study number (stays_over study.sizes.signed (first_lanes study number) (control_lanes study.sizes) h)

pub all_size : (study : Study) (number : ℕ) (size : Size) → size ≡ size_of study.sizes.signed ((first_lanes study number ++ control_lanes study.sizes) ++ resent_lanes study) → is_over size ≡ false → (size ≡ size_of study.sizes.signed (trial_lanes study number)) × (is_too_large study number ≡ false)
unfolding is_too_large
all_size study number size is fits =
    let whole : size ≡ size_of study.sizes.signed (trial_lanes study number) = is ∙ ap (size_of study.sizes.signed) (sym (all_lanes_are study number)) in
    (whole, sym (ap is_over whole) ∙ fits)

pub all_some : (study : Study) (number : ℕ) (r : Option Size) → IfSome r (λ size. size ≡ size_of study.sizes.signed ((first_lanes study number ++ control_lanes study.sizes) ++ resent_lanes study)) → IfSome r (λ size. is_over size ≡ false) → IfSome r (λ size. (size ≡ size_of study.sizes.signed (trial_lanes study number)) × (is_too_large study number ≡ false))
all_some study number (Some size) is fits = all_size study number size is fits
all_some study number None is fits = tt

pub none_all : (study : Study) (number : ℕ) (r : Option Size) → IfNone r (is_over (size_of study.sizes.signed ((first_lanes study number ++ control_lanes study.sizes) ++ resent_lanes study)) ≡ true) → IfNone r (is_too_large study number ≡ true)
none_all study number (Some size) h = tt
none_all study number None h = too_large_by study number h
