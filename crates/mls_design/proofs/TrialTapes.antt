-- The size of a tape, lane by lane.
use Rattle.std.proofs.Common.{◌≡◌, ℕ, zero, suc, ◌+◌, ◌≤◌, ◌<◌, Bool, true, false, ◌⊎◌, cond, ltb, List, [], ◌∷◌, ◌++◌, length, map, get_or, Option, Some, None, refl, sym, ◌∙◌, ap, subst, inl, inr, arith, length-append}
use Rattle.std.specs.List.{flat_map, AllByRecursion}
use Rattle.std.proofs.lemmas.Bool.{cases_Bool, or_cases, or_left, or_right, ltb-true, ltb-false, lt-ltb, le-ltb}
use Rattle.std.proofs.lemmas.List.{append-nil, map-append}
use Rattle.std.proofs.lemmas.List.Sums.{sum_by-append, sum_by-cons}
use Rattle.std.proofs.lemmas.Grind.{flat_map-append}
use Rattle.mls_model.specs.Numbers.{below}
use Rattle.mls_model.specs.Places.{gathered}
use Rattle.mls_model.specs.Studies.{Study, Sizes}
use Rattle.mls_model.specs.Blocks.{overlaps}
use Rattle.mls_model.specs.Frames.{u32}
use Rattle.mls_model.specs.Lanes.{Lane, SpelledLane, lane_spelling, samples_spelling, tape_bytes, most_events}
use Rattle.mls_tape.specs.Tapes.{longest_tape}
use Rattle.mls_laws.proofs.Places.{gathered_more, gathered_append}
use Rattle.mls_design.specs.declared.trial.route.Route.{Route}
use Rattle.mls_design.specs.declared.trial.size.Size.{Size}
use Rattle.mls_design.specs.Trial.{route_of, rank_routes, routes, planned, piece_count, words_before, first_lane, first_lanes, version_of, spelled, lane_events, frame_bytes}
use Rattle.mls_design.specs.TrialSizes.{lane_size, size_of, grown, is_over}
use Rattle.mls_design.proofs.TrialFrames.{pieces-append}

-- ---- bytes of a tape

pub lane-length : (lane : SpelledLane) → length (lane_spelling lane) ≡ 7 + length lane.bytes
unfolding lane_spelling
lane-length lane = omega arith

pub tape-length : (signed : Bool) (version : ℕ) (lanes : List SpelledLane) → length (tape_bytes signed version lanes) ≡ 10 + (length (samples_spelling signed version) + length (flat_map lane_spelling lanes))
unfolding tape_bytes
tape-length signed version lanes = omega (arith, length-append (samples_spelling signed version) (u32 (length lanes) ++ flat_map lane_spelling lanes))

pub lanes-append : (xs ys : List Lane) → flat_map lane_spelling (map spelled (xs ++ ys)) ≡ flat_map lane_spelling (map spelled xs) ++ flat_map lane_spelling (map spelled ys)
lanes-append xs ys = ap (flat_map lane_spelling) (map-append spelled xs ys) ∙ flat_map-append lane_spelling (map spelled xs) (map spelled ys)

bytes_more : (signed : Bool) (xs ys : List Lane) → length (tape_bytes signed (version_of signed) (map spelled (xs ++ ys))) ≡ length (tape_bytes signed (version_of signed) (map spelled xs)) + length (flat_map lane_spelling (map spelled ys))
bytes_more signed xs ys = omega (arith, tape-length signed (version_of signed) (map spelled (xs ++ ys)), tape-length signed (version_of signed) (map spelled xs), ap length (lanes-append xs ys), length-append (flat_map lane_spelling (map spelled xs)) (flat_map lane_spelling (map spelled ys)))

events_more : (xs ys : List Lane) → lane_events (xs ++ ys) ≡ lane_events xs + lane_events ys
unfolding lane_events
events_more xs ys = sum_by-append (λ (lane : Lane). length lane.frames) xs ys

events_one : (lane : Lane) → lane_events (lane ∷ []) ≡ length lane.frames
unfolding lane_events
events_one lane = sum_by-cons (λ (l : Lane). length l.frames) lane [] ∙ omega arith

same_size : (a b c d : ℕ) → a ≡ c → b ≡ d → ◌≡◌ {A = Size} (record { bytes = a; events = b }) (record { bytes = c; events = d })
same_size a b c d e f = ap (λ m. record { bytes = m; events = b }) e ∙ ap (λ m. record { bytes = c; events = m }) f

-- one lane more
pub size_more : (signed : Bool) (lanes : List Lane) (lane : Lane) → size_of signed (lanes ++ lane ∷ []) ≡ grown (size_of signed lanes) (lane_size lane)
size_more signed lanes lane =
    let one : length (lane_spelling (spelled lane) ++ []) ≡ 7 + length (frame_bytes lane.frames) = ap length (append-nil (lane_spelling (spelled lane))) ∙ lane-length (spelled lane) in
    same_size _ _ _ _ (bytes_more signed lanes (lane ∷ []) ∙ ap (λ m. length (tape_bytes signed (version_of signed) (map spelled lanes)) + m) one)
    (events_more lanes (lane ∷ []) ∙ ap (λ m. lane_events lanes + m) (events_one lane))

-- no lane
pub no_lane : (signed : Bool) (size : Size) → size.bytes ≡ cond signed 11 10 → size.events ≡ 0 → size ≡ size_of signed []
unfolding tape_bytes lane_events
no_lane true size bytes events = same_size _ _ _ _ bytes events
no_lane false size bytes events = same_size _ _ _ _ bytes events

-- ---- limits

pub over_by : (size : Size) → (longest_tape < size.bytes) ⊎ (most_events < size.events) → is_over size ≡ true
unfolding is_over
over_by size h = elim h [ inl b ↦ or_left _ _ (lt-ltb _ _ b) | inr e ↦ or_right _ _ (lt-ltb _ _ e) ]

pub over_is : (size : Size) → is_over size ≡ true → (longest_tape < size.bytes) ⊎ (most_events < size.events)
unfolding is_over
over_is size h = elim (or_cases _ _ h) [ inl b ↦ inl (ltb-true _ _ b) | inr e ↦ inr (ltb-true _ _ e) ]

pub within : (size : Size) → is_over size ≡ false → (size.bytes ≤ longest_tape) × (size.events ≤ most_events)
unfolding is_over
within size h =
    elim (cases_Bool (ltb longest_tape size.bytes)) [
      | inl b ↦ absurd (clash (over_by size (inl (ltb-true _ _ b))) h)
      | inr b ↦ elim (cases_Bool (ltb most_events size.events)) [
        | inl e ↦ absurd (clash (over_by size (inr (ltb-true _ _ e))) h)
        | inr e ↦ (ltb-false _ _ b, ltb-false _ _ e)
      ]
    ]
  where
    clash : is_over size ≡ true → is_over size ≡ false → ⊥
    clash t f = cc

pub within_limits : (size : Size) → size.bytes ≤ longest_tape → size.events ≤ most_events → is_over size ≡ false
unfolding is_over
within_limits size b e = rw (le-ltb _ _ b, le-ltb _ _ e) refl

pub empty_small : (signed : Bool) (bytes : ℕ) → bytes ≡ cond signed 11 10 → bytes ≤ longest_tape
empty_small true bytes is = omega (arith, is)
empty_small false bytes is = omega (arith, is)

-- what with_lane answers
chose : (b : Bool) (g v : Size) → ◌≡◌ {A = Option Size} (cond b None (Some g)) (Some v) → (v ≡ g) × (b ≡ false)
chose true g v e = absurd cc
chose false g v e = (let same : v ≡ g = cc in same, refl)

pub grew : (g v : Size) (answer : Option Size) → answer ≡ cond (is_over g) None (Some g) → answer ≡ Some v → (v ≡ g) × (is_over g ≡ false)
grew g v answer is was = chose (is_over g) g v (sym is ∙ was)

refused : (b : Bool) (g : Size) → ◌≡◌ {A = Option Size} (cond b None (Some g)) None → b ≡ true
refused true g e = refl
refused false g e = absurd cc

pub was_over : (g : Size) (answer : Option Size) → answer ≡ cond (is_over g) None (Some g) → answer ≡ None → is_over g ≡ true
was_over g answer is was = refused (is_over g) g (sym is ∙ was)

-- what is over the limits with some lanes is so with more
pub stays_over : (signed : Bool) (xs ys : List Lane) → is_over (size_of signed xs) ≡ true → is_over (size_of signed (xs ++ ys)) ≡ true
stays_over signed xs ys h = over_by (size_of signed (xs ++ ys)) (elim (over_is (size_of signed xs) h) [
  | inl b ↦ inl (omega (arith, b, bytes_more signed xs ys))
  | inr e ↦ inr (omega (arith, e, events_more xs ys))
])

-- ---- the first lanes of some routes

abbrev pub first_of : Study → ℕ → List Route → List Lane
first_of study number rs = gathered (λ before r. first_lane study number before r ∷ []) [] rs

pub first_none : (study : Study) (number : ℕ) → first_of study number [] ≡ []
unfolding gathered
first_none study number = refl

pub first_more : (study : Study) (number : ℕ) (rs : List Route) (r : Route) → first_of study number (rs ++ r ∷ []) ≡ first_of study number rs ++ first_lane study number rs r ∷ []
first_more study number rs r = gathered_more (λ before q. first_lane study number before q ∷ []) [] rs r

pub first_all : (study : Study) (number : ℕ) → first_of study number (routes study.sizes) ≡ first_lanes study number
unfolding first_lanes
first_all study number = refl

-- the first lanes of more routes
pub first_front : (study : Study) (number : ℕ) (rs qs : List Route) → (lanes : List Lane) × (first_of study number (rs ++ qs) ≡ first_of study number rs ++ lanes)
first_front study number rs qs = (gathered (λ before q. first_lane study number before q ∷ []) rs qs, gathered_append (λ before q. first_lane study number before q ∷ []) [] rs qs)

pub words_none : (study : Study) (number : ℕ) → words_before study number [] ≡ study.sizes.groups
unfolding words_before
words_none study number = omega arith

pub words_more : (study : Study) (number : ℕ) (rs : List Route) (r : Route) → words_before study number (rs ++ r ∷ []) ≡ words_before study number rs + piece_count (planned study number r)
unfolding words_before
words_more study number rs r =
    let list : flat_map (planned study number) (rs ++ r ∷ []) ≡ flat_map (planned study number) rs ++ planned study number r = flat_map-append (planned study number) rs (r ∷ []) ∙ ap (λ xs. flat_map (planned study number) rs ++ xs) (append-nil (planned study number r)) in
    omega (arith, ap piece_count list, pieces-append (flat_map (planned study number) rs) (planned study number r))

-- ---- routes

-- a route of the study: its rank and client are ones
abbrev pub IsRoute : Sizes → Route → Type 0
IsRoute s r = (r.rank < s.ranks) × (r.client < s.clients)

all-append : (P : Route → Type 0) (xs ys : List Route) → AllByRecursion P xs → AllByRecursion P ys → AllByRecursion P (xs ++ ys)
all-append P [] ys p q = q
all-append P (x ∷ xs) ys p q = (p.0, all-append P xs ys p.1 q)

all-below : (P : Route → Type 0) (f : ℕ → List Route) (n : ℕ) → ((i : ℕ) → i < n → AllByRecursion P (f i)) → AllByRecursion P (flat_map f (below n))
all-below P f zero each = tt
all-below P f (suc n) each = subst (AllByRecursion P) (sym (flat_map-append f (below n) (n ∷ [])))
    (all-append P (flat_map f (below n)) (f n ++ []) (all-below P f n (λ i h. each i (omega (arith, h))))
    (subst (AllByRecursion P) (sym (append-nil (f n))) (each n (omega arith))))

route_by : (s : Sizes) (rank client : ℕ) (b : Bool) → rank < s.ranks → client < s.clients → AllByRecursion (IsRoute s) (cond b (record { rank = rank; client = client } ∷ []) [])
route_by s rank client true h k = ((h, k), tt)
route_by s rank client false h k = tt

pub routes_known : (s : Sizes) → AllByRecursion (IsRoute s) (routes s)
unfolding routes rank_routes
routes_known s = all-below (IsRoute s) (rank_routes s) s.ranks (λ rank h. all-below (IsRoute s) (route_of s rank) s.clients (λ client k. route_by s rank client (overlaps s rank client) h k))

pub all_at : (P : Route → Type 0) (xs : List Route) (i : ℕ) (d : Route) → AllByRecursion P xs → i < length xs → P (get_or xs i d)
all_at P [] i d each here = absurd (omega arith)
all_at P (x ∷ xs) zero d each here = each.0
all_at P (x ∷ xs) (suc i) d each here = all_at P xs i d each.1 (omega arith)

pub route_at : (s : Sizes) (rs : List Route) (k : ℕ) (d : Route) → rs ≡ routes s → k < length rs → IsRoute s (get_or rs k d)
route_at s rs k d are here = all_at (IsRoute s) rs k d (subst (AllByRecursion (IsRoute s)) (sym are) (routes_known s)) here
