-- The tape of trial is read as its lanes.
use Rattle.std.proofs.Common.{◌≡◌, ℕ, zero, suc, ◌+◌, ◌-◌, ◌*◌, ◌/◌, ◌^◌, ◌≤◌, ◌<◌, max, min, Bool, true, false, cond, List, [], ◌∷◌, ◌++◌, length, map, drop, replicate, Ok, Err, refl, sym, ◌∙◌, ap, subst, arith, length-append, mod-lt}
use Rattle.std.specs.List.{flat_map, AllByRecursion}
use Rattle.std.proofs.lemmas.List.{append-nil, map_push, length-map, drop_at}
use Rattle.std.proofs.lemmas.List.Sums.{sum_by-cons}
use Rattle.std.proofs.lemmas.Grind.{flat_map-append}
use Rattle.std.proofs.lemmas.Nat.{div_below}
use Rattle.std.proofs.Math.Nat.{mul-le-mul, mul-le-mul_right}
use Rattle.mls_model.specs.declared.blocks.Span.{Span}
use Rattle.mls_model.specs.declared.lanes.LaneKind.{LaneKind}
use Rattle.mls_model.specs.declared.lanes.LaneKind.TheVariants.{Client}
use Rattle.mls_model.specs.declared.lanes.LaneEnd.TheVariants.{Clean}
use Rattle.mls_model.specs.Numbers.{below, joined}
use Rattle.mls_model.specs.Studies.{Study, Sizes, IsStudy, AreSizes}
use Rattle.mls_model.specs.Blocks.{block, part, overlap, overlaps, width}
use Rattle.mls_model.specs.Frames.{Frame, Piece, IsFrame, IsPiece, piece, beat, bye, save, crash, hello, welcome, refuse, u16, u32, piece_head, body, spelling}
use Rattle.mls_model.specs.Lanes.{Read, Lane, IsSpelledLane, SpellsTape, tape_bytes, tape_of, frames_in, lane_frames, lane_rest, end_at, lane_of, lane_spelled, lane_spelling, event_sum, is_tape_version}
use Rattle.mls_model.specs.Designs.{word, solve, solved_row, solved_piece}
use Rattle.mls_frame.proofs.Again.{seen_again}
use Rattle.mls_frame.proofs.Within.{spelling-some}
use Rattle.mls_tape.specs.Tapes.{longest_tape}
use Rattle.mls_tape.specs.Reading.{Fails}
use Rattle.mls_tape.specs.declared.faults.TapeFault.{TapeFault}
use Rattle.mls_tape.specs.declared.faults.TapeFault.TheVariants.{Bad, Memory}
use Rattle.mls_model.specs.declared.lanes.TapeWhy.{TapeWhy}
use Rattle.mls_tape.proofs.LaneLemmas.{whole_step, none_step, few_sight}
use Rattle.mls_tape.proofs.Spellings.{tape_is_read}
use Rattle.mls_model.specs.Places.{gathered}
use Rattle.mls_model.specs.Frames.{more}
use Rattle.mls_design.specs.declared.trial.route.Route.{Route}
use Rattle.mls_design.specs.Trial.{route_of, rank_routes, routes, is_restarted, life_pieces, life_frames, group_frames, planned, is_piece, piece_count, copies, written, sent, words_before, lane_with, first_lane, first_lanes, control_lane, control_lanes, resent_frames, resent_lane, resent_lanes, earlier_lanes, trial_lanes, frame_bytes, spelled, version_of, trial_bytes, lane_events}
use Rattle.mls_design.specs.TrialSizes.{size_of, is_over, is_too_large}
use Rattle.mls_design.proofs.Inputs.{solve_small}
use Rattle.mls_design.proofs.Pieces.{length-rows, body_small}
use Rattle.mls_design.proofs.TrialFrames.{sent_none, sent_one, sent_append}
use Rattle.mls_design.proofs.TrialTapes.{IsRoute, routes_known, within, lane-length, tape-length}
use Rattle.mls_text.proofs.Counted.{length-below}

-- ---- what holds of each element

pub all-append : {A : Type 0} (P : A → Type 0) (xs ys : List A) → AllByRecursion P xs → AllByRecursion P ys → AllByRecursion P (xs ++ ys)
all-append P [] ys p q = q
all-append P (x ∷ xs) ys p q = (p.0, all-append P xs ys p.1 q)

pub all_lists : {A : Type 0} (P : A → Type 0) (f : ℕ → List A) (n : ℕ) → ((i : ℕ) → i < n → AllByRecursion P (f i)) → AllByRecursion P (flat_map f (below n))
all_lists P f zero each = tt
all_lists P f (suc n) each = subst (AllByRecursion P) (sym (flat_map-append f (below n) (n ∷ [])))
    (all-append P (flat_map f (below n)) (f n ++ []) (all_lists P f n (λ i h. each i (omega (arith, h))))
    (subst (AllByRecursion P) (sym (append-nil (f n))) (each n (omega arith))))

pub all_map : {A : Type 0} (P : A → Type 0) (f : ℕ → A) (n : ℕ) → ((i : ℕ) → i < n → P (f i)) → AllByRecursion P (map f (below n))
all_map P f zero each = tt
all_map P f (suc n) each = subst (AllByRecursion P) (sym (map_push f (below n) n))
    (all-append P (map f (below n)) (f n ∷ []) (all_map P f n (λ i h. each i (omega (arith, h)))) (each n (omega arith), tt))

all_repeated : {A : Type 0} (P : A → Type 0) (x : A) (k : ℕ) → P x → AllByRecursion P (replicate k x)
all_repeated P x zero h = tt
all_repeated P x (suc k) h = (h, all_repeated P x k h)

pub all_over : {A B : Type 0} (P : A → Type 0) (Q : B → Type 0) (f : A → B) (xs : List A) → AllByRecursion P xs → ((x : A) → P x → Q (f x)) → AllByRecursion Q (map f xs)
all_over P Q f [] all each = tt
all_over P Q f (x ∷ xs) all each = (each x all.0, all_over P Q f xs all.1 each)

pub all_so : {A : Type 0} (P Q : A → Type 0) (xs : List A) → AllByRecursion P xs → ((x : A) → P x → Q x) → AllByRecursion Q xs
all_so P Q [] all each = tt
all_so P Q (x ∷ xs) all each = (each x all.0, all_so P Q xs all.1 each)

-- ---- the frames of a route

-- a piece of the solver's on a route, of a life up to a greatest one
pub record IsSolved (study : Study) (r : Route) (most : ℕ) (p : Piece) : Type 0 where
  pub group : ℕ
  pub life : ℕ
  pub step : ℕ
  pub field : ℕ
  pub group_in : group < study.sizes.groups
  pub life_in : life ≤ most
  pub step_in : step < study.sizes.steps
  pub field_in : field < study.sizes.fields
  pub is : p ≡ solved_piece study group life step field r.rank r.client

-- a frame that trial sends on a route
abbrev pub IsOfRoute : Study → Route → ℕ → Frame → Type 0
IsOfRoute study r most (piece p) = IsSolved study r most p
IsOfRoute study r most (beat group life) = (group < study.sizes.groups) × (life ≤ most)
IsOfRoute study r most (bye group life) = ⊥
IsOfRoute study r most save = ⊥
IsOfRoute study r most crash = ⊥
IsOfRoute study r most (hello version group life client rank) = ⊥
IsOfRoute study r most (welcome lane) = ⊥
IsOfRoute study r most (refuse reason value) = ⊥

step_all : (study : Study) (r : Route) (most group life step : ℕ) → group < study.sizes.groups → life ≤ most → step < study.sizes.steps → AllByRecursion (IsOfRoute study r most) (map (λ field. piece (solved_piece study group life step field r.rank r.client)) (below study.sizes.fields))
step_all study r most group life step g l s = all_map (IsOfRoute study r most) (λ field. piece (solved_piece study group life step field r.rank r.client)) study.sizes.fields (λ field h. record { group = group; life = life; step = step; field = field; group_in = g; life_in = l; step_in = s; field_in = h; is = refl })

pub life_all : (study : Study) (r : Route) (most group life steps : ℕ) → group < study.sizes.groups → life ≤ most → steps ≤ study.sizes.steps → AllByRecursion (IsOfRoute study r most) (life_pieces study r group life steps)
unfolding life_pieces
life_all study r most group life steps g l s = all_lists (IsOfRoute study r most) (λ step. map (λ field. piece (solved_piece study group life step field r.rank r.client)) (below study.sizes.fields)) steps (λ step h. step_all study r most group life step g l (omega (arith, h, s)))

frames_all : (study : Study) (r : Route) (most group life steps : ℕ) → group < study.sizes.groups → life ≤ most → steps ≤ study.sizes.steps → AllByRecursion (IsOfRoute study r most) (life_frames study r group life steps)
unfolding life_frames
frames_all study r most group life steps g l s = ((g, l), life_all study r most group life steps g l s)

by_restart : (study : Study) (r : Route) (group : ℕ) (again : Bool) → group < study.sizes.groups → AllByRecursion (IsOfRoute study r 2) (cond again (life_frames study r group 1 (study.sizes.steps / 2) ++ life_frames study r group 2 study.sizes.steps) (life_frames study r group 1 study.sizes.steps))
by_restart study r group true g =
    let half : study.sizes.steps / 2 ≤ study.sizes.steps = omega arith in
    all-append (IsOfRoute study r 2) (life_frames study r group 1 (study.sizes.steps / 2)) (life_frames study r group 2 study.sizes.steps) (frames_all study r 2 group 1 (study.sizes.steps / 2) g (omega arith) half) (frames_all study r 2 group 2 study.sizes.steps g (omega arith) (omega arith))
by_restart study r group false g = frames_all study r 2 group 1 study.sizes.steps g (omega arith) (omega arith)

group_all : (study : Study) (number : ℕ) (r : Route) (group : ℕ) → group < study.sizes.groups → AllByRecursion (IsOfRoute study r 2) (group_frames study number r group)
unfolding group_frames
group_all study number r group g = by_restart study r group (is_restarted number group) g

planned_all : (study : Study) (number : ℕ) (r : Route) → AllByRecursion (IsOfRoute study r 2) (planned study number r)
unfolding planned
planned_all study number r = all_lists (IsOfRoute study r 2) (group_frames study number r) study.sizes.groups (λ group h. group_all study number r group h)

written_all : (P : Frame → Type 0) (b : Bool) (k : ℕ) (x : Frame) → P x → AllByRecursion P (cond b (replicate k x) (x ∷ []))
written_all P true k x h = all_repeated P x k h
written_all P false k x h = (h, tt)

sent_all : (P : Frame → Type 0) (number n : ℕ) (fs : List Frame) → AllByRecursion P fs → AllByRecursion P (sent number n fs)
sent_all P number n [] all = subst (AllByRecursion P) (sym (sent_none number n)) tt
sent_all P number n (x ∷ xs) all =
    subst (AllByRecursion P) (sym (sent_append number n (x ∷ []) xs ∙ ap (λ r. r ++ sent number (n + piece_count (x ∷ [])) xs) (sent_one number n x)))
    (all-append P (written number n x) (sent number (n + piece_count (x ∷ [])) xs) (written_all P (is_piece x) (copies (word number n)) x all.0) (sent_all P number (n + piece_count (x ∷ [])) xs all.1))

pub first_all_frames : (study : Study) (number n : ℕ) (r : Route) → AllByRecursion (IsOfRoute study r 2) (sent number n (planned study number r))
first_all_frames study number n r = sent_all (IsOfRoute study r 2) number n (planned study number r) (planned_all study number r)

pub resent_all_frames : (study : Study) (r : Route) → AllByRecursion (IsOfRoute study r 3) (resent_frames study r)
unfolding resent_frames
resent_all_frames study r = all_lists (IsOfRoute study r 3) (λ group. life_pieces study r group 3 study.sizes.steps) study.sizes.groups (λ group h. life_all study r 3 group 3 study.sizes.steps h (omega arith) (omega arith))

-- ---- they are frames

block_ends : (m n r : ℕ) → 1 ≤ n → r < n → ((r + 1) * m) / n ≤ m
block_ends m n r some here =
    let up : (r + 1) * m ≤ n * m = mul-le-mul_right m (omega arith) in
    let less : ((r + 1) * m) / n < m + 1 = div_below ((r + 1) * m) n (m + 1) (omega arith) (omega arith) in omega arith

block_begins : (m n r : ℕ) → 1 ≤ n → r < n → (r * m) / n ≤ m
block_begins m n r some here =
    let up : r * m ≤ n * m = mul-le-mul_right m (omega arith) in
    let less : (r * m) / n < m + 1 = div_below (r * m) n (m + 1) (omega arith) (omega arith) in omega arith

met : (a b c d m : ℕ) → a ≤ m → b ≤ m → c ≤ m → d ≤ m → (max a c ≤ m) × (max (max a c) (min b d) - max a c ≤ m)
met a b c d m ha hb hc hd = (omega arith, omega arith)

overlap_small : (s : Sizes) (rank client : ℕ) → AreSizes s → rank < s.ranks → client < s.clients → ((overlap s rank client).first ≤ 1048576) × (width (overlap s rank client) ≤ 1048576)
overlap_small s rank client ok r c =
    let a = block_begins s.cells s.ranks rank ok.some_ranks r in
    let b = block_ends s.cells s.ranks rank ok.some_ranks r in
    let d = block_begins s.cells s.clients client ok.some_clients c in
    let e = block_ends s.cells s.clients client ok.some_clients c in
    met (block s rank).first (block s rank).end (part s client).first (part s client).end 1048576 (omega (arith, a, ok.cells)) (omega (arith, b, ok.cells)) (omega (arith, d, ok.cells)) (omega (arith, e, ok.cells))

row_small : (study : Study) (group sim step field first count : ℕ) → IsStudy study → AllByRecursion (λ x. x < 2 ^ 16) (solved_row study group sim step field first count)
unfolding solved_row
row_small study group sim step field first count ok = all_map (λ x. x < 2 ^ 16) (λ x. solve study group sim step field (first + x)) count (λ x h. omega (arith, solve_small study group sim step field (first + x) (omega (arith, ok.count, ok.sizes.parameters))))

solved_fits : (study : Study) (group life step field rank client : ℕ) → IsStudy study → group < study.sizes.groups → life ≤ 3 → step < study.sizes.steps → field < study.sizes.fields → rank < study.sizes.ranks → client < study.sizes.clients → IsPiece (solved_piece study group life step field rank client)
unfolding solved_piece
solved_fits study group life step field rank client ok g l s f r c =
    let z = ok.sizes in
    let own : Span = overlap study.sizes rank client in
    let few = overlap_small study.sizes rank client z r c in
    let few_steps : step ≤ 4096 = omega (arith, s, z.steps) in
    let few_fields : study.sizes.fields ≤ 4 = z.fields in
    let place : step * study.sizes.fields ≤ 4096 * 4 = mul-le-mul few_steps few_fields in
    record {
      life = omega (arith, l);
      group = omega (arith, g, z.groups);
      plane = omega (arith, place, f, z.fields);
      client = omega (arith, c, z.clients);
      rows = omega (arith, z.parameters);
      first = omega (arith, few.0);
      count = omega (arith, few.1);
      samples = all_lists (λ x. x < 2 ^ 16) (λ sim. solved_row study group sim step field own.first (width own)) (2 + study.sizes.parameters) (λ sim h. row_small study group sim step field own.first (width own) ok);
      size = length-rows study group step field own.first (width own) (2 + study.sizes.parameters);
      body = body_small (2 + study.sizes.parameters) (width own) (omega (arith, z.parameters)) few.1;
    }

frame_fits : (study : Study) (r : Route) (most : ℕ) (f : Frame) → IsStudy study → IsRoute study.sizes r → most ≤ 3 → IsOfRoute study r most f → IsFrame f
frame_fits study r most (piece p) ok known few h = subst IsPiece (sym h.is) (solved_fits study h.group h.life h.step h.field r.rank r.client ok h.group_in (omega (arith, h.life_in, few)) h.step_in h.field_in known.0 known.1)
frame_fits study r most (beat group life) ok known few h = (omega (arith, h.0, ok.sizes.groups), omega (arith, h.1, few))
frame_fits study r most (bye group life) ok known few h = absurd h
frame_fits study r most save ok known few h = absurd h
frame_fits study r most crash ok known few h = absurd h
frame_fits study r most (hello version group life client rank) ok known few h = absurd h
frame_fits study r most (welcome lane) ok known few h = absurd h
frame_fits study r most (refuse reason value) ok known few h = absurd h

-- ---- spellings are bytes

abbrev IsByte : ℕ → Type 0
IsByte b = b < 256

by_two : (n : ℕ) → AllByRecursion IsByte (u16 n)
by_two n = (mod-lt _ (omega arith), (mod-lt _ (omega arith), tt))

by_four : (n : ℕ) → AllByRecursion IsByte (u32 n)
by_four n = (mod-lt _ (omega arith), (mod-lt _ (omega arith), (mod-lt _ (omega arith), (mod-lt _ (omega arith), tt))))

by_samples : (xs : List ℕ) → AllByRecursion IsByte (flat_map u16 xs)
by_samples [] = tt
by_samples (x ∷ xs) = all-append IsByte (u16 x) (flat_map u16 xs) (by_two x) (by_samples xs)

by_head : (p : Piece) → AllByRecursion IsByte (piece_head p)
unfolding piece_head
by_head p =
    let last : List ℕ = u32 p.first ++ u32 p.count in
    let rows : List ℕ = u16 p.rows ++ last in
    let client : List ℕ = u16 p.client ++ rows in
    let plane : List ℕ = u32 p.plane ++ client in
    let group : List ℕ = u32 p.group ++ plane in
    all-append IsByte (u32 p.life) group (by_four p.life)
    (all-append IsByte (u32 p.group) plane (by_four p.group)
    (all-append IsByte (u32 p.plane) client (by_four p.plane)
    (all-append IsByte (u16 p.client) rows (by_two p.client)
    (all-append IsByte (u16 p.rows) last (by_two p.rows)
    (all-append IsByte (u32 p.first) (u32 p.count) (by_four p.first) (by_four p.count))))))

by_body : (f : Frame) → IsFrame f → AllByRecursion IsByte (body f)
unfolding body
by_body (piece p) h = (omega arith, all-append IsByte (piece_head p) (flat_map u16 p.samples) (by_head p) (by_samples p.samples))
by_body (beat group life) h = (omega arith, all-append IsByte (u32 group) (u32 life) (by_four group) (by_four life))
by_body (bye group life) h = (omega arith, all-append IsByte (u32 group) (u32 life) (by_four group) (by_four life))
by_body save h = (omega arith, tt)
by_body crash h = (omega arith, tt)
by_body (hello version group life client rank) h =
    let last : List ℕ = u16 client ++ u16 rank in
    let lives : List ℕ = u32 life ++ last in (
      omega arith,
      all-append IsByte (u16 version) (u32 group ++ lives) (by_two version)
          (all-append IsByte (u32 group) lives (by_four group)
          (all-append IsByte (u32 life) last (by_four life)
          (all-append IsByte (u16 client) (u16 rank) (by_two client) (by_two rank)))),
    )
by_body (welcome lane) h = (omega arith, by_four lane)
by_body (refuse reason value) h = (omega arith, (omega (arith, h.0), by_four value))

by_spelling : (f : Frame) → IsFrame f → AllByRecursion IsByte (spelling f)
unfolding spelling
by_spelling f h = all-append IsByte (u32 (length (body f))) (body f) (by_four (length (body f))) (by_body f h)

by_frames : (fs : List Frame) → AllByRecursion IsFrame fs → AllByRecursion IsByte (frame_bytes fs)
by_frames [] all = tt
by_frames (f ∷ fs) all = all-append IsByte (spelling f) (frame_bytes fs) (by_spelling f all.0) (by_frames fs all.1)

-- ---- a lane's bytes are read as its frames

enough : (fs : List Frame) → length fs ≤ length (frame_bytes fs)
enough [] = omega arith
enough (f ∷ fs) = omega (arith, enough fs, length-append (spelling f) (frame_bytes fs), spelling-some f)

found : (n : ℕ) (fs : List Frame) → AllByRecursion IsFrame fs → length fs ≤ n → frames_in n (frame_bytes fs) ≡ (fs, [])
found n [] all few = none_step n [] more (few_sight [] (omega arith)) tt
found zero (f ∷ fs) all few = absurd (omega arith)
found (suc n) (f ∷ fs) all few =
    let rest : List ℕ = frame_bytes fs in
    let size : ℕ = length (spelling f) in
    let back : drop size (spelling f ++ rest) ≡ rest = drop_at (spelling f) rest size refl in
    let more_frames : frames_in n (drop size (spelling f ++ rest)) ≡ (fs, []) = ap (frames_in n) back ∙ found n fs all.1 (omega arith) in
    whole_step n (spelling f ++ rest) f size (seen_again f rest all.0)
    ∙ ap (λ (x : List Frame × List ℕ). (f ∷ x.0, x.1)) more_frames

read_lane : (fs : List Frame) → AllByRecursion IsFrame fs → frames_in (length (frame_bytes fs)) (frame_bytes fs) ≡ (fs, [])
read_lane fs all = found (length (frame_bytes fs)) fs all (enough fs)

clean : (place : ℕ) → end_at place [] ≡ Clean
unfolding end_at
clean place = refl

lane_by : (rank : ℕ) (kind : LaneKind) (fs : List Frame) → AllByRecursion IsFrame fs → lane_of rank kind (frame_bytes fs) ≡ lane_with rank kind fs
unfolding lane_of
lane_by rank kind fs all =
    let both = read_lane fs all in
    let frames : lane_frames (frame_bytes fs) ≡ fs = ap (λ (x : List Frame × List ℕ). x.0) both in
    let rest : lane_rest (frame_bytes fs) ≡ [] = ap (λ (x : List Frame × List ℕ). x.1) both in
    let place : ℕ = length (joined (map spelling (lane_frames (frame_bytes fs)))) in
    let ended = ap (end_at place) rest ∙ clean place in
    ap (λ (gs : List Frame). record { rank = rank; kind = kind; frames = gs; end = end_at place (lane_rest (frame_bytes fs)) }) frames
    ∙ ap (λ e. record { rank = rank; kind = kind; frames = fs; end = e }) ended

-- ---- the lanes

-- a lane that ends with a whole frame, of a rank of the study
pub record IsMade (s : Sizes) (lane : Lane) : Type 0 where
  pub rank : lane.rank < s.ranks
  pub frames : AllByRecursion IsFrame lane.frames
  pub end : lane.end ≡ Clean

-- a client lane of a route, with pieces of a life up to a greatest one
pub record IsSentLane (study : Study) (most : ℕ) (lane : Lane) : Type 0 where
  pub route : Route
  pub known : IsRoute study.sizes route
  pub rank : lane.rank ≡ route.rank
  pub kind : lane.kind ≡ Client
  pub frames : AllByRecursion (IsOfRoute study route most) lane.frames
  pub end : lane.end ≡ Clean

sent_made : (study : Study) (most : ℕ) (lane : Lane) → IsStudy study → most ≤ 3 → IsSentLane study most lane → IsMade study.sizes lane
sent_made study most lane ok few s = record {
  rank = omega (arith, s.rank, s.known.0);
  frames = all_so (IsOfRoute study s.route most) IsFrame lane.frames s.frames (λ f h. frame_fits study s.route most f ok s.known few h);
  end = s.end;
}

first_sent : (study : Study) (number : ℕ) (before : List Route) (r : Route) → IsRoute study.sizes r → IsSentLane study 2 (first_lane study number before r)
unfolding first_lane
first_sent study number before r known = record { route = r; known = known; rank = refl; kind = refl; frames = first_all_frames study number (words_before study number before) r; end = refl }

firsts_sent : (study : Study) (number : ℕ) (before rs : List Route) → AllByRecursion (IsRoute study.sizes) rs → AllByRecursion (IsSentLane study 2) (gathered (λ front r. first_lane study number front r ∷ []) before rs)
unfolding gathered
firsts_sent study number before [] known = tt
firsts_sent study number before (r ∷ rs) known = (first_sent study number before r known.0, firsts_sent study number (before ++ r ∷ []) rs known.1)

pub first_lanes_sent : (study : Study) (number : ℕ) → AllByRecursion (IsSentLane study 2) (first_lanes study number)
unfolding first_lanes
first_lanes_sent study number = firsts_sent study number [] (routes study.sizes) (routes_known study.sizes)

pub resent_lanes_sent : (study : Study) → AllByRecursion (IsSentLane study 3) (resent_lanes study)
unfolding resent_lanes
resent_lanes_sent study = all_over (IsRoute study.sizes) (IsSentLane study 3) (resent_lane study) (routes study.sizes) (routes_known study.sizes) (λ r known. record { route = r; known = known; rank = refl; kind = refl; frames = resent_all_frames study r; end = refl })

control_made : (s : Sizes) → AllByRecursion (IsMade s) (control_lanes s)
unfolding control_lanes
control_made s = all_map (IsMade s) control_lane s.ranks (λ rank h. record { rank = h; frames = (tt, (tt, (tt, (tt, tt)))); end = refl })

pub all_made : (study : Study) (number : ℕ) → IsStudy study → AllByRecursion (IsMade study.sizes) (trial_lanes study number)
unfolding trial_lanes earlier_lanes
all_made study number ok =
    let P : Lane → Type 0 = IsMade study.sizes in
    all-append P (first_lanes study number ++ control_lanes study.sizes) (resent_lanes study)
    (all-append P (first_lanes study number) (control_lanes study.sizes)
    (all_so (IsSentLane study 2) P (first_lanes study number) (first_lanes_sent study number) (λ lane h. sent_made study 2 lane ok (omega arith) h))
    (control_made study.sizes))
    (all_so (IsSentLane study 3) P (resent_lanes study) (resent_lanes_sent study) (λ lane h. sent_made study 3 lane ok (omega arith) h))

-- ---- there are few

abbrev route_with : ℕ → ℕ → Route
route_with rank client = record { rank = rank; client = client }

one_route : (s : Sizes) (rank client : ℕ) (b : Bool) → length (cond b (route_with rank client ∷ []) []) ≤ 1
one_route s rank client true = omega arith
one_route s rank client false = omega arith

few_lists : {A : Type 0} (f : ℕ → List A) (m n : ℕ) → ((i : ℕ) → length (f i) ≤ m) → length (flat_map f (below n)) ≤ n * m
few_lists f m zero each = omega arith
few_lists f m (suc n) each =
    omega (arith, ap length (flat_map-append f (below n) (n ∷ [])), length-append (flat_map f (below n)) (f n ++ []), length-append (f n) [], each n, few_lists f m n each)

few_rank_routes : (s : Sizes) (rank : ℕ) → length (rank_routes s rank) ≤ s.clients * 1
unfolding rank_routes
few_rank_routes s rank = few_lists (route_of s rank) 1 s.clients (λ client. one_route s rank client (overlaps s rank client))

pub few_routes : (s : Sizes) → AreSizes s → length (routes s) ≤ 4096
unfolding routes
few_routes s ok =
    let each : (rank : ℕ) → length (rank_routes s rank) ≤ s.clients = λ rank. omega (arith, few_rank_routes s rank) in
    let ranks : s.ranks ≤ 64 = ok.ranks in
    let clients : s.clients ≤ 64 = ok.clients in
    let most : s.ranks * s.clients ≤ 64 * 64 = mul-le-mul ranks clients in
    omega (arith, few_lists (rank_routes s) s.clients s.ranks each, most)

length_firsts : (study : Study) (number : ℕ) (before rs : List Route) → length (gathered (λ front r. first_lane study number front r ∷ []) before rs) ≡ length rs
unfolding gathered
length_firsts study number before [] = refl
length_firsts study number before (r ∷ rs) = ap suc (length_firsts study number (before ++ r ∷ []) rs)

length_first_lanes : (study : Study) (number : ℕ) → length (first_lanes study number) ≡ length (routes study.sizes)
unfolding first_lanes
length_first_lanes study number = length_firsts study number [] (routes study.sizes)

length_control_lanes : (s : Sizes) → length (control_lanes s) ≡ s.ranks
unfolding control_lanes
length_control_lanes s = length-map (below s.ranks) control_lane ∙ length-below s.ranks

length_resent_lanes : (study : Study) → length (resent_lanes study) ≡ length (routes study.sizes)
unfolding resent_lanes
length_resent_lanes study = length-map (routes study.sizes) (resent_lane study)

pub length_trial_lanes : (study : Study) (number : ℕ) → length (trial_lanes study number) ≡ length (routes study.sizes) + study.sizes.ranks + length (routes study.sizes)
unfolding trial_lanes earlier_lanes
length_trial_lanes study number =
    omega (arith, length-append (first_lanes study number ++ control_lanes study.sizes) (resent_lanes study), length-append (first_lanes study number) (control_lanes study.sizes), length_first_lanes study number, length_control_lanes study.sizes, length_resent_lanes study)

pub length_earlier_lanes : (study : Study) (number : ℕ) → length (earlier_lanes study number) ≡ length (routes study.sizes) + study.sizes.ranks
unfolding earlier_lanes
length_earlier_lanes study number = omega (arith, length-append (first_lanes study number) (control_lanes study.sizes), length_first_lanes study number, length_control_lanes study.sizes)

pub few_lanes : (study : Study) (number : ℕ) → IsStudy study → length (trial_lanes study number) ≤ 65535
few_lanes study number ok = omega (arith, length_trial_lanes study number, few_routes study.sizes ok.sizes, ok.sizes.ranks)

-- ---- what the tape spells

all_within : (m : ℕ) (lanes : List Lane) → length (flat_map lane_spelling (map spelled lanes)) ≤ m → AllByRecursion (λ (lane : Lane). length (frame_bytes lane.frames) ≤ m) lanes
all_within m [] few = tt
all_within m (lane ∷ lanes) few =
    let long = length-append (lane_spelling (spelled lane)) (flat_map lane_spelling (map spelled lanes)) in
    let own = lane-length (spelled lane) in
    (omega (arith, few, long, own), all_within m lanes (omega (arith, few, long)))

each_spelled : (s : Sizes) (m : ℕ) (lanes : List Lane) → AreSizes s → m < 2 ^ 32 → AllByRecursion (IsMade s) lanes → AllByRecursion (λ (lane : Lane). length (frame_bytes lane.frames) ≤ m) lanes → AllByRecursion (IsSpelledLane s.ranks) (map spelled lanes)
each_spelled s m [] ok fits made few = tt
each_spelled s m (lane ∷ lanes) ok fits made few =
    (record { rank = made.0.rank; rank_fits = omega (arith, made.0.rank, ok.ranks); size_fits = omega (arith, few.0, fits); bytes = by_frames lane.frames made.0.frames }, each_spelled s m lanes ok fits made.1 few.1)

lane_again : (s : Sizes) (lane : Lane) → IsMade s lane → lane_spelled (spelled lane) ≡ lane
lane_again s lane made =
    lane_by lane.rank lane.kind lane.frames made.frames
    ∙ ap (λ e. record { rank = lane.rank; kind = lane.kind; frames = lane.frames; end = e }) (sym made.end)

lanes_again : (s : Sizes) (lanes : List Lane) → AllByRecursion (IsMade s) lanes → map lane_spelled (map spelled lanes) ≡ lanes
lanes_again s [] made = refl
lanes_again s (lane ∷ lanes) made =
    ap (λ l. l ∷ map lane_spelled (map spelled lanes)) (lane_again s lane made.0) ∙ ap (λ ls. lane ∷ ls) (lanes_again s lanes made.1)

events_cons : (lane : Lane) (lanes : List Lane) → lane_events (lane ∷ lanes) ≡ length lane.frames + lane_events lanes
unfolding lane_events
events_cons lane lanes = sum_by-cons (λ (l : Lane). length l.frames) lane lanes

events_none : lane_events [] ≡ 0
unfolding lane_events
events_none = refl

events_again : (s : Sizes) (lanes : List Lane) → AllByRecursion (IsMade s) lanes → event_sum (map spelled lanes) ≡ lane_events lanes
events_again s [] made = sym events_none
events_again s (lane ∷ lanes) made =
    let own : length (lane_frames (frame_bytes lane.frames)) ≡ length lane.frames = ap (λ (x : List Frame × List ℕ). length x.0) (read_lane lane.frames made.0.frames) in
    omega (arith, own, events_again s lanes made.1, events_cons lane lanes)

known_version : (signed : Bool) → is_tape_version signed (version_of signed) ≡ true
known_version true = refl
known_version false = refl

is_small : (study : Study) (number : ℕ) → is_too_large study number ≡ false → is_over (size_of study.sizes.signed (trial_lanes study number)) ≡ false
unfolding is_too_large
is_small study number h = h

pub lanes_within : (study : Study) (number : ℕ) → is_too_large study number ≡ false → AllByRecursion (λ (lane : Lane). length (frame_bytes lane.frames) ≤ longest_tape) (trial_lanes study number)
lanes_within study number small =
    let s : Sizes = study.sizes in
    let lanes : List Lane = trial_lanes study number in
    let limits = within (size_of s.signed lanes) (is_small study number small) in
    let long = tape-length s.signed (version_of s.signed) (map spelled lanes) in
    all_within longest_tape lanes (omega (arith, limits.0, long))

spells : (study : Study) (number : ℕ) → IsStudy study → is_too_large study number ≡ false → SpellsTape study.sizes.ranks study.sizes.signed (tape_bytes study.sizes.signed (version_of study.sizes.signed) (map spelled (trial_lanes study number))) (trial_lanes study number)
spells study number ok small =
    let s : Sizes = study.sizes in
    let lanes : List Lane = trial_lanes study number in
    let made = all_made study number ok in
    let limits = within (size_of s.signed lanes) (is_small study number small) in
    record {
      version = version_of s.signed;
      spelled = map spelled lanes;
      version_is = known_version s.signed;
      is_spelling = refl;
      few_lanes = omega (arith, length-map lanes spelled, few_lanes study number ok);
      each = each_spelled s longest_tape lanes ok.sizes (omega arith) made (lanes_within study number small);
      few_events = omega (arith, events_again s lanes made, limits.1);
      are_lanes = sym (lanes_again s lanes made);
    }

-- The tape's bytes are read as the lanes.
pub trial_is_read : (study : Study) (number : ℕ) → IsStudy study → is_too_large study number ≡ false → tape_of study.sizes.ranks study.sizes.signed (trial_bytes study number) ≡ Ok (trial_lanes study number)
unfolding trial_bytes
trial_is_read study number ok small = tape_is_read study.sizes.ranks study.sizes.signed (tape_bytes study.sizes.signed (version_of study.sizes.signed) (map spelled (trial_lanes study number))) (trial_lanes study number) (spells study number ok small)

-- ---- what a reader answers

pub tape_short : (study : Study) (number : ℕ) → is_too_large study number ≡ false → length (trial_bytes study number) ≤ longest_tape
unfolding trial_bytes
tape_short study number small = (within (size_of study.sizes.signed (trial_lanes study number)) (is_small study number small)).0

pub bad_clash : (fault : TapeFault) (at : ℕ) (why : TapeWhy) (read : Read (List Lane)) (lanes : List Lane) → fault ≡ Bad at why → Fails fault read → read ≡ Ok lanes → ⊥
bad_clash (Bad a w) at why read lanes is fails ok = let both : ◌≡◌ {A = Read (List Lane)} (Err (record { at = a; why = w })) (Ok lanes) = sym fails ∙ ok in cc
bad_clash Memory at why read lanes is fails ok = cc

pub same_read : (a b : List Lane) (read : Read (List Lane)) → read ≡ Ok a → read ≡ Ok b → a ≡ b
same_read a b read first second = let both : ◌≡◌ {A = Read (List Lane)} (Ok a) (Ok b) = sym first ∙ second in cc
