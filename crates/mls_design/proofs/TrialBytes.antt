-- The bytes of the whole tape, lane by lane.
use Rattle.std.proofs.Common.{◌≡◌, ℕ, ◌+◌, ◌≤◌, ◌<◌, Bool, true, false, List, [], ◌∷◌, ◌++◌, length, map, take, drop, get_or, refl, sym, ◌∙◌, ap, subst, append_assoc, codes}
use Rattle.std.specs.List.{AllByRecursion}
use Rattle.std.proofs.lemmas.List.{append-nil, map_push, take_more, take_all, take-append-drop, length-map}
use Rattle.rand_pcg.specs.Lcg.{Lcg}
use Rattle.mls_model.specs.Numbers.{below}
use Rattle.mls_model.specs.Studies.{Study, Sizes}
use Rattle.mls_model.specs.Frames.{u16, u32, spelling, body}
use Rattle.mls_model.specs.Lanes.{Lane, kind_code, samples_spelling, lane_spelling, tape_bytes}
use Rattle.mls_tape.specs.Tapes.{longest_tape}
use Rattle.mls_design.specs.declared.trial.route.Route.{Route}
use Rattle.mls_design.specs.Trial.{routes, planned, sent, words_before, first_lane, first_lanes, control_lane, control_lanes, resent_frames, resent_lane, resent_lanes, trial_lanes, trial_bytes, frame_bytes, spelled, version_of}
use Rattle.mls_design.specs.TrialSizes.{HasDrawn, is_too_large}
use Rattle.mls_design.specs.TrialWriting.{lanes_bytes, Sends}
use Rattle.mls_design.proofs.Counting.{map-below_more}
use Rattle.mls_design.proofs.TrialTapes.{lanes-append, first_of, first_more, first_all, first_front, all_at}
use Rattle.mls_design.proofs.TrialLanes.{words_step, all_lanes_are}
use Rattle.mls_design.proofs.TrialReading.{lanes_within, length_trial_lanes}

-- ---- lanes

pub no_lanes : lanes_bytes [] ≡ []
unfolding lanes_bytes
no_lanes = refl

pub lanes_bytes-append : (xs ys : List Lane) → lanes_bytes (xs ++ ys) ≡ lanes_bytes xs ++ lanes_bytes ys
unfolding lanes_bytes
lanes_bytes-append xs ys = lanes-append xs ys

one_lane : (lane : Lane) → lanes_bytes (lane ∷ []) ≡ (kind_code lane.kind ∷ (u16 lane.rank ++ u32 (length (frame_bytes lane.frames)))) ++ frame_bytes lane.frames
unfolding lanes_bytes lane_spelling
one_lane lane = append-nil (lane_spelling (spelled lane))

-- a lane more: its head, and its frames' bytes
pub lane_more : (lanes : List Lane) (lane : Lane) (kind rank size : ℕ) (old now headed new : List ℕ) → kind ≡ kind_code lane.kind → rank ≡ lane.rank → size ≡ length (frame_bytes lane.frames) → now ≡ old ++ lanes_bytes lanes → headed ≡ now ++ (kind ∷ (u16 rank ++ u32 size)) → new ≡ headed ++ frame_bytes lane.frames → new ≡ old ++ lanes_bytes (lanes ++ lane ∷ [])
lane_more lanes lane kind rank size old now headed new is_kind is_rank is_size so_far head step =
    let whole : List ℕ = kind_code lane.kind ∷ (u16 lane.rank ++ u32 (length (frame_bytes lane.frames))) in
    let same : kind ∷ (u16 rank ++ u32 size) ≡ whole = ap (λ k. k ∷ (u16 rank ++ u32 size)) is_kind ∙ ap (λ r. kind_code lane.kind ∷ (u16 r ++ u32 size)) is_rank ∙ ap (λ s. kind_code lane.kind ∷ (u16 lane.rank ++ u32 s)) is_size in
    step ∙ ap (λ b. b ++ frame_bytes lane.frames) (head ∙ ap (λ b. now ++ b) same)
    ∙ append_assoc now whole (frame_bytes lane.frames)
    ∙ ap (λ b. now ++ b) (sym (one_lane lane))
    ∙ ap (λ b. b ++ lanes_bytes (lane ∷ [])) so_far
    ∙ append_assoc old (lanes_bytes lanes) (lanes_bytes (lane ∷ []))
    ∙ ap (λ b. old ++ b) (sym (lanes_bytes-append lanes (lane ∷ [])))

pub nothing_more : (old : List ℕ) → old ≡ old ++ lanes_bytes []
nothing_more old = sym (ap (λ b. old ++ b) no_lanes ∙ append-nil old)

-- ---- first lanes

pub first_bytes_more : (study : Study) (number k : ℕ) (rs : List Route) (d : Route) (rank size : ℕ) (old now headed new : List ℕ) (g : Lcg) → k < length rs → rank ≡ (get_or rs k d).rank → size ≡ length (frame_bytes (sent number (words_before study number (take k rs)) (planned study number (get_or rs k d)))) → now ≡ old ++ lanes_bytes (first_of study number (take k rs)) → headed ≡ now ++ (0 ∷ (u16 rank ++ u32 size)) → Sends number (words_before study number (take k rs)) (planned study number (get_or rs k d)) headed new g → (new ≡ old ++ lanes_bytes (first_of study number (take (k + 1) rs))) × HasDrawn number (words_before study number (take (k + 1) rs)) g
unfolding first_lane
first_bytes_more study number k rs d rank size old now headed new g here is_rank is_size so_far head sends =
    let front : List Route = take k rs in
    let r : Route = get_or rs k d in (
      lane_more (first_of study number front) (first_lane study number front r) 0 rank size old now headed new refl is_rank is_size so_far head sends.bytes
          ∙ ap (λ ls. old ++ lanes_bytes ls) (sym (first_more study number front r) ∙ ap (first_of study number) (sym (take_more rs k d here))),
      words_step study number k rs d g here sends.words,
    )

pub first_bytes_done : (study : Study) (number k : ℕ) (rs : List Route) (old new : List ℕ) (g : Lcg) → rs ≡ routes study.sizes → length rs ≤ k → new ≡ old ++ lanes_bytes (first_of study number (take k rs)) → HasDrawn number (words_before study number (take k rs)) g → (new ≡ old ++ lanes_bytes (first_lanes study number)) × HasDrawn number (words_before study number (routes study.sizes)) g
first_bytes_done study number k rs old new g are past so_far h =
    let all : take k rs ≡ routes study.sizes = take_all k rs past ∙ are in (
      so_far ∙ ap (λ qs. old ++ lanes_bytes (first_of study number qs)) all ∙ ap (λ ls. old ++ lanes_bytes ls) (first_all study number),
      subst (λ qs. HasDrawn number (words_before study number qs) g) all h,
    )

-- ---- control lanes

pub control_bytes_more : (n rank : ℕ) (old now headed new : List ℕ) → rank ≡ n → now ≡ old ++ lanes_bytes (map control_lane (below n)) → headed ≡ now ++ (1 ∷ (u16 rank ++ u32 20)) → new ≡ headed ++ frame_bytes (control_lane n).frames → new ≡ old ++ lanes_bytes (map control_lane (below (n + 1)))
unfolding spelling body
control_bytes_more n rank old now headed new is_rank so_far head step =
    lane_more (map control_lane (below n)) (control_lane n) 1 rank 20 old now headed new refl is_rank refl so_far head step
    ∙ ap (λ ls. old ++ lanes_bytes ls) (sym (map-below_more control_lane n))

pub control_bytes_done : (s : Sizes) (n : ℕ) (old new : List ℕ) → n ≡ s.ranks → new ≡ old ++ lanes_bytes (map control_lane (below n)) → new ≡ old ++ lanes_bytes (control_lanes s)
unfolding control_lanes
control_bytes_done s n old new all so_far = so_far ∙ ap (λ m. old ++ lanes_bytes (map control_lane (below m))) all

-- ---- resent lanes

pub resent_bytes_more : (study : Study) (k : ℕ) (rs : List Route) (d : Route) (rank size : ℕ) (old now headed new : List ℕ) → k < length rs → rank ≡ (get_or rs k d).rank → size ≡ length (frame_bytes (resent_frames study (get_or rs k d))) → now ≡ old ++ lanes_bytes (map (resent_lane study) (take k rs)) → headed ≡ now ++ (0 ∷ (u16 rank ++ u32 size)) → new ≡ headed ++ frame_bytes (resent_frames study (get_or rs k d)) → new ≡ old ++ lanes_bytes (map (resent_lane study) (take (k + 1) rs))
resent_bytes_more study k rs d rank size old now headed new here is_rank is_size so_far head step =
    let r : Route = get_or rs k d in
    lane_more (map (resent_lane study) (take k rs)) (resent_lane study r) 0 rank size old now headed new refl is_rank is_size so_far head step
    ∙ ap (λ ls. old ++ lanes_bytes ls) (sym (map_push (resent_lane study) (take k rs) r) ∙ ap (map (resent_lane study)) (sym (take_more rs k d here)))

pub resent_bytes_done : (study : Study) (k : ℕ) (rs : List Route) (old new : List ℕ) → rs ≡ routes study.sizes → length rs ≤ k → new ≡ old ++ lanes_bytes (map (resent_lane study) (take k rs)) → new ≡ old ++ lanes_bytes (resent_lanes study)
unfolding resent_lanes
resent_bytes_done study k rs old new are past so_far = so_far ∙ ap (λ qs. old ++ lanes_bytes (map (resent_lane study) qs)) (take_all k rs past ∙ are)

-- ---- each lane is short

all_front : {A : Type 0} (P : A → Type 0) (xs ys : List A) → AllByRecursion P (xs ++ ys) → AllByRecursion P xs
all_front P [] ys all = tt
all_front P (x ∷ xs) ys all = (all.0, all_front P xs ys all.1)

all_back : {A : Type 0} (P : A → Type 0) (xs ys : List A) → AllByRecursion P (xs ++ ys) → AllByRecursion P ys
all_back P [] ys all = all
all_back P (x ∷ xs) ys all = all_back P xs ys all.1

all_of_map : {A B : Type 0} (P : B → Type 0) (f : A → B) (xs : List A) → AllByRecursion P (map f xs) → AllByRecursion (λ x. P (f x)) xs
all_of_map P f [] all = tt
all_of_map P f (x ∷ xs) all = (all.0, all_of_map P f xs all.1)

abbrev IsShort : Lane → Type 0
IsShort lane = length (frame_bytes lane.frames) ≤ longest_tape

parts_short : (study : Study) (number : ℕ) → is_too_large study number ≡ false → AllByRecursion IsShort ((first_lanes study number ++ control_lanes study.sizes) ++ resent_lanes study)
parts_short study number small = subst (AllByRecursion IsShort) (all_lanes_are study number) (lanes_within study number small)

pub first_short : (study : Study) (number k : ℕ) (rs : List Route) (d : Route) → is_too_large study number ≡ false → rs ≡ routes study.sizes → k < length rs → length (frame_bytes (sent number (words_before study number (take k rs)) (planned study number (get_or rs k d)))) ≤ longest_tape
unfolding first_lane
first_short study number k rs d small are here =
    let front : List Route = take k rs in
    let r : Route = get_or rs k d in
    let more = first_front study number (take (k + 1) rs) (drop (k + 1) rs) in
    let all : first_lanes study number ≡ (first_of study number front ++ first_lane study number front r ∷ []) ++ more.0 =
    sym (ap (first_of study number) (take-append-drop (k + 1) rs ∙ are) ∙ first_all study number) ∙ more.1
    ∙ ap (λ qs. first_of study number qs ++ more.0) (take_more rs k d here) ∙ ap (λ ls. ls ++ more.0) (first_more study number front r) in
    let firsts = all_front IsShort (first_lanes study number) (control_lanes study.sizes) (all_front IsShort (first_lanes study number ++ control_lanes study.sizes) (resent_lanes study) (parts_short study number small)) in
    let some = all_front IsShort (first_of study number front ++ first_lane study number front r ∷ []) more.0 (subst (AllByRecursion IsShort) all firsts) in
    (all_back IsShort (first_of study number front) (first_lane study number front r ∷ []) some).0

short_at : (study : Study) (k : ℕ) (rs : List Route) (d : Route) → rs ≡ routes study.sizes → k < length rs → AllByRecursion IsShort (resent_lanes study) → length (frame_bytes (resent_frames study (get_or rs k d))) ≤ longest_tape
unfolding resent_lanes
short_at study k rs d are here all =
    let each : AllByRecursion (λ (r : Route). IsShort (resent_lane study r)) rs = all_of_map IsShort (resent_lane study) rs (subst (λ (qs : List Route). AllByRecursion IsShort (map (resent_lane study) qs)) (sym are) all) in
    all_at (λ (r : Route). IsShort (resent_lane study r)) rs k d each here

pub resent_short : (study : Study) (number k : ℕ) (rs : List Route) (d : Route) → is_too_large study number ≡ false → rs ≡ routes study.sizes → k < length rs → length (frame_bytes (resent_frames study (get_or rs k d))) ≤ longest_tape
resent_short study number k rs d small are here = short_at study k rs d are here (all_back IsShort (first_lanes study number ++ control_lanes study.sizes) (resent_lanes study) (parts_short study number small))

-- ---- the tape

starts_with : (signed : Bool) (lanes : ℕ) (rest : List ℕ) → (codes "MTAP" ++ (u16 (version_of signed) ++ (samples_spelling signed (version_of signed) ++ u32 lanes))) ++ rest ≡ codes "MTAP" ++ (u16 (version_of signed) ++ (samples_spelling signed (version_of signed) ++ (u32 lanes ++ rest)))
starts_with true lanes rest = refl
starts_with false lanes rest = refl

pub whole_tape : (study : Study) (number n : ℕ) (signed : Bool) (none started first control all : List ℕ) → none ≡ [] → signed ≡ study.sizes.signed → n ≡ length (routes study.sizes) + study.sizes.ranks + length (routes study.sizes) → started ≡ none ++ (codes "MTAP" ++ (u16 (version_of signed) ++ (samples_spelling signed (version_of signed) ++ u32 n))) → first ≡ started ++ lanes_bytes (first_lanes study number) → control ≡ first ++ lanes_bytes (control_lanes study.sizes) → all ≡ control ++ lanes_bytes (resent_lanes study) → all ≡ trial_bytes study number
unfolding trial_bytes tape_bytes lanes_bytes
whole_tape study number n signed none started first control all empty is_signed is_n start a b c =
    let s : Bool = study.sizes.signed in
    let head : List ℕ = codes "MTAP" ++ (u16 (version_of s) ++ (samples_spelling s (version_of s) ++ u32 n)) in
    let firsts : List Lane = first_lanes study number in
    let controls : List Lane = control_lanes study.sizes in
    let lates : List Lane = resent_lanes study in
    let lanes : List Lane = trial_lanes study number in
    let began : started ≡ head = start ∙ ap (λ o. o ++ (codes "MTAP" ++ (u16 (version_of signed) ++ (samples_spelling signed (version_of signed) ++ u32 n)))) empty ∙ ap (λ z. codes "MTAP" ++ (u16 (version_of z) ++ (samples_spelling z (version_of z) ++ u32 n))) is_signed in
    let one : first ≡ head ++ lanes_bytes firsts = a ∙ ap (λ o. o ++ lanes_bytes firsts) began in
    let two : control ≡ head ++ lanes_bytes (firsts ++ controls) = b ∙ ap (λ o. o ++ lanes_bytes controls) one ∙ append_assoc head (lanes_bytes firsts) (lanes_bytes controls) ∙ ap (λ o. head ++ o) (sym (lanes_bytes-append firsts controls)) in
    let three : all ≡ head ++ lanes_bytes ((firsts ++ controls) ++ lates) = c ∙ ap (λ o. o ++ lanes_bytes lates) two ∙ append_assoc head (lanes_bytes (firsts ++ controls)) (lanes_bytes lates) ∙ ap (λ o. head ++ o) (sym (lanes_bytes-append (firsts ++ controls) lates)) in
    let count : n ≡ length (map spelled lanes) = is_n ∙ sym (length_trial_lanes study number) ∙ sym (length-map lanes spelled) in
    three ∙ ap (λ ls. head ++ lanes_bytes ls) (sym (all_lanes_are study number))
    ∙ starts_with s n (lanes_bytes lanes)
    ∙ ap (λ m. codes "MTAP" ++ (u16 (version_of s) ++ (samples_spelling s (version_of s) ++ (u32 m ++ lanes_bytes lanes)))) count
