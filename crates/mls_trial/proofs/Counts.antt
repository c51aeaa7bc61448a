-- The events of lanes, and the numbers of groups that cores accepted.
use Rattle.std.proofs.Common.{◌≡◌, ℕ, zero, suc, ◌+◌, ◌<◌, ◌≤◌, List, [], ◌∷◌, ◌++◌, length, map, take, get_or, pos, Some, refl, sym, ◌∙◌, ap, append_assoc, add-one, arith, length-append}
use Rattle.std.specs.Prelude.{unwrap_or, unsigned_abs}
use Rattle.std.specs.List.{flat_map}
use Rattle.std.proofs.lemmas.List.{append-nil, map-append, length-map, take_more, take_all}
use Rattle.std.proofs.lemmas.List.Concat.{flat_map-append}
use Rattle.std.proofs.lemmas.List.Sums.{sum_by_more}
use Rattle.mls_model.specs.declared.lanes.LaneKind.TheVariants.{Client}
use Rattle.mls_model.specs.declared.lanes.LaneEnd.TheVariants.{Clean}
use Rattle.mls_model.specs.Numbers.{below}
use Rattle.mls_model.specs.Studies.{Sizes, planes}
use Rattle.mls_model.specs.Lanes.{Lane}
use Rattle.mls_model.specs.Schedules.{event_count}
use Rattle.mls_model.specs.Statistics.{least, most}
use Rattle.mls_field.specs.declared.field.Field.{Field}
use Rattle.mls_field.specs.declared.fold.RowFold.{Ghosts}
use Rattle.mls_rank.specs.declared.rank_core.RankCore.{RankCore}
use Rattle.mls_rank.specs.Cores.{mark_count}
use Rattle.mls_design.specs.Trial.{lane_events}
use Rattle.mls_design.specs.TrialText.{lanes_line, groups_text}
use Rattle.mls_trial.specs.Words.{lanes_words}
use Rattle.mls_trial.specs.Kept.{core_groups, kept_groups, ends_line}

-- ---- events
frames_of : (lanes : List Lane) (i : ℕ) (d : Lane) → i < length lanes → length (get_or lanes i d).frames ≡ event_count lanes i
frames_of [] i d here = absurd (omega (arith, here))
frames_of (lane ∷ lanes) zero d here = refl
frames_of (lane ∷ lanes) (suc i) d here = frames_of lanes i d (omega (arith, here))

no_lane : Lane
no_lane = record { rank = 0; kind = Client; frames = []; end = Clean }

pub no_events : lane_events [] ≡ 0
unfolding lane_events
no_events = refl

pub events_more : (lanes : List Lane) (i : ℕ) → i < length lanes → lane_events (take (i + 1) lanes) ≡ lane_events (take i lanes) + event_count lanes i
unfolding lane_events
events_more lanes i here =
    sum_by_more (λ (lane : Lane). length lane.frames) lanes i no_lane here
    ∙ ap (λ n. lane_events (take i lanes) + n) (frames_of lanes i no_lane here)

pub all_events : (lanes : List Lane) (i : ℕ) → length lanes ≤ i → lane_events (take i lanes) ≡ lane_events lanes
all_events lanes i past = ap lane_events (take_all i lanes past)

pub lanes_said : (lanes : List Lane) (count events : ℕ) → count ≡ length lanes → events ≡ lane_events lanes → lanes_words count events ≡ lanes_line lanes
unfolding lanes_words lanes_line
lanes_said lanes count events is_count is_events = λ i. lanes_words (is_count i) (is_events i)

-- ---- accepted groups
pub numbers_more : (f : ℕ → ℕ) (numbers : List ℕ) (n x : ℕ) → x ≡ f n → (numbers ++ map f (below n)) ++ x ∷ [] ≡ numbers ++ map f (below (n + 1))
numbers_more f numbers n x is =
    append_assoc numbers (map f (below n)) (x ∷ [])
    ∙ ap (λ y. numbers ++ (map f (below n) ++ y ∷ [])) is
    ∙ ap (λ ys. numbers ++ ys) (sym (map-append f (below n) (n ∷ [])) ∙ ap (λ m. map f (below m)) (sym (add-one n)))

pub cores_more : {T : Ghosts Field} (s : Sizes) (cores : List (RankCore Field T)) (i : ℕ) (d : RankCore Field T) → i < length cores → flat_map (core_groups s) (take (i + 1) cores) ≡ flat_map (core_groups s) (take i cores) ++ core_groups s (get_or cores i d)
cores_more s cores i d here =
    ap (flat_map (core_groups s)) (take_more cores i d here)
    ∙ flat_map-append (core_groups s) (take i cores) (get_or cores i d ∷ [])
    ∙ ap (λ xs. flat_map (core_groups s) (take i cores) ++ xs) (append-nil (core_groups s (get_or cores i d)))

pub all_groups : {T : Ghosts Field} (s : Sizes) (cores : List (RankCore Field T)) (i : ℕ) → length cores ≤ i → flat_map (core_groups s) (take i cores) ≡ kept_groups s cores
unfolding kept_groups
all_groups s cores i past = ap (flat_map (core_groups s)) (take_all i cores past)

length-below : (n : ℕ) → length (below n) ≡ n
length-below zero = refl
length-below (suc n) = omega (arith, length-append (below n) (n ∷ []), length-below n)

-- there are some, where there are a core and a plane
pub some_groups : {T : Ghosts Field} (s : Sizes) (cores : List (RankCore Field T)) → 1 ≤ length cores → 1 ≤ planes s → 0 < length (kept_groups s cores)
unfolding kept_groups
some_groups s [] some_cores some_planes = absurd (omega (arith, some_cores))
some_groups s (core ∷ cores) some_cores some_planes =
    omega (arith, length-append (core_groups s core) (flat_map (core_groups s) cores), length-map (below (planes s)) (mark_count core), length-below (planes s), some_planes)

pub ends_said : (numbers : List ℕ) (a b : ℕ) → least (map pos numbers) ≡ Some (pos a) → most (map pos numbers) ≡ Some (pos b) → groups_text a b ≡ ends_line numbers
unfolding ends_line
ends_said numbers a b low high = λ i. groups_text (unsigned_abs (unwrap_or (sym low i) (pos 0))) (unsigned_abs (unwrap_or (sym high i) (pos 0)))
