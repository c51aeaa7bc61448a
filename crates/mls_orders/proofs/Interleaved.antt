-- The history of a complete list has the events of the rank's lanes, in another order.
use Rattle.std.proofs.Common.{◌≡◌, ℕ, zero, suc, ◌+◌, Bool, true, false, cond, eqb, List, [], ◌∷◌, ◌++◌, length, map, take, IsPermutation, option_to_list, option_map, refl, sym, ap, ap₂, ◌∙◌, subst, subst₂, append_assoc, arith, ne_eqb, take_all}
use Rattle.std.proofs.lemmas.Bool.Decides.{nat_tests}
use Rattle.std.proofs.lemmas.List.{length-map}
use Rattle.std.proofs.lemmas.List.Sorted.{IsPermutation-refl, IsPermutation-trans, IsPermutation-append_left, IsPermutation-append_right, IsPermutation-append_comm}
use Rattle.mls_model.specs.Numbers.{element, times}
use Rattle.mls_model.specs.Places.{gathered}
use Rattle.mls_model.specs.Frames.{Frame}
use Rattle.mls_model.specs.Lanes.{Lane}
use Rattle.mls_model.specs.Histories.{LaneEvent, event_of, history}
use Rattle.mls_laws.proofs.Places.{gathered_more, from_end}
use Rattle.mls_orders.specs.Tapes.{lane_events, rank_events}
use Rattle.mls_orders.proofs.Turns.{turns, times-append}

-- the turns of the lanes after the first, by their numbers among these
abbrev lowered : List ℕ → List ℕ
lowered [] = []
lowered (zero ∷ order) = lowered order
lowered (suc k ∷ order) = k ∷ lowered order

lowered_zero : (order : List ℕ) → lowered (order ++ 0 ∷ []) ≡ lowered order
lowered_zero [] = refl
lowered_zero (zero ∷ order) = lowered_zero order
lowered_zero (suc k ∷ order) = ap (λ (ks : List ℕ). k ∷ ks) (lowered_zero order)

lowered_more : (order : List ℕ) (j : ℕ) → lowered (order ++ suc j ∷ []) ≡ lowered order ++ j ∷ []
lowered_more [] j = refl
lowered_more (zero ∷ order) j = lowered_more order j
lowered_more (suc k ∷ order) j = ap (λ (ks : List ℕ). k ∷ ks) (lowered_more order j)

up_same : (j k : ℕ) → eqb (suc j) (suc k) ≡ eqb j k
up_same j k = grind (arith, nat_tests)

times_lowered : (k : ℕ) (order : List ℕ) → times k (lowered order) ≡ times (suc k) order
times_lowered k [] = refl
times_lowered k (zero ∷ order) = rw (ne_eqb zero (suc k) (λ e. absurd (omega (arith, e)))) (times_lowered k order)
times_lowered k (suc j ∷ order) = rw (up_same j k) (ap (λ (n : ℕ). cond (eqb j k) (suc n) n) (times_lowered k order))

first_once_more : (order : List ℕ) → times 0 (order ++ 0 ∷ []) ≡ times 0 order + 1
first_once_more order = times-append 0 order (0 ∷ [])

first_no_more : (order : List ℕ) (j : ℕ) → times 0 (order ++ suc j ∷ []) ≡ times 0 order
first_no_more order j =
    let none : times 0 (suc j ∷ []) ≡ 0 = rw (ne_eqb (suc j) 0 (λ e. absurd (omega (arith, e)))) refl in
    times-append 0 order (suc j ∷ []) ∙ omega (arith, none)

take_one_more : (g : Frame → LaneEvent) (frames : List Frame) (n : ℕ) → take (n + 1) (map g frames) ≡ take n (map g frames) ++ option_to_list (option_map g (element frames n))
take_one_more g [] zero = refl
take_one_more g [] (suc n) = let e : suc n + 1 ≡ suc (n + 1) = omega arith in rw e refl
take_one_more g (f ∷ frames) zero = refl
take_one_more g (f ∷ frames) (suc n) = let e : suc n + 1 ≡ suc (n + 1) = omega arith in rw e (ap (λ es. g f ∷ es) (take_one_more g frames n))

history_more : (lanes : List Lane) (order : List ℕ) (k : ℕ) → history lanes (order ++ k ∷ []) ≡ history lanes order ++ option_to_list (event_of lanes k (times k order))
unfolding history
history_more lanes order k = gathered_more (λ before n. option_to_list (event_of lanes n (times n before))) [] order k

history_none : (lanes : List Lane) → history lanes [] ≡ []
unfolding history gathered
history_none lanes = refl

-- the first lane's events so far, and the history of the others
abbrev apart : Lane → List Lane → List ℕ → List LaneEvent
apart lane lanes order = take (times 0 order) (lane_events lane) ++ history lanes (lowered order)

IsApart : Lane → List Lane → List ℕ → Type 0
IsApart lane lanes order = IsPermutation (history (lane ∷ lanes) order) (apart lane lanes order)

before_others : {X : Type 0} (us vs ws : List X) → IsPermutation ((us ++ vs) ++ ws) ((us ++ ws) ++ vs)
before_others us vs ws = subst₂ IsPermutation (sym (append_assoc us vs ws)) (sym (append_assoc us ws vs)) (IsPermutation-append_right us (vs ++ ws) (ws ++ vs) (IsPermutation-append_comm vs ws))

one_more : (lane : Lane) (lanes : List Lane) (order : List ℕ) (k : ℕ) → IsApart lane lanes order → IsApart lane lanes (order ++ k ∷ [])
unfolding IsApart
one_more lane lanes order zero so =
    let event : List LaneEvent = option_to_list (event_of (lane ∷ lanes) 0 (times 0 order)) in
    let front : take (times 0 (order ++ 0 ∷ [])) (lane_events lane) ≡ take (times 0 order) (lane_events lane) ++ event = ap (λ (n : ℕ). take n (lane_events lane)) (first_once_more order) ∙ take_one_more (λ frame. record { kind = lane.kind; frame = frame }) lane.frames (times 0 order) in
    let whole : (take (times 0 order) (lane_events lane) ++ event) ++ history lanes (lowered order) ≡ apart lane lanes (order ++ 0 ∷ []) = ap₂ (λ (us vs : List LaneEvent). us ++ vs) (sym front) (ap (history lanes) (sym (lowered_zero order))) in
    subst₂ IsPermutation (sym (history_more (lane ∷ lanes) order 0)) whole
    (IsPermutation-trans _ _ _ (IsPermutation-append_left event _ _ so) (before_others (take (times 0 order) (lane_events lane)) (history lanes (lowered order)) event))
one_more lane lanes order (suc j) so =
    let event : List LaneEvent = option_to_list (event_of lanes j (times (suc j) order)) in
    let rest : history lanes (lowered (order ++ suc j ∷ [])) ≡ history lanes (lowered order) ++ event = ap (history lanes) (lowered_more order j) ∙ history_more lanes (lowered order) j ∙ ap (λ (n : ℕ). history lanes (lowered order) ++ option_to_list (event_of lanes j n)) (times_lowered j order) in
    let whole : (take (times 0 order) (lane_events lane) ++ history lanes (lowered order)) ++ event ≡ apart lane lanes (order ++ suc j ∷ []) = append_assoc (take (times 0 order) (lane_events lane)) (history lanes (lowered order)) event ∙ ap₂ (λ (us vs : List LaneEvent). us ++ vs) (ap (λ (n : ℕ). take n (lane_events lane)) (sym (first_no_more order j))) (sym rest) in
    subst₂ IsPermutation (sym (history_more (lane ∷ lanes) order (suc j))) whole (IsPermutation-append_left event _ _ so)

nothing_yet : (lane : Lane) (lanes : List Lane) → IsApart lane lanes []
unfolding IsApart
nothing_yet lane lanes = subst₂ IsPermutation (sym (history_none (lane ∷ lanes))) (sym (history_none lanes)) (IsPermutation-refl [])

first_lane : (lane : Lane) (lanes : List Lane) (order : List ℕ) → IsApart lane lanes order
first_lane lane lanes order = from_end (IsApart lane lanes) (nothing_yet lane lanes) (one_more lane lanes) order

no_events : (before order : List ℕ) → gathered (λ seen k. option_to_list (event_of [] k (times k seen))) before order ≡ []
unfolding gathered
no_events before [] = refl
no_events before (k ∷ order) = no_events (before ++ k ∷ []) order

no_lanes : (order : List ℕ) → history [] order ≡ []
unfolding history
no_lanes order = no_events [] order

all_taken : (b : Bool) (n : ℕ) (lane : Lane) → n ≡ cond b (length lane.frames) 0 → take n (lane_events lane) ≡ cond b (lane_events lane) []
all_taken true n lane e = take_all n (lane_events lane) (omega (arith, e, length-map lane.frames (λ frame. let event : LaneEvent = record { kind = lane.kind; frame = frame } in event)))
all_taken false n lane e = ap (λ (k : ℕ). take k (lane_events lane)) e

pub history_permuted : (lanes : List Lane) (rank : ℕ) (order : List ℕ) → ((k : ℕ) → times k order ≡ turns lanes rank k) → IsPermutation (history lanes order) (rank_events lanes rank)
unfolding rank_events IsApart
history_permuted [] rank order full = subst (λ es. IsPermutation es []) (sym (no_lanes order)) (IsPermutation-refl [])
history_permuted (lane ∷ lanes) rank order full =
    let rest : IsPermutation (history lanes (lowered order)) (rank_events lanes rank) = history_permuted lanes rank (lowered order) (λ k. times_lowered k order ∙ full (suc k)) in
    let first : take (times 0 order) (lane_events lane) ≡ cond (eqb lane.rank rank) (lane_events lane) [] = all_taken (eqb lane.rank rank) (times 0 order) lane (full 0) in
    IsPermutation-trans _ _ _ (first_lane lane lanes order)
    (subst (λ es. IsPermutation (apart lane lanes order) (es ++ rank_events lanes rank)) first (IsPermutation-append_right (take (times 0 order) (lane_events lane)) _ _ rest))
