-- The lists of lines that pass are a legal schedule.
use Rattle.std.proofs.Common.{◌≡◌, ℕ, suc, ◌+◌, ◌≤◌, ◌<◌, Bool, true, false, cond, eqb, leb, ◌&&◌, List, [], ◌∷◌, length, refl, sym, ap, ◌∙◌, arith, inl, inr, eq-eqb}
use Rattle.std.specs.List.{list_all, enumerate_from, AllByRecursion}
use Rattle.std.proofs.lemmas.Bool.{cases_Bool, cases_lt, eqb-true, le-leb}
use Rattle.mls_model.specs.Numbers.{times}
use Rattle.mls_model.specs.Lanes.{Lane}
use Rattle.mls_model.specs.Schedules.{event_count, is_lane_of, is_legal_order, is_legal}
use Rattle.mls_tape.specs.ScheduleLines.{lanes_of, order_of, orders_of, AreLegalLines, IsScheduleOf}
use Rattle.mls_tape.proofs.Complete.{both, all_standing, all_placed, element_below, times-append}
use Rattle.mls_tape.proofs.Passing.{orders-length}

picked_times : (b : Bool) (k x : ℕ) → times k (cond b (x ∷ []) []) ≤ cond (eqb x k) 1 0
picked_times true k x = omega arith
picked_times false k x = omega arith

counted_up : (b : Bool) (m : ℕ) → cond b (suc m) m ≡ cond b 1 0 + m
counted_up true m = omega arith
counted_up false m = omega arith

-- a lane stands in a rank's list no oftener than in all lines
pub order_within : (rank k : ℕ) (lines : List (ℕ × ℕ)) → times k (order_of rank lines) ≤ times k (lanes_of lines)
order_within rank k [] = omega arith
order_within rank k (line ∷ lines) =
    omega (arith, times-append k (cond (eqb line.0 rank) (line.1 ∷ []) []) (order_of rank lines), picked_times (eqb line.0 rank) k line.1, counted_up (eqb line.1 k) (times k (lanes_of lines)), order_within rank k lines)

one_of : (b : Bool) (k x : ℕ) → 1 ≤ times k (cond b (x ∷ []) []) → (b ≡ true) × (eqb x k ≡ true)
one_of false k x some = absurd (omega (arith, some))
one_of true k x some = elim (cases_Bool (eqb x k)) [
  | inl t ↦ (refl, t)
  | inr f ↦ let none : times k (x ∷ []) ≡ 0 = ap (λ (b : Bool). cond b 1 0) f in absurd (omega (arith, some, none))
]

-- what stands in a rank's list is a lane of the rank
pub order_own : (ranks : ℕ) (lanes : List Lane) (rank k : ℕ) (lines : List (ℕ × ℕ)) → AllByRecursion (λ (line : ℕ × ℕ). (line.0 < ranks) × (is_lane_of lanes line.0 line.1 ≡ true)) lines → 1 ≤ times k (order_of rank lines) → is_lane_of lanes rank k ≡ true
order_own ranks lanes rank k [] own some = absurd (omega (arith, some))
order_own ranks lanes rank k (line ∷ lines) own some =
    let split = times-append k (cond (eqb line.0 rank) (line.1 ∷ []) []) (order_of rank lines) in
    elim (cases_lt 0 (times k (cond (eqb line.0 rank) (line.1 ∷ []) []))) [
      | inl t ↦
          (let here = one_of (eqb line.0 rank) k line.1 (omega (arith, t)) in
          let same_rank : line.0 ≡ rank = eqb-true line.0 rank here.0 in
          let same_lane : line.1 ≡ k = eqb-true line.1 k here.1 in
          ap (λ (j : ℕ). is_lane_of lanes rank j) (sym same_lane) ∙ ap (λ (r : ℕ). is_lane_of lanes r line.1) (sym same_rank) ∙ own.0.1)
      | inr f ↦ order_own ranks lanes rank k lines own.1 (omega (arith, f, split, some))
    ]

order_legal : (ranks : ℕ) (lanes : List Lane) (rank : ℕ) (lines : List (ℕ × ℕ)) → AreLegalLines ranks lanes lines → is_legal_order lanes rank (order_of rank lines) ≡ true
unfolding is_legal_order
order_legal ranks lanes rank lines legal =
    all_standing (λ k. is_lane_of lanes rank k && leb (times k (order_of rank lines)) (event_count lanes k)) (order_of rank lines) (λ k some.
    both (is_lane_of lanes rank k) (leb (times k (order_of rank lines)) (event_count lanes k))
    (order_own ranks lanes rank k lines legal.own some)
    (le-leb (times k (order_of rank lines)) (event_count lanes k) (omega (arith, order_within rank k lines, legal.counts k))))

pub orders_legal : (ranks : ℕ) (lanes : List Lane) (lines : List (ℕ × ℕ)) → AreLegalLines ranks lanes lines → is_legal ranks lanes (orders_of ranks lines) ≡ true
unfolding is_legal orders_of
orders_legal ranks lanes lines legal =
    both (eqb (length (orders_of ranks lines)) ranks) (list_all (λ (p : ℕ × List ℕ). is_legal_order lanes p.0 p.1) (enumerate_from 0 (orders_of ranks lines)))
    (eq-eqb _ _ (orders-length ranks lines))
    (all_placed (λ (p : ℕ × List ℕ). is_legal_order lanes p.0 p.1) (orders_of ranks lines) 0 (λ rank order e.
    let same = element_below (λ (r : ℕ). order_of r lines) ranks rank order e in
    let at : 0 + rank ≡ rank = omega arith in
    ap (λ n. is_legal_order lanes n order) at ∙ ap (λ os. is_legal_order lanes rank os) same.1 ∙ order_legal ranks lanes rank lines legal))

pub schedule_legal : (ranks : ℕ) (lanes : List Lane) (bytes : List ℕ) (orders : List (List ℕ)) → IsScheduleOf ranks lanes bytes orders → is_legal ranks lanes orders ≡ true
schedule_legal ranks lanes bytes orders s = ap (is_legal ranks lanes) s.orders_are ∙ orders_legal ranks lanes s.lines s.legal
