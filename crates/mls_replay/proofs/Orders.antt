-- One more event of a rank's list.
use Rattle.std.proofs.Common.{◌≡◌, ℕ, zero, suc, ◌+◌, ◌<◌, ◌≤◌, Bool, true, false, cond, List, [], ◌∷◌, ◌++◌, length, take, drop, get_or, refl, sym, ◌∙◌, ap, inl, inr, arith, add-one, take-suc}
use Rattle.std.specs.Prelude.{nat_le, IfSome, ◌==◌, ◌&&◌}
use Rattle.std.specs.Option.{option_to_list}
use Rattle.std.specs.List.{list_all}
use Rattle.std.proofs.lemmas.Bool.Decides.{nat_tests}
use Rattle.std.proofs.lemmas.List.{take-append-drop}
use Rattle.std.proofs.lemmas.List.Folds.{list_all_at}
use Rattle.std.proofs.lemmas.Bool.{cases_Bool}
use Rattle.std.proofs.Common.{drop-cons}
use Rattle.mls_model.specs.Numbers.{times, element}
use Rattle.mls_model.specs.Lanes.{Lane}
use Rattle.mls_model.specs.Schedules.{event_count, is_lane_of, is_legal_order}
use Rattle.mls_model.specs.Histories.{event_of, history}
use Rattle.mls_laws.proofs.Places.{gathered_more}

-- how often a number stands in a longer list
pub times-append : (n : ℕ) (xs ys : List ℕ) → times n (xs ++ ys) ≡ times n xs + times n ys
times-append n [] ys = omega arith
times-append n (x ∷ xs) ys = elim (x == n) as (λ b. cond b (suc (times n (xs ++ ys))) (times n (xs ++ ys)) ≡ cond b (suc (times n xs)) (times n xs) + times n ys) [ true ↦ omega (arith, times-append n xs ys) | false ↦ times-append n xs ys ]

-- the events so far with one more
pub history_more : (lanes : List Lane) (order : List ℕ) (k : ℕ) → history lanes (order ++ k ∷ []) ≡ history lanes order ++ option_to_list (event_of lanes k (times k order))
unfolding history
history_more lanes order k = gathered_more (λ before j. option_to_list (event_of lanes j (times j before))) [] order k

-- a test that every element passes is passed by each
all_here : {X : Type 0} (p : X → Bool) (xs : List X) (i : ℕ) (d : X) → i < length xs → list_all p xs ≡ true → p (get_or xs i d) ≡ true
all_here p xs i d here all = elim (cases_Bool (p (get_or xs i d))) [ inl passes ↦ passes | inr fails ↦ let e : true ≡ false = sym all ∙ list_all_at p xs i d here fails in cc ]

-- a list up to a place and one more
pub take_one_more : (order : List ℕ) (i : ℕ) → i < length order → take (i + 1) order ≡ take i order ++ get_or order i 0 ∷ []
take_one_more order i here = ap (λ n. take n order) (add-one i) ∙ take-suc order i 0 here

same_number : (n : ℕ) → (n == n) ≡ true
same_number n = grind (arith, nat_tests)

times_own : (k : ℕ) (xs : List ℕ) → times k (k ∷ xs) ≡ suc (times k xs)
times_own k xs = ap (λ b. cond b (suc (times k xs)) (times k xs)) (same_number k)

-- a lane stands up to a place less often than in all, where it stands at that place
times_before : (order : List ℕ) (i : ℕ) → i < length order → times (get_or order i 0) (take i order) < times (get_or order i 0) order
times_before order i here =
    let k = get_or order i 0 in
    let whole = ap (times k) (sym (take-append-drop i order)) ∙ times-append k (take i order) (drop i order) in
    let rest = ap (times k) (drop-cons order i 0 here) in
    let own = times_own k (drop (suc i) order) in
    omega (arith, whole, rest, own)

-- what a legal list says of the lane at a place
pub record IsNext (lanes : List Lane) (rank : ℕ) (order : List ℕ) (i : ℕ) : Type 0 where
  pub of_rank : is_lane_of lanes rank (get_or order i 0) ≡ true
  pub left : times (get_or order i 0) (take i order) < event_count lanes (get_or order i 0)

both : (a b : Bool) → (a && b) ≡ true → (a ≡ true) × (b ≡ true)
both true b e = (refl, e)
both false b e = let f : false ≡ true = e in cc

pub is_next : (lanes : List Lane) (rank : ℕ) (order : List ℕ) (i : ℕ) → is_legal_order lanes rank order ≡ true → i < length order → IsNext lanes rank order i
unfolding is_legal_order
is_next lanes rank order i legal here =
    let k = get_or order i 0 in
    let b = both (is_lane_of lanes rank k) (nat_le (times k order) (event_count lanes k)) (all_here (λ j. is_lane_of lanes rank j && nat_le (times j order) (event_count lanes j)) order i 0 here legal) in
    let few : times k order ≤ event_count lanes k = grind (arith, nat_tests, b.1) in
    let fewer = times_before order i here in
    record { of_rank = b.0; left = omega (arith, few, fewer) }

-- such a lane is there, with so many events
pub lane_there : (lanes : List Lane) (rank k : ℕ) → is_lane_of lanes rank k ≡ true → k < length lanes
lane_there [] rank k e = cc
lane_there (lane ∷ lanes) rank zero e = omega arith
lane_there (lane ∷ lanes) rank (suc k) e = let h = lane_there lanes rank k e in omega arith

pub events_there : (lanes : List Lane) (k n : ℕ) → n < event_count lanes k → IfSome (element lanes k) (λ (l : Lane). n < length l.frames)
events_there [] k n few = tt
events_there (lane ∷ lanes) zero n few = few
events_there (lane ∷ lanes) (suc k) n few = events_there lanes k n few
