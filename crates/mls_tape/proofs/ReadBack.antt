-- The text of a legal schedule is read as that schedule.
use Rattle.std.proofs.Common.{◌≡◌, ℕ, zero, suc, ◌+◌, ◌^◌, ◌≤◌, ◌<◌, Bool, true, false, cond, eqb, leb, ◌&&◌, List, [], ◌∷◌, ◌++◌, length, map, get_or, None, Ok, refl, sym, ap, subst, ◌∙◌, append_assoc, length-append, arith, inl, inr, eq-eqb}
use Rattle.std.specs.List.{flat_map, list_all, enumerate_from, AllByRecursion}
use Rattle.std.proofs.lemmas.Bool.{cases_lt, ne_eqb, eqb-true}
use Rattle.std.proofs.lemmas.Bool.Decides.{nat_tests}
use Rattle.std.proofs.lemmas.List.{append-nil, map-append, ext_get_or}
use Rattle.mls_model.specs.Numbers.{times}
use Rattle.mls_model.specs.Lanes.{Lane}
use Rattle.mls_model.specs.Schedules.{event_count, is_lane_of, is_legal_order, is_legal, schedule_line, schedule_text}
use Rattle.mls_tape.specs.ScheduleLines.{lines_text, lanes_of, order_of, orders_of, AreLegalLines}
use Rattle.mls_tape.specs.ScheduleReading.{line_refusal, lines_from, lists_of, schedule_of}
use Rattle.mls_tape.proofs.Complete.{times-append}
use Rattle.mls_tape.proofs.ScheduleNumbers.{line_in_is, line_some}
use Rattle.mls_tape.proofs.ScheduleText.{texts_from, texts_all}
use Rattle.mls_tape.proofs.Passing.{not_refused, own_within, orders-length, order_at}
use Rattle.mls_tape.proofs.ScheduleRun.{line_goes_on, lines_end}

-- ---- the lines of lists

abbrev of_rank : ℕ → List ℕ → List (ℕ × ℕ)
of_rank rank order = map (λ (k : ℕ). (rank, k)) order

lines_listed : ℕ → List (List ℕ) → List (ℕ × ℕ)
lines_listed rank [] = []
lines_listed rank (order ∷ orders) = of_rank rank order ++ lines_listed (rank + 1) orders

text-append : (xs ys : List (ℕ × ℕ)) → lines_text (xs ++ ys) ≡ lines_text xs ++ lines_text ys
unfolding lines_text
text-append [] ys = refl
text-append (x ∷ xs) ys = ap (λ l. schedule_line x.0 x.1 ++ l) (text-append xs ys) ∙ sym (append_assoc (schedule_line x.0 x.1) (lines_text xs) (lines_text ys))

text_of_rank : (rank : ℕ) (order : List ℕ) → lines_text (of_rank rank order) ≡ flat_map (schedule_line rank) order
unfolding lines_text
text_of_rank rank [] = refl
text_of_rank rank (k ∷ order) = ap (λ l. schedule_line rank k ++ l) (text_of_rank rank order)

text_listed : (rank : ℕ) (orders : List (List ℕ)) → lines_text (lines_listed rank orders) ≡ texts_from rank orders
unfolding lines_text lines_listed
text_listed rank [] = refl
text_listed rank (order ∷ orders) =
    text-append (of_rank rank order) (lines_listed (rank + 1) orders)
    ∙ ap (λ l. l ++ lines_text (lines_listed (rank + 1) orders)) (text_of_rank rank order)
    ∙ ap (λ l. flat_map (schedule_line rank) order ++ l) (text_listed (rank + 1) orders)

-- ---- the lists of these lines

order-append : (r : ℕ) (xs ys : List (ℕ × ℕ)) → order_of r (xs ++ ys) ≡ order_of r xs ++ order_of r ys
order-append r [] ys = refl
order-append r (x ∷ xs) ys =
    ap (λ (l : List ℕ). cond (eqb x.0 r) (x.1 ∷ []) [] ++ l) (order-append r xs ys)
    ∙ sym (append_assoc (cond (eqb x.0 r) (x.1 ∷ []) []) (order_of r xs) (order_of r ys))

order_same : (r : ℕ) (order : List ℕ) → order_of r (of_rank r order) ≡ order
order_same r [] = refl
order_same r (k ∷ order) =
    ap (λ (b : Bool). cond b (k ∷ []) [] ++ order_of r (of_rank r order)) (eq-eqb r r refl)
    ∙ ap (λ (l : List ℕ). k ∷ l) (order_same r order)

order_other : (r o : ℕ) (order : List ℕ) → (o ≡ r → ⊥) → order_of r (of_rank o order) ≡ []
order_other r o [] other = refl
order_other r o (k ∷ order) other =
    ap (λ (b : Bool). cond b (k ∷ []) [] ++ order_of r (of_rank o order)) (ne_eqb o r other)
    ∙ order_other r o order other

listed_below : (r o : ℕ) (orders : List (List ℕ)) → r < o → order_of r (lines_listed o orders) ≡ []
unfolding lines_listed
listed_below r o [] lt = refl
listed_below r o (order ∷ orders) lt =
    order-append r (of_rank o order) (lines_listed (o + 1) orders)
    ∙ ap (λ (l : List ℕ). l ++ order_of r (lines_listed (o + 1) orders)) (order_other r o order (λ e. absurd (omega (arith, lt, e))))
    ∙ listed_below r (o + 1) orders (omega (arith, lt))

listed_at : (o j : ℕ) (orders : List (List ℕ)) → order_of (o + j) (lines_listed o orders) ≡ get_or orders j []
unfolding lines_listed
listed_at o j [] = refl
listed_at o zero (order ∷ orders) =
    let at : o + 0 ≡ o = omega arith in
    ap (λ (r : ℕ). order_of r (of_rank o order ++ lines_listed (o + 1) orders)) at
    ∙ order-append o (of_rank o order) (lines_listed (o + 1) orders)
    ∙ ap (λ (l : List ℕ). l ++ order_of o (lines_listed (o + 1) orders)) (order_same o order)
    ∙ ap (λ (l : List ℕ). order ++ l) (listed_below o (o + 1) orders (omega arith))
    ∙ append-nil order
listed_at o (suc j) (order ∷ orders) =
    let at : o + suc j ≡ (o + 1) + j = omega arith in
    order-append (o + suc j) (of_rank o order) (lines_listed (o + 1) orders)
    ∙ ap (λ (l : List ℕ). l ++ order_of (o + suc j) (lines_listed (o + 1) orders)) (order_other (o + suc j) o order (λ e. absurd (omega (arith, e))))
    ∙ ap (λ (r : ℕ). order_of r (lines_listed (o + 1) orders)) at
    ∙ listed_at (o + 1) j orders

orders_listed : (ranks : ℕ) (orders : List (List ℕ)) → length orders ≡ ranks → orders_of ranks (lines_listed 0 orders) ≡ orders
orders_listed ranks orders size =
    let all : length (orders_of ranks (lines_listed 0 orders)) ≡ ranks = orders-length ranks (lines_listed 0 orders) in
    ext_get_or [] (orders_of ranks (lines_listed 0 orders)) orders (all ∙ sym size) (λ i within.
    let here : i < ranks = omega (arith, within, all) in
    let at : i ≡ 0 + i = omega arith in
    order_at ranks (lines_listed 0 orders) i here ∙ ap (λ (r : ℕ). order_of r (lines_listed 0 orders)) at ∙ listed_at 0 i orders)

-- ---- they pass

first_of : (a b : Bool) → (a && b) ≡ true → a ≡ true
first_of true b e = refl
first_of false b e = e

second_of : (a b : Bool) → (a && b) ≡ true → b ≡ true
second_of true b e = e
second_of false b e = absurd cc

all_of_rank : (Q : ℕ × ℕ → Type 0) (p : ℕ → Bool) (rank : ℕ) (order : List ℕ) → list_all p order ≡ true → ((k : ℕ) → p k ≡ true → Q (rank, k)) → AllByRecursion Q (of_rank rank order)
all_of_rank Q p rank [] all each = tt
all_of_rank Q p rank (k ∷ order) all each = (each k (first_of (p k) (list_all p order) all), all_of_rank Q p rank order (second_of (p k) (list_all p order) all) each)

all-append : (Q : ℕ × ℕ → Type 0) (xs ys : List (ℕ × ℕ)) → AllByRecursion Q xs → AllByRecursion Q ys → AllByRecursion Q (xs ++ ys)
all-append Q [] ys hx hy = hy
all-append Q (x ∷ xs) ys hx hy = (hx.0, all-append Q xs ys hx.1 hy)

stands_in : (p : ℕ → Bool) (k : ℕ) (xs : List ℕ) → list_all p xs ≡ true → 1 ≤ times k xs → p k ≡ true
stands_in p k [] all some = absurd (omega (arith, some))
stands_in p k (x ∷ xs) all some = elim (cases_lt 0 (times k xs)) [
  | inl t ↦ stands_in p k xs (second_of (p x) (list_all p xs) all) t
  | inr f ↦ (let same = only_first (eqb x k) (times k xs) (omega (arith, f)) some in ap p (sym (eqb-true x k same)) ∙ first_of (p x) (list_all p xs) all)
]
  where
    only_first : (b : Bool) (n : ℕ) → n ≡ 0 → 1 ≤ cond b (suc n) n → b ≡ true
    only_first true n e h = refl
    only_first false n e h = absurd (omega (arith, e, h))

le_true : (m n : ℕ) → leb m n ≡ true → m ≤ n
le_true m n h = grind (arith, nat_tests)

one_rank : (lanes : List Lane) (r s k : ℕ) → is_lane_of lanes r k ≡ true → is_lane_of lanes s k ≡ true → r ≡ s
one_rank [] r s k a b = cc
one_rank (lane ∷ lanes) r s zero a b = sym (eqb-true lane.rank r a) ∙ eqb-true lane.rank s b
one_rank (lane ∷ lanes) r s (suc k) a b = one_rank lanes r s k a b

lanes_of_rank : (rank : ℕ) (order : List ℕ) → lanes_of (of_rank rank order) ≡ order
lanes_of_rank rank [] = refl
lanes_of_rank rank (k ∷ order) = ap (λ (l : List ℕ). k ∷ l) (lanes_of_rank rank order)

times_listed : (k rank : ℕ) (order : List ℕ) (orders : List (List ℕ)) → times k (lanes_of (lines_listed rank (order ∷ orders))) ≡ times k order + times k (lanes_of (lines_listed (rank + 1) orders))
unfolding lines_listed
times_listed k rank order orders =
    ap (λ (xs : List ℕ). times k xs) (map-append (λ (l : ℕ × ℕ). l.1) (of_rank rank order) (lines_listed (rank + 1) orders))
    ∙ times-append k (lanes_of (of_rank rank order)) (lanes_of (lines_listed (rank + 1) orders))
    ∙ ap (λ (xs : List ℕ). times k xs + times k (lanes_of (lines_listed (rank + 1) orders))) (lanes_of_rank rank order)

abbrev legal_from : List Lane → ℕ → List (List ℕ) → Bool
legal_from lanes o orders = list_all (λ (p : ℕ × List ℕ). is_legal_order lanes p.0 p.1) (enumerate_from o orders)

abbrev stands_well : List Lane → ℕ → List ℕ → ℕ → Bool
stands_well lanes rank order k = is_lane_of lanes rank k && leb (times k order) (event_count lanes k)

orders_well : (lanes : List Lane) (rank : ℕ) (order : List ℕ) → is_legal_order lanes rank order ≡ true → list_all (stands_well lanes rank order) order ≡ true
unfolding is_legal_order
orders_well lanes rank order e = e

listed_absent : (lanes : List Lane) (r k o : ℕ) (orders : List (List ℕ)) → legal_from lanes o orders ≡ true → is_lane_of lanes r k ≡ true → r < o → times k (lanes_of (lines_listed o orders)) ≡ 0
unfolding lines_listed
listed_absent lanes r k o [] legal own lt = refl
listed_absent lanes r k o (order ∷ orders) legal own lt =
    let rest = listed_absent lanes r k (o + 1) orders (second_of (is_legal_order lanes o order) (legal_from lanes (o + 1) orders) legal) own (omega (arith, lt)) in
    elim (cases_lt 0 (times k order)) [
      | inl t ↦
          (let well = stands_in (stands_well lanes o order) k order (orders_well lanes o order (first_of (is_legal_order lanes o order) (legal_from lanes (o + 1) orders) legal)) t in
          let same = one_rank lanes r o k own (first_of (is_lane_of lanes o k) (leb (times k order) (event_count lanes k)) well) in
          absurd (omega (arith, same, lt)))
      | inr f ↦ omega (arith, f, rest, times_listed k o order orders)
    ]

listed_counts : (lanes : List Lane) (k o : ℕ) (orders : List (List ℕ)) → legal_from lanes o orders ≡ true → times k (lanes_of (lines_listed o orders)) ≤ event_count lanes k
unfolding lines_listed
listed_counts lanes k o [] legal = omega arith
listed_counts lanes k o (order ∷ orders) legal =
    let later = second_of (is_legal_order lanes o order) (legal_from lanes (o + 1) orders) legal in
    elim (cases_lt 0 (times k order)) [
      | inl t ↦
          (let well = stands_in (stands_well lanes o order) k order (orders_well lanes o order (first_of (is_legal_order lanes o order) (legal_from lanes (o + 1) orders) legal)) t in
          let own = first_of (is_lane_of lanes o k) (leb (times k order) (event_count lanes k)) well in
          let few = le_true (times k order) (event_count lanes k) (second_of (is_lane_of lanes o k) (leb (times k order) (event_count lanes k)) well) in
          omega (arith, few, listed_absent lanes o k (o + 1) orders later own (omega arith), times_listed k o order orders))
      | inr f ↦ omega (arith, f, listed_counts lanes k (o + 1) orders later, times_listed k o order orders)
    ]

listed_own : (ranks : ℕ) (lanes : List Lane) (o : ℕ) (orders : List (List ℕ)) → o + length orders ≤ ranks → legal_from lanes o orders ≡ true → AllByRecursion (λ (line : ℕ × ℕ). (line.0 < ranks) × (is_lane_of lanes line.0 line.1 ≡ true)) (lines_listed o orders)
unfolding lines_listed
listed_own ranks lanes o [] fit legal = tt
listed_own ranks lanes o (order ∷ orders) fit legal =
    all-append (λ (line : ℕ × ℕ). (line.0 < ranks) × (is_lane_of lanes line.0 line.1 ≡ true)) (of_rank o order) (lines_listed (o + 1) orders)
    (all_of_rank (λ (line : ℕ × ℕ). (line.0 < ranks) × (is_lane_of lanes line.0 line.1 ≡ true)) (stands_well lanes o order) o order
    (orders_well lanes o order (first_of (is_legal_order lanes o order) (legal_from lanes (o + 1) orders) legal))
    (λ k well. (omega (arith, fit), first_of (is_lane_of lanes o k) (leb (times k order) (event_count lanes k)) well)))
    (listed_own ranks lanes (o + 1) orders (omega (arith, fit)) (second_of (is_legal_order lanes o order) (legal_from lanes (o + 1) orders) legal))

-- ---- so they are read

own_at : (Q : ℕ × ℕ → Type 0) (before : List (ℕ × ℕ)) (line : ℕ × ℕ) (lines : List (ℕ × ℕ)) → AllByRecursion Q (before ++ line ∷ lines) → Q line
own_at Q [] line lines all = all.0
own_at Q (x ∷ before) line lines all = own_at Q before line lines all.1

once_more : (b : Bool) (n : ℕ) → b ≡ true → cond b (suc n) n ≡ suc n
once_more true n e = refl
once_more false n e = cc

times_before : (before : List (ℕ × ℕ)) (line : ℕ × ℕ) (lines : List (ℕ × ℕ)) → times line.1 (lanes_of before) + 1 ≤ times line.1 (lanes_of (before ++ line ∷ lines))
times_before before line lines =
    let split = ap (λ (xs : List ℕ). times line.1 xs) (map-append (λ (l : ℕ × ℕ). l.1) before (line ∷ lines)) ∙ times-append line.1 (lanes_of before) (line.1 ∷ lanes_of lines) in
    omega (arith, split, once_more (eqb line.1 line.1) (times line.1 (lanes_of lines)) (eq-eqb line.1 line.1 refl))

lines_read : (ranks : ℕ) (lanes : List Lane) (most : ℕ) (before lines : List (ℕ × ℕ)) → ranks ≤ 2 ^ 32 → length lanes ≤ 2 ^ 32 → length lines ≤ most → AreLegalLines ranks lanes (before ++ lines) → lines_from ranks lanes most before (lines_text lines) ≡ Ok (before ++ lines)
unfolding lines_text
lines_read ranks lanes most before [] few small fit legal = lines_end ranks lanes most before ∙ ap Ok (sym (append-nil before))
lines_read ranks lanes zero before (line ∷ lines) few small fit legal = absurd (omega (arith, fit))
lines_read ranks lanes (suc most) before (line ∷ lines) few small fit legal =
    let own = own_at (λ (l : ℕ × ℕ). (l.0 < ranks) × (is_lane_of lanes l.0 l.1 ≡ true)) before line lines legal.own in
    let within = own_within lanes line.0 line.1 own.1 in
    let bytes : List ℕ = schedule_line line.0 line.1 ++ lines_text lines in
    let passes : line_refusal ranks lanes before line ≡ None = not_refused ranks lanes before line.0 line.1 own.0 own.1 (omega (arith, times_before before line lines, legal.counts line.1)) in
    let some : 0 < length bytes = omega (arith, length-append (schedule_line line.0 line.1) (lines_text lines), line_some line.0 line.1) in
    line_goes_on ranks lanes most before bytes line (lines_text lines) some (line_in_is line.0 line.1 (lines_text lines) (omega (arith, own.0, few)) (omega (arith, within, small))) passes
    ∙ lines_read ranks lanes most (before ++ line ∷ []) lines few small (omega (arith, fit)) (subst (AreLegalLines ranks lanes) (sym (append_assoc before (line ∷ []) lines)) legal)
    ∙ ap Ok (append_assoc before (line ∷ []) lines)

lines_short : (lines : List (ℕ × ℕ)) → length lines ≤ length (lines_text lines)
unfolding lines_text
lines_short [] = omega arith
lines_short (line ∷ lines) = omega (arith, length-append (schedule_line line.0 line.1) (lines_text lines), line_some line.0 line.1, lines_short lines)

pub text_is_read : (ranks : ℕ) (lanes : List Lane) (orders : List (List ℕ)) → ranks ≤ 2 ^ 32 → length lanes ≤ 2 ^ 32 → is_legal ranks lanes orders ≡ true → schedule_of ranks lanes (schedule_text orders) ≡ Ok orders
unfolding schedule_of is_legal
text_is_read ranks lanes orders few small legal =
    let size : length orders ≡ ranks = eqb-true (length orders) ranks (first_of (eqb (length orders) ranks) (legal_from lanes 0 orders) legal) in
    let all : legal_from lanes 0 orders ≡ true = second_of (eqb (length orders) ranks) (legal_from lanes 0 orders) legal in
    let lines : List (ℕ × ℕ) = lines_listed 0 orders in
    let text : schedule_text orders ≡ lines_text lines = sym (text_listed 0 orders ∙ texts_all orders) in
    let pass : AreLegalLines ranks lanes lines = record { own = listed_own ranks lanes 0 orders (omega (arith, size)) all; counts = λ k. listed_counts lanes k 0 orders all } in
    ap (λ (bytes : List ℕ). lists_of ranks (lines_from ranks lanes (length bytes) [] bytes)) text
    ∙ ap (lists_of ranks) (lines_read ranks lanes (length (lines_text lines)) [] lines few small (lines_short lines) pass)
    ∙ ap Ok (orders_listed ranks orders size)
