-- Lines that pass, and what is kept of them.
use Rattle.std.proofs.Common.{◌≡◌, ℕ, zero, suc, ◌+◌, ◌≤◌, ◌<◌, Bool, true, false, cond, eqb, leb, ltb, List, [], ◌∷◌, ◌++◌, length, map, replicate, get_or, set, Option, Some, None, refl, sym, ap, subst, ◌∙◌, append_assoc, arith, inl, inr, eq-eqb}
use Rattle.std.specs.Global.{Vec}
use Rattle.std.specs.List.{AllByRecursion}
use Rattle.std.proofs.lemmas.Bool.{cases_eq, cases_lt, ne_eqb, le-leb, lt-ltb, le-ltb}
use Rattle.std.proofs.lemmas.Bool.Decides.{nat_tests}
use Rattle.std.proofs.lemmas.List.{append-nil, map_push, map-set, length-map, length-set, get_or-set_same, get_or-set_other, ext_get_or}
use Rattle.mls_model.specs.declared.lanes.SchedWhy.{SchedWhy}
use Rattle.mls_model.specs.declared.lanes.SchedWhy.TheVariants as why
use Rattle.mls_model.specs.Numbers.{below, element, times}
use Rattle.mls_model.specs.Lanes.{Lane}
use Rattle.mls_model.specs.Schedules.{event_count, is_lane_of}
use Rattle.mls_tape.specs.declared.lines.Passed.{Passed}
use Rattle.mls_tape.specs.ScheduleLines.{lanes_of, order_of, orders_of, AreLegalLines, BeginsWith, Fails}
use Rattle.mls_tape.specs.ScheduleReading.{line_refusal}
use Rattle.mls_tape.specs.Passed.{StandsFor, lists_seen}
use Rattle.mls_text.proofs.Counted.{length-below}
use Rattle.mls_tape.proofs.Entries.{lane_there, lane_of_rank, no_lane}
use Rattle.mls_tape.proofs.Complete.{times-append}

pub any_default : {A : Type 0} (xs : List A) (i : ℕ) (d e : A) → i < length xs → get_or xs i d ≡ get_or xs i e
any_default [] i d e lt = absurd (omega arith)
any_default (x ∷ xs) zero d e lt = refl
any_default (x ∷ xs) (suc i) d e lt = any_default xs i d e (omega arith)

-- ---- whose lane it is

pub own_lane : (lanes : List Lane) (rank lane r : ℕ) → lane < length lanes → ((l : Lane) → element lanes lane ≡ Some l → r ≡ l.rank) → r ≡ rank → is_lane_of lanes rank lane ≡ true
own_lane lanes rank lane r lt is same =
    let there = lane_there lanes lane lt in
    lane_of_rank lanes rank lane there.0 there.1 ∙ eq-eqb there.0.rank rank (sym (is there.0 there.1) ∙ same)

pub other_lane : (lanes : List Lane) (rank lane r : ℕ) → lane < length lanes → ((l : Lane) → element lanes lane ≡ Some l → r ≡ l.rank) → (r ≡ rank → ⊥) → is_lane_of lanes rank lane ≡ false
other_lane lanes rank lane r lt is other =
    let there = lane_there lanes lane lt in
    lane_of_rank lanes rank lane there.0 there.1 ∙ ne_eqb there.0.rank rank (λ e. other (is there.0 there.1 ∙ e))

pub own_within : (lanes : List Lane) (rank lane : ℕ) → is_lane_of lanes rank lane ≡ true → lane < length lanes
own_within lanes rank lane own = elim (cases_lt lane (length lanes)) [
  | inl t ↦ t
  | inr f ↦ let wrong : true ≡ false = sym own ∙ no_lane lanes rank lane (omega (arith, f)) in cc
]

-- ---- one line more

pub lanes_push : (lines : List (ℕ × ℕ)) (line : ℕ × ℕ) → lanes_of (lines ++ line ∷ []) ≡ lanes_of lines ++ line.1 ∷ []
lanes_push lines line = map_push (λ (l : ℕ × ℕ). l.1) lines line

one_time : (b : Bool) → cond b (suc 0) 0 ≡ cond b 1 0
one_time true = refl
one_time false = refl

pub times_push : (k : ℕ) (lines : List (ℕ × ℕ)) (line : ℕ × ℕ) → times k (lanes_of (lines ++ line ∷ [])) ≡ times k (lanes_of lines) + cond (eqb line.1 k) 1 0
times_push k lines line = ap (λ (xs : List ℕ). times k xs) (lanes_push lines line) ∙ times-append k (lanes_of lines) (line.1 ∷ [])

pub times_here : (lines : List (ℕ × ℕ)) (line : ℕ × ℕ) → times line.1 (lanes_of (lines ++ line ∷ [])) ≡ times line.1 (lanes_of lines) + 1
times_here lines line = times_push line.1 lines line ∙ ap (λ (b : Bool). times line.1 (lanes_of lines) + cond b 1 0) (eq-eqb line.1 line.1 refl)

times_there : (k : ℕ) (lines : List (ℕ × ℕ)) (line : ℕ × ℕ) → (line.1 ≡ k → ⊥) → times k (lanes_of (lines ++ line ∷ [])) ≡ times k (lanes_of lines)
times_there k lines line other = times_push k lines line ∙ ap (λ (b : Bool). times k (lanes_of lines) + cond b 1 0) (ne_eqb line.1 k other) ∙ omega arith

-- ---- why a line is refused

pub rank_refused : (ranks : ℕ) (lanes : List Lane) (before : List (ℕ × ℕ)) (rank lane : ℕ) → ranks ≤ rank → line_refusal ranks lanes before (rank, lane) ≡ Some why.Rank
unfolding line_refusal
rank_refused ranks lanes before rank lane le = rw (le-ltb rank ranks le) refl

pub lane_refused : (ranks : ℕ) (lanes : List Lane) (before : List (ℕ × ℕ)) (rank lane : ℕ) → rank < ranks → is_lane_of lanes rank lane ≡ false → line_refusal ranks lanes before (rank, lane) ≡ Some why.Lane
unfolding line_refusal
lane_refused ranks lanes before rank lane lt other = rw (lt-ltb rank ranks lt, other) refl

too_often : (m n : ℕ) → n < m → leb m n ≡ false
too_often m n lt = grind (arith, nat_tests)

pub count_refused : (ranks : ℕ) (lanes : List Lane) (before : List (ℕ × ℕ)) (rank lane : ℕ) → rank < ranks → is_lane_of lanes rank lane ≡ true → event_count lanes lane ≤ times lane (lanes_of before) → line_refusal ranks lanes before (rank, lane) ≡ Some why.Count
unfolding line_refusal
count_refused ranks lanes before rank lane lt own many =
    let here = times_here before (rank, lane) in
    rw (lt-ltb rank ranks lt, own, too_often (times lane (lanes_of (before ++ (rank, lane) ∷ []))) (event_count lanes lane) (omega (arith, here, many))) refl

pub not_refused : (ranks : ℕ) (lanes : List Lane) (before : List (ℕ × ℕ)) (rank lane : ℕ) → rank < ranks → is_lane_of lanes rank lane ≡ true → times lane (lanes_of before) < event_count lanes lane → line_refusal ranks lanes before (rank, lane) ≡ None
unfolding line_refusal
not_refused ranks lanes before rank lane lt own few =
    let here = times_here before (rank, lane) in
    rw (lt-ltb rank ranks lt, own, le-leb (times lane (lanes_of (before ++ (rank, lane) ∷ []))) (event_count lanes lane) (omega (arith, here, few))) refl

-- what the reason says
lt_true : (m n : ℕ) → ltb m n ≡ true → m < n
lt_true m n h = grind (arith, nat_tests)

lt_false : (m n : ℕ) → ltb m n ≡ false → n ≤ m
lt_false m n h = grind (arith, nat_tests)

le_true : (m n : ℕ) → leb m n ≡ true → m ≤ n
le_true m n h = grind (arith, nat_tests)

le_false : (m n : ℕ) → leb m n ≡ false → n < m
le_false m n h = grind (arith, nat_tests)

chosen : Bool → Bool → Bool → Option SchedWhy
chosen a b c = cond a (cond b (cond c None (Some why.Count)) (Some why.Lane)) (Some why.Rank)

pub refused_for : (ranks : ℕ) (lanes : List Lane) (before : List (ℕ × ℕ)) (rest : List ℕ) (line : ℕ × ℕ) (reason : SchedWhy) → BeginsWith rest line → line_refusal ranks lanes before line ≡ Some reason → Fails ranks lanes before rest reason
unfolding line_refusal chosen
refused_for ranks lanes before rest line reason begins e =
    go (ltb line.0 ranks) (is_lane_of lanes line.0 line.1) (leb (times line.1 (lanes_of (before ++ line ∷ []))) (event_count lanes line.1)) refl refl refl reason e
  where
    go : (a b c : Bool) → ltb line.0 ranks ≡ a → is_lane_of lanes line.0 line.1 ≡ b → leb (times line.1 (lanes_of (before ++ line ∷ []))) (event_count lanes line.1) ≡ c → (r : SchedWhy) → chosen a b c ≡ Some r → Fails ranks lanes before rest r
    go false b c ea eb ec r h = let same : why.Rank ≡ r = cc in subst (λ (w : SchedWhy). Fails ranks lanes before rest w) same (line, begins, lt_false line.0 ranks ea)
    go true false c ea eb ec r h = let same : why.Lane ≡ r = cc in subst (λ (w : SchedWhy). Fails ranks lanes before rest w) same (line, begins, (lt_true line.0 ranks ea, eb))
    go true true false ea eb ec r h = let same : why.Count ≡ r = cc in subst (λ (w : SchedWhy). Fails ranks lanes before rest w) same (line, begins, (lt_true line.0 ranks ea, eb, le_false (times line.1 (lanes_of (before ++ line ∷ []))) (event_count lanes line.1) ec))
    go true true true ea eb ec r h = cc

-- what passing says
pub record Passes (ranks : ℕ) (lanes : List Lane) (before : List (ℕ × ℕ)) (line : ℕ × ℕ) : Type 0 where
  pub rank : line.0 < ranks
  pub own : is_lane_of lanes line.0 line.1 ≡ true
  pub few : times line.1 (lanes_of (before ++ line ∷ [])) ≤ event_count lanes line.1

pub passes_for : (ranks : ℕ) (lanes : List Lane) (before : List (ℕ × ℕ)) (line : ℕ × ℕ) → line_refusal ranks lanes before line ≡ None → Passes ranks lanes before line
unfolding line_refusal chosen
passes_for ranks lanes before line e =
    go (ltb line.0 ranks) (is_lane_of lanes line.0 line.1) (leb (times line.1 (lanes_of (before ++ line ∷ []))) (event_count lanes line.1)) refl refl refl e
  where
    go : (a b c : Bool) → ltb line.0 ranks ≡ a → is_lane_of lanes line.0 line.1 ≡ b → leb (times line.1 (lanes_of (before ++ line ∷ []))) (event_count lanes line.1) ≡ c → chosen a b c ≡ None → Passes ranks lanes before line
    go false b c ea eb ec h = cc
    go true false c ea eb ec h = cc
    go true true false ea eb ec h = cc
    go true true true ea eb ec h = record { rank = lt_true line.0 ranks ea; own = eb; few = le_true (times line.1 (lanes_of (before ++ line ∷ []))) (event_count lanes line.1) ec }

-- ---- lines that all pass

pub none_legal : (ranks : ℕ) (lanes : List Lane) → AreLegalLines ranks lanes []
none_legal ranks lanes = record { own = tt; counts = λ k. omega arith }

own_push : (ranks : ℕ) (lanes : List Lane) (lines : List (ℕ × ℕ)) (line : ℕ × ℕ) → AllByRecursion (λ (l : ℕ × ℕ). (l.0 < ranks) × (is_lane_of lanes l.0 l.1 ≡ true)) lines → (line.0 < ranks) × (is_lane_of lanes line.0 line.1 ≡ true) → AllByRecursion (λ (l : ℕ × ℕ). (l.0 < ranks) × (is_lane_of lanes l.0 l.1 ≡ true)) (lines ++ line ∷ [])
own_push ranks lanes [] line all h = (h, tt)
own_push ranks lanes (x ∷ lines) line all h = (all.0, own_push ranks lanes lines line all.1 h)

pub legal_push : (ranks : ℕ) (lanes : List Lane) (lines : List (ℕ × ℕ)) (line : ℕ × ℕ) → AreLegalLines ranks lanes lines → Passes ranks lanes lines line → AreLegalLines ranks lanes (lines ++ line ∷ [])
legal_push ranks lanes lines line legal passes = record {
  own = own_push ranks lanes lines line legal.own (passes.rank, passes.own);
  counts = λ k. elim (cases_eq line.1 k) [
    | inl t ↦ subst (λ (n : ℕ). times n (lanes_of (lines ++ line ∷ [])) ≤ event_count lanes n) t passes.few
    | inr f ↦ omega (arith, times_there k lines line f, legal.counts k)
  ];
}

-- ---- what is kept

order_push : (rank : ℕ) (lines : List (ℕ × ℕ)) (line : ℕ × ℕ) → order_of rank (lines ++ line ∷ []) ≡ order_of rank lines ++ cond (eqb line.0 rank) (line.1 ∷ []) []
order_push rank [] line = append-nil (cond (eqb line.0 rank) (line.1 ∷ []) [])
order_push rank (x ∷ lines) line =
    ap (λ (l : List ℕ). cond (eqb x.0 rank) (x.1 ∷ []) [] ++ l) (order_push rank lines line)
    ∙ sym (append_assoc (cond (eqb x.0 rank) (x.1 ∷ []) []) (order_of rank lines) (cond (eqb line.0 rank) (line.1 ∷ []) []))

get_push : {A : Type 0} (xs : List A) (x d : A) (i : ℕ) → i < length xs → get_or (xs ++ x ∷ []) i d ≡ get_or xs i d
get_push [] x d i lt = absurd (omega arith)
get_push (y ∷ xs) x d zero lt = refl
get_push (y ∷ xs) x d (suc i) lt = get_push xs x d i (omega arith)

get_last : {A : Type 0} (xs : List A) (x d : A) → get_or (xs ++ x ∷ []) (length xs) d ≡ x
get_last [] x d = refl
get_last (y ∷ xs) x d = get_last xs x d

get_below : (f : ℕ → List ℕ) (n i : ℕ) → i < n → get_or (map f (below n)) i [] ≡ f i
get_below f zero i lt = absurd (omega arith)
get_below f (suc n) i lt =
    let size : length (map f (below n)) ≡ n = length-map (below n) f ∙ length-below n in
    ap (λ (xs : List (List ℕ)). get_or xs i []) (map_push f (below n) n)
    ∙ elim (cases_eq i n) [
      | inl t ↦ ap (λ (j : ℕ). get_or (map f (below n) ++ f n ∷ []) j []) (t ∙ sym size) ∙ get_last (map f (below n)) (f n) [] ∙ ap f (sym t)
      | inr o ↦ get_push (map f (below n)) (f n) [] i (omega (arith, size, lt, o)) ∙ get_below f n i (omega (arith, lt, o))
    ]

pub orders-length : (ranks : ℕ) (lines : List (ℕ × ℕ)) → length (orders_of ranks lines) ≡ ranks
unfolding orders_of
orders-length ranks lines = length-map (below ranks) (λ (rank : ℕ). order_of rank lines) ∙ length-below ranks

pub order_at : (ranks : ℕ) (lines : List (ℕ × ℕ)) (i : ℕ) → i < ranks → get_or (orders_of ranks lines) i [] ≡ order_of i lines
unfolding orders_of
order_at ranks lines i lt = get_below (λ (rank : ℕ). order_of rank lines) ranks i lt

pub orders_push : (ranks : ℕ) (lines : List (ℕ × ℕ)) (rank lane : ℕ) → rank < ranks → set (orders_of ranks lines) rank (get_or (orders_of ranks lines) rank [] ++ lane ∷ []) ≡ orders_of ranks (lines ++ (rank, lane) ∷ [])
orders_push ranks lines rank lane lt =
    let old : List (List ℕ) = orders_of ranks lines in
    let new : List ℕ = get_or old rank [] ++ lane ∷ [] in
    let size : length (set old rank new) ≡ ranks = length-set old rank new ∙ orders-length ranks lines in
    ext_get_or [] (set old rank new) (orders_of ranks (lines ++ (rank, lane) ∷ [])) (size ∙ sym (orders-length ranks (lines ++ (rank, lane) ∷ []))) (λ i within.
    let here : i < ranks = omega (arith, within, size) in
    elim (cases_eq i rank) [
      | inl t ↦
          ap (λ (j : ℕ). get_or (set old rank new) j []) t
          ∙ get_or-set_same old rank new [] (omega (arith, lt, orders-length ranks lines))
          ∙ ap (λ (l : List ℕ). l ++ lane ∷ []) (order_at ranks lines rank lt)
          ∙ ap (λ (b : Bool). order_of rank lines ++ cond b (lane ∷ []) []) (sym (eq-eqb rank rank refl))
          ∙ sym (order_push rank lines (rank, lane))
          ∙ ap (λ (j : ℕ). order_of j (lines ++ (rank, lane) ∷ [])) (sym t)
          ∙ sym (order_at ranks (lines ++ (rank, lane) ∷ []) i here)
      | inr o ↦
          get_or-set_other old rank i new [] o
          ∙ order_at ranks lines i here
          ∙ sym (append-nil (order_of i lines))
          ∙ ap (λ (b : Bool). order_of i lines ++ cond b (lane ∷ []) []) (sym (ne_eqb rank i (λ e. o (sym e))))
          ∙ sym (order_push i lines (rank, lane))
          ∙ sym (order_at ranks (lines ++ (rank, lane) ∷ []) i here)
    ])

pub get_seen : (vs : List (Vec ℕ)) (i : ℕ) (d : Vec ℕ) → i < length vs → get_or (lists_seen vs) i [] ≡ (get_or vs i d).items
get_seen [] i d lt = absurd (omega arith)
get_seen (v ∷ vs) zero d lt = refl
get_seen (v ∷ vs) (suc i) d lt = get_seen vs i d (omega arith)

pub stands_push : (ranks lanes : ℕ) (passed after : Passed) (lines : List (ℕ × ℕ)) (rank lane n : ℕ) (was_order order : Vec ℕ) → StandsFor ranks lanes passed lines → rank < length passed.lists.items → lane < length passed.counts.items
    → after.lists.items ≡ set passed.lists.items rank order → was_order ≡ get_or passed.lists.items rank was_order → order.items ≡ was_order.items ++ lane ∷ [] → after.counts.items ≡ set passed.counts.items lane (n + 1) → n ≡ get_or passed.counts.items lane n
    → StandsFor ranks lanes after (lines ++ (rank, lane) ∷ [])
stands_push ranks lanes passed after lines rank lane n was_order order stands lt within lists had pushed counts was =
    let size : length passed.lists.items ≡ ranks = sym (length-map passed.lists.items (λ (v : Vec ℕ). v.items)) ∙ ap (λ (xs : List (List ℕ)). length xs) stands.lists ∙ orders-length ranks lines in
    let few : rank < ranks = omega (arith, lt, size) in
    record {
      lists =
          ap (λ (vs : List (Vec ℕ)). lists_seen vs) lists
          ∙ map-set (λ (v : Vec ℕ). v.items) passed.lists.items rank order
          ∙ ap (λ (l : List ℕ). set (lists_seen passed.lists.items) rank l) (pushed ∙ ap (λ (v : Vec ℕ). v.items ++ lane ∷ []) had ∙ ap (λ (l : List ℕ). l ++ lane ∷ []) (sym (get_seen passed.lists.items rank was_order lt)))
          ∙ ap (λ (ls : List (List ℕ)). set ls rank (get_or ls rank [] ++ lane ∷ [])) stands.lists
          ∙ orders_push ranks lines rank lane few;
      size = ap (λ (xs : List ℕ). length xs) counts ∙ length-set passed.counts.items lane (n + 1) ∙ stands.size;
      each = λ k below_lanes. ap (λ (xs : List ℕ). get_or xs k 0) counts ∙ elim (cases_eq k lane) [
        | inl t ↦
            ap (λ (j : ℕ). get_or (set passed.counts.items lane (n + 1)) j 0) t
            ∙ get_or-set_same passed.counts.items lane (n + 1) 0 within
            ∙ ap (λ (m : ℕ). m + 1) (was ∙ any_default passed.counts.items lane n 0 within ∙ stands.each lane (omega (arith, within, stands.size)))
            ∙ sym (times_here lines (rank, lane))
            ∙ ap (λ (j : ℕ). times j (lanes_of (lines ++ (rank, lane) ∷ []))) (sym t)
        | inr o ↦
            get_or-set_other passed.counts.items lane k (n + 1) 0 o
            ∙ stands.each k below_lanes
            ∙ sym (times_there k lines (rank, lane) (λ e. o (sym e)))
      ];
    }

pub lists_size : (ranks lanes : ℕ) (passed : Passed) (lines : List (ℕ × ℕ)) → StandsFor ranks lanes passed lines → length passed.lists.items ≡ ranks
lists_size ranks lanes passed lines stands = sym (length-map passed.lists.items (λ (v : Vec ℕ). v.items)) ∙ ap (λ (xs : List (List ℕ)). length xs) stands.lists ∙ orders-length ranks lines

get_replicate : {A : Type 0} (n i : ℕ) (x d : A) → i < n → get_or (replicate n x) i d ≡ x
get_replicate zero i x d lt = absurd (omega arith)
get_replicate (suc n) zero x d lt = refl
get_replicate (suc n) (suc i) x d lt = get_replicate n i x d (omega arith)

length_of_replicate : {A : Type 0} (n : ℕ) (x : A) → length (replicate n x) ≡ n
length_of_replicate zero x = refl
length_of_replicate (suc n) x = ap suc (length_of_replicate n x)

pub no_orders : (ranks : ℕ) → replicate ranks [] ≡ orders_of ranks []
no_orders ranks =
    let size : length {A = List ℕ} (replicate ranks []) ≡ ranks = length_of_replicate ranks [] in
    ext_get_or [] (replicate ranks []) (orders_of ranks []) (size ∙ sym (orders-length ranks [])) (λ i within.
    let here : i < ranks = omega (arith, within, size) in
    get_replicate ranks i [] [] here ∙ sym (order_at ranks [] i here))

pub none_stand : (ranks lanes : ℕ) (passed : Passed) → lists_seen passed.lists.items ≡ replicate ranks [] → passed.counts.items ≡ replicate lanes 0 → StandsFor ranks lanes passed []
none_stand ranks lanes passed lists counts = record {
  lists = lists ∙ no_orders ranks;
  size = ap (λ (xs : List ℕ). length xs) counts ∙ length_of_replicate lanes 0;
  each = λ k lt. ap (λ (xs : List ℕ). get_or xs k 0) counts ∙ get_replicate lanes k 0 0 lt;
}
