-- Eight rows added to four columns of sums at a time.
use Rattle.std.proofs.Common.{◌≡◌, ℕ, zero, suc, ◌+◌, ◌-◌, ◌*◌, ◌<◌, ◌≤◌, List, slice_index, inl, inr, ap, ◌∙◌, refl, sym, subst, arith}
use Rattle.std.proofs.lemmas.Bool.{cases_lt}
use Rattle.mls_model.specs.CellSums.{sample}
use Rattle.mls_power.specs.Columns.{after}
use Rattle.mls_power.specs.FourColumns.{FourWalked}
use Rattle.mls_power.specs.PowersAdded.{ArePowersAdded}
use Rattle.mls_power.specs.ColumnSteps.{sample_at, cube_of, fourth_of, low_half, high_half}
use Rattle.mls_cov.specs.SumsAdded.{AreOutputsAdded, AreProductsAdded}
use Rattle.mls_field.specs.ColumnSums.{Column, Samples, Products, Cubes, products_column, powers_column, column_at, of_column, sums_step, most_before}
use Rattle.mls_field.specs.Gathered.{row_behind}
use Rattle.mls_field.specs.Walk.{Walk}
use Rattle.mls_field.proofs.Behind.{in_row}
use Rattle.mls_field.proofs.ColumnPlaces.{product_there, power_there}
use Rattle.mls_field.proofs.Walks.{apart_rows, same_after}

-- ---- four columns more
placed : (new mid : List ℕ) (step : ℕ → ℕ → ℕ → ℕ → ℕ) (c e i j m : ℕ) → c ≡ e → i ≡ j → slice_index new j ≡ after (step c m) 8 (slice_index mid j) → slice_index new i ≡ after (step e m) 8 (slice_index mid i)
placed new mid step c e i j m same at h =
    ap (slice_index new) at ∙ (h ∙ (ap (λ (x : ℕ). after (step x m) 8 (slice_index mid j)) same ∙ ap (λ (x : ℕ). after (step e m) 8 (slice_index mid x)) (sym at)))

abbrev FourMore : ℕ → ℕ → ℕ → ℕ → ℕ → List ℕ → List ℕ → (ℕ → ℕ → ℕ → ℕ → ℕ) → Type 0
FourMore row c places from count mid new step = FourWalked ((row + c) * places + from) places count 8 mid new (λ k. step c (from + k)) (λ k. step (c + 1) (from + k)) (λ k. step (c + 2) (from + k)) (λ k. step (c + 3) (from + k))

four_there : (row c places from count : ℕ) (mid new : List ℕ) (step : ℕ → ℕ → ℕ → ℕ → ℕ) → FourMore row c places from count mid new step → (d k : ℕ) → d < 4 → k < count → slice_index new ((row + (c + d)) * places + (from + k)) ≡ after (step (c + d) (from + k)) 8 (slice_index mid ((row + (c + d)) * places + (from + k)))
four_there row c places from count mid new step four zero k _ low = placed new mid step c (c + 0) _ _ (from + k) (omega arith) (omega arith) (four.in_first k low)
four_there row c places from count mid new step four (suc zero) k _ low = placed new mid step (c + 1) (c + 1) _ _ (from + k) (omega arith) (omega arith) (four.in_second k low)
four_there row c places from count mid new step four (suc (suc zero)) k _ low = placed new mid step (c + 2) (c + 2) _ _ (from + k) (omega arith) (omega arith) (four.in_third k low)
four_there row c places from count mid new step four (suc (suc (suc zero))) k _ low = placed new mid step (c + 3) (c + 3) _ _ (from + k) (omega arith) (omega arith) (four.in_fourth k low)
four_there row c places from count mid new step four (suc (suc (suc (suc d)))) k few low = absurd (omega (arith, few))

-- a column that hasn't been walked yet is as it was
as_before : (row c places from count : ℕ) (old mid : List ℕ) (step : ℕ → ℕ → ℕ → ℕ → ℕ) → Walk row c places from (from + count) old mid step → from + count ≤ places → (d k : ℕ) → k < count → slice_index mid ((row + (c + d)) * places + (from + k)) ≡ slice_index old ((row + (c + d)) * places + (from + k))
as_before row c places from count old mid step walk fits d k low =
    walk.rest _ (λ c' i below _ high f. absurd (omega (arith, f, apart_rows (row + c') (row + (c + d)) places i (from + k) (omega (arith, below)) (omega (arith, high, fits)))))

-- a number outside of four columns
four_rest : (row c places from count : ℕ) (mid new : List ℕ) (step : ℕ → ℕ → ℕ → ℕ → ℕ) → FourMore row c places from count mid new step → (j : ℕ) → ((d k : ℕ) → d < 4 → k < count → j ≡ (row + c) * places + from + d * places + k → slice_index new j ≡ slice_index mid j) → slice_index new j ≡ slice_index mid j
four_rest row c places from count mid new step four j inside =
    let at = (row + c) * places + from in
    elim (cases_lt j at) [
      | inl low ↦ four.before j low
      | inr a ↦ elim (cases_lt j (at + count)) [
        | inl low ↦ inside 0 (j - at) (omega arith) (omega (arith, a, low)) (omega (arith, a))
        | inr b ↦ elim (cases_lt j (at + places)) [
          | inl low ↦ four.behind_first j b low
          | inr c1 ↦ elim (cases_lt j (at + places + count)) [
            | inl low ↦ inside 1 (j - (at + places)) (omega arith) (omega (arith, c1, low)) (omega (arith, c1))
            | inr d ↦ elim (cases_lt j (at + 2 * places)) [
              | inl low ↦ four.behind_second j d low
              | inr e ↦ elim (cases_lt j (at + 2 * places + count)) [
                | inl low ↦ inside 2 (j - (at + 2 * places)) (omega arith) (omega (arith, e, low)) (omega (arith, e))
                | inr f ↦ elim (cases_lt j (at + 3 * places)) [
                  | inl low ↦ four.behind_third j f low
                  | inr g ↦ elim (cases_lt j (at + 3 * places + count)) [
                    | inl low ↦ inside 3 (j - (at + 3 * places)) (omega arith) (omega (arith, g, low)) (omega (arith, g))
                    | inr h ↦ four.behind j h
                  ]
                ]
              ]
            ]
          ]
        ]
      ]
    ]

pub four_more : (row c places from count : ℕ) (old mid new : List ℕ) (step : ℕ → ℕ → ℕ → ℕ → ℕ) → from + count ≤ places → Walk row c places from (from + count) old mid step → FourMore row c places from count mid new step → Walk row (c + 4) places from (from + count) old new step
four_more row c places from count old mid new step fits walk four = record {
  there = λ c' i below from_in high. elim (cases_lt c' c) [
    | inl low ↦ four.before _ (omega (arith, apart_rows (row + c') (row + c) places i from (omega (arith, low)) (omega (arith, high, fits)))) ∙ walk.there c' i low from_in high
    | inr not ↦ (
        let d = c' - c in
        let k = i - from in
        let e : c + d ≡ c' = omega (arith, not) in
        let f : from + k ≡ i = omega (arith, from_in) in
        let k_in : k < count = omega (arith, from_in, high) in
        subst (λ (q : ℕ). slice_index new ((row + q) * places + i) ≡ after (step q i) 8 (slice_index old ((row + q) * places + i))) e
        (subst (λ (j : ℕ). slice_index new ((row + (c + d)) * places + j) ≡ after (step (c + d) j) 8 (slice_index old ((row + (c + d)) * places + j))) f
        (four_there row c places from count mid new step four d k (omega (arith, below, not)) k_in ∙
        ap (after (step (c + d) (from + k)) 8) (as_before row c places from count old mid step walk fits d k k_in)))
        )
  ];
  rest = λ j outside.
      four_rest row c places from count mid new step four j (λ d k few low e. absurd (outside (c + d) (from + k) (omega (arith, few)) (omega arith) (omega (arith, low)) (omega (arith, e)))) ∙
      walk.rest j (λ c' i below from_in high. outside c' i (omega (arith, below)) from_in high);
}

-- room in a column that hasn't been walked yet
room_there : (row c places from count bound : ℕ) (old mid : List ℕ) (step : ℕ → ℕ → ℕ → ℕ → ℕ) → Walk row c places from (from + count) old mid step → from + count ≤ places → (d k j : ℕ) → k < count → j ≡ (row + (c + d)) * places + (from + k) → slice_index old ((row + (c + d)) * places + (from + k)) ≤ bound → slice_index mid j ≤ bound
room_there row c places from count bound old mid step walk fits d k j low e room =
    subst (λ (n : ℕ). n ≤ bound) (sym (ap (slice_index mid) e ∙ as_before row c places from count old mid step walk fits d k low)) room

plain_room : (k j : ℕ) → most_before (products_column k j) ≡ 9223372036854775807
plain_room zero zero = refl
plain_room zero (suc zero) = refl
plain_room zero (suc (suc zero)) = refl
plain_room zero (suc (suc (suc j))) = refl
plain_room (suc k) zero = refl
plain_room (suc k) (suc zero) = refl
plain_room (suc k) (suc (suc zero)) = refl
plain_room (suc k) (suc (suc (suc j))) = refl

product_room : (p k j c : ℕ) → k < p + 1 → j < 4 → c ≡ 4 * k + j → most_before (column_at p c) ≡ 9223372036854775807
product_room p k j c inside small e = ap most_before (product_there p k j c inside small e) ∙ plain_room k j

-- ---- room in columns that haven't been walked yet
abbrev pub HasRoom : ℕ → ℕ → ℕ → ℕ → ℕ → List ℕ → Type 0
HasRoom p row places from count words = (c i : ℕ) → c < 8 + 4 * p → from ≤ i → i < from + count → slice_index words ((row + c) * places + i) ≤ most_before (column_at p c)

pub products_room : (p row q places from count : ℕ) (old mid : List ℕ) (step : ℕ → ℕ → ℕ → ℕ → ℕ) → HasRoom p row places from count old → Walk row (4 * q) places from (from + count) old mid step → from + count ≤ places → q < p + 1 → (d k j : ℕ) → d < 4 → k < count → j ≡ (row + (4 * q + d)) * places + (from + k) → slice_index mid j < 9223372036854775808
products_room p row q places from count old mid step room walk fits q_in d k j small low e =
    let there : slice_index old ((row + (4 * q + d)) * places + (from + k)) ≤ most_before (column_at p (4 * q + d)) = room (4 * q + d) (from + k) (omega (arith, q_in, small)) (omega arith) (omega (arith, low)) in
    let plain : slice_index old ((row + (4 * q + d)) * places + (from + k)) ≤ 9223372036854775807 = subst (λ (n : ℕ). slice_index old ((row + (4 * q + d)) * places + (from + k)) ≤ n) (product_room p q d (4 * q + d) q_in small refl) there in
    let here : slice_index mid j ≤ 9223372036854775807 = room_there row (4 * q) places from count 9223372036854775807 old mid step walk fits d k j low e plain in
    omega (arith, here)

pub powers_room : (p row places from count : ℕ) (old mid : List ℕ) (step : ℕ → ℕ → ℕ → ℕ → ℕ) → HasRoom p row places from count old → Walk row (4 + 4 * p) places from (from + count) old mid step → from + count ≤ places → (d k j : ℕ) → d < 4 → k < count → j ≡ (row + (4 + 4 * p + d)) * places + (from + k) → slice_index mid j ≤ most_before (powers_column d)
powers_room p row places from count old mid step room walk fits d k j small low e =
    let there : slice_index old ((row + (4 + 4 * p + d)) * places + (from + k)) ≤ most_before (column_at p (4 + 4 * p + d)) = room (4 + 4 * p + d) (from + k) (omega (arith, small)) (omega arith) (omega (arith, low)) in
    room_there row (4 + 4 * p) places from count (most_before (powers_column d)) old mid step walk fits d k j low e
    (subst (λ (column : Column). slice_index old ((row + (4 + 4 * p + d)) * places + (from + k)) ≤ most_before column) (power_there p d (4 + 4 * p + d) refl) there)

-- ---- the same steps
four_as : (at apart count : ℕ) (old new : List ℕ) (f1 f2 f3 f4 h1 h2 h3 h4 : ℕ → ℕ → ℕ → ℕ) → FourWalked at apart count 8 old new f1 f2 f3 f4 → ((k g n : ℕ) → f1 k g n ≡ h1 k g n) → ((k g n : ℕ) → f2 k g n ≡ h2 k g n) → ((k g n : ℕ) → f3 k g n ≡ h3 k g n) → ((k g n : ℕ) → f4 k g n ≡ h4 k g n) → FourWalked at apart count 8 old new h1 h2 h3 h4
four_as at apart count old new f1 f2 f3 f4 h1 h2 h3 h4 four e1 e2 e3 e4 = record {
  in_first = λ k low. four.in_first k low ∙ same_after (f1 k) (h1 k) 8 (slice_index old (at + k)) (λ g n _. e1 k g n);
  in_second = λ k low. four.in_second k low ∙ same_after (f2 k) (h2 k) 8 (slice_index old (at + apart + k)) (λ g n _. e2 k g n);
  in_third = λ k low. four.in_third k low ∙ same_after (f3 k) (h3 k) 8 (slice_index old (at + 2 * apart + k)) (λ g n _. e3 k g n);
  in_fourth = λ k low. four.in_fourth k low ∙ same_after (f4 k) (h4 k) 8 (slice_index old (at + 3 * apart + k)) (λ g n _. e4 k g n);
  before = four.before;
  behind_first = four.behind_first;
  behind_second = four.behind_second;
  behind_third = four.behind_third;
  behind = four.behind;
}

sample_there : (n places : ℕ) (samples : List ℕ) (start from x r k g : ℕ) → r < n → x ≡ start + r * places + from → sample_at samples (n * places) (x + k) g ≡ sample r (row_behind n places samples start (from + k) g)
sample_there n places samples start from x r k g h e =
    ap (λ (i : ℕ). sample_at samples (n * places) i g) (let f : x + k ≡ start + r * places + (from + k) = omega (arith, e) in f) ∙ in_row n places samples start (from + k) g r h

samples_step : (p places : ℕ) (samples : List ℕ) (start from x r c k g m : ℕ) → r < p + 2 → x ≡ start + r * places + from → column_at p c ≡ Samples r → m + sample_at samples ((p + 2) * places) (x + k) g ≡ sums_step p c (row_behind (p + 2) places samples start (from + k) g) m
samples_step p places samples start from x r c k g m h e is =
    let row = row_behind (p + 2) places samples start (from + k) g in
    ap (λ (a : ℕ). m + a) (sample_there (p + 2) places samples start from x r k g h e) ∙ ap (λ (column : Column). m + of_column column row) (sym is)

products_step : (p places : ℕ) (samples : List ℕ) (start from x y r q c k g m : ℕ) → r < p + 2 → q < p + 2 → x ≡ start + r * places + from → y ≡ start + q * places + from → column_at p c ≡ Products r q → m + sample_at samples ((p + 2) * places) (x + k) g * sample_at samples ((p + 2) * places) (y + k) g ≡ sums_step p c (row_behind (p + 2) places samples start (from + k) g) m
products_step p places samples start from x y r q c k g m h i e f is =
    let row = row_behind (p + 2) places samples start (from + k) g in
    ap (λ (a : ℕ). m + a * sample_at samples ((p + 2) * places) (y + k) g) (sample_there (p + 2) places samples start from x r k g h e) ∙
    (ap (λ (b : ℕ). m + sample r row * b) (sample_there (p + 2) places samples start from y q k g i f) ∙ ap (λ (column : Column). m + of_column column row) (sym is))

cubes_step : (p places : ℕ) (samples : List ℕ) (start from x r c k g m : ℕ) → r < p + 2 → x ≡ start + r * places + from → column_at p c ≡ Cubes r → m + cube_of (sample_at samples ((p + 2) * places) (x + k) g) ≡ sums_step p c (row_behind (p + 2) places samples start (from + k) g) m
cubes_step p places samples start from x r c k g m h e is =
    let row = row_behind (p + 2) places samples start (from + k) g in
    ap (λ (a : ℕ). m + cube_of a) (sample_there (p + 2) places samples start from x r k g h e) ∙ ap (λ (column : Column). m + of_column column row) (sym is)

both_added : (n a b : ℕ) → n + a + b ≡ n + (a + b)
both_added n a b = omega arith

halves_added : (half : ℕ → ℕ) (m a b x y : ℕ) → a ≡ x → b ≡ y → m + half (fourth_of a) + half (fourth_of b) ≡ m + (half (fourth_of x) + half (fourth_of y))
halves_added half m a b x y e f =
    both_added m (half (fourth_of a)) (half (fourth_of b)) ∙ (ap (λ (i : ℕ). m + (half (fourth_of i) + half (fourth_of b))) e ∙ ap (λ (i : ℕ). m + (half (fourth_of x) + half (fourth_of i))) f)

-- ---- what the loops over places add
abbrev pub steps_of : ℕ → ℕ → List ℕ → ℕ → ℕ → ℕ → ℕ → ℕ → ℕ
steps_of p places samples start c i g n = sums_step p c (row_behind (p + 2) places samples start i g) n

pub outputs_more : (p row places from count : ℕ) (mid new samples : List ℕ) (start a b at : ℕ) → a ≡ start + from → b ≡ start + places + from → at ≡ (row + 0) * places + from → AreOutputsAdded at places count mid new samples ((p + 2) * places) a b → FourMore row 0 places from count mid new (steps_of p places samples start)
outputs_more p row places from count mid new samples start a b at ea eb there added =
    let fa : a ≡ start + 0 * places + from = omega (arith, ea) in
    let fb : b ≡ start + 1 * places + from = omega (arith, eb) in
    four_as _ places count mid new _ _ _ _ _ _ _ _ (subst (λ (x : ℕ). AreOutputsAdded x places count mid new samples ((p + 2) * places) a b) there added)
    (λ k g m. samples_step p places samples start from a 0 0 k g m (omega arith) fa (product_there p 0 0 0 (omega arith) (omega arith) (omega arith)))
    (λ k g m. samples_step p places samples start from b 1 1 k g m (omega arith) fb (product_there p 0 1 1 (omega arith) (omega arith) (omega arith)))
    (λ k g m. products_step p places samples start from a a 0 0 2 k g m (omega arith) (omega arith) fa fa (product_there p 0 2 2 (omega arith) (omega arith) (omega arith)))
    (λ k g m. products_step p places samples start from b b 1 1 3 k g m (omega arith) (omega arith) fb fb (product_there p 0 3 3 (omega arith) (omega arith) (omega arith)))

pub products_more : (p row places from count : ℕ) (mid new samples : List ℕ) (start a b c at q : ℕ) → q < p → a ≡ start + from → b ≡ start + places + from → c ≡ start + (q + 2) * places + from → at ≡ (row + (4 + 4 * q)) * places + from → AreProductsAdded at places count mid new samples ((p + 2) * places) a b c → FourMore row (4 + 4 * q) places from count mid new (steps_of p places samples start)
products_more p row places from count mid new samples start a b c at q h ea eb ec there added =
    let fa : a ≡ start + 0 * places + from = omega (arith, ea) in
    let fb : b ≡ start + 1 * places + from = omega (arith, eb) in
    let fc : c ≡ start + (2 + q) * places + from = omega (arith, ec) in
    four_as _ places count mid new _ _ _ _ _ _ _ _ (subst (λ (x : ℕ). AreProductsAdded x places count mid new samples ((p + 2) * places) a b c) there added)
    (λ k g m. samples_step p places samples start from c (2 + q) (4 + 4 * q) k g m (omega (arith, h)) fc (product_there p (suc q) 0 (4 + 4 * q) (omega (arith, h)) (omega arith) (omega arith)))
    (λ k g m. products_step p places samples start from c c (2 + q) (2 + q) (4 + 4 * q + 1) k g m (omega (arith, h)) (omega (arith, h)) fc fc (product_there p (suc q) 1 (4 + 4 * q + 1) (omega (arith, h)) (omega arith) (omega arith)))
    (λ k g m. products_step p places samples start from a c 0 (2 + q) (4 + 4 * q + 2) k g m (omega arith) (omega (arith, h)) fa fc (product_there p (suc q) 2 (4 + 4 * q + 2) (omega (arith, h)) (omega arith) (omega arith)))
    (λ k g m. products_step p places samples start from b c 1 (2 + q) (4 + 4 * q + 3) k g m (omega arith) (omega (arith, h)) fb fc (product_there p (suc q) 3 (4 + 4 * q + 3) (omega (arith, h)) (omega arith) (omega arith)))

pub powers_more : (p row places from count : ℕ) (mid new samples : List ℕ) (start a b at : ℕ) → a ≡ start + from → b ≡ start + places + from → at ≡ (row + (4 + 4 * p)) * places + from → ArePowersAdded at places count mid new samples ((p + 2) * places) a b → FourMore row (4 + 4 * p) places from count mid new (steps_of p places samples start)
powers_more p row places from count mid new samples start a b at ea eb there added =
    let fa : a ≡ start + 0 * places + from = omega (arith, ea) in
    let fb : b ≡ start + 1 * places + from = omega (arith, eb) in
    let row_at : ℕ → ℕ → List ℕ = λ k g. row_behind (p + 2) places samples start (from + k) g in
    let of_a = λ (k g : ℕ). sample_there (p + 2) places samples start from a 0 k g (omega arith) fa in
    let of_b = λ (k g : ℕ). sample_there (p + 2) places samples start from b 1 k g (omega arith) fb in
    four_as _ places count mid new _ _ _ _ _ _ _ _ (subst (λ (x : ℕ). ArePowersAdded x places count mid new samples ((p + 2) * places) a b) there added)
    (λ k g m. cubes_step p places samples start from a 0 (4 + 4 * p) k g m (omega arith) fa (power_there p 0 (4 + 4 * p) (omega arith)))
    (λ k g m. cubes_step p places samples start from b 1 (4 + 4 * p + 1) k g m (omega arith) fb (power_there p 1 (4 + 4 * p + 1) (omega arith)))
    (λ k g m. halves_added low_half m _ _ (sample 0 (row_at k g)) (sample 1 (row_at k g)) (of_a k g) (of_b k g) ∙ ap (λ (column : Column). m + of_column column (row_at k g)) (sym (power_there p 2 (4 + 4 * p + 2) (omega arith))))
    (λ k g m. halves_added high_half m _ _ (sample 0 (row_at k g)) (sample 1 (row_at k g)) (of_a k g) (of_b k g) ∙ ap (λ (column : Column). m + of_column column (row_at k g)) (sym (power_there p 3 (4 + 4 * p + 3) (omega arith))))
