-- Columns of a plane's cells to which rows are added, one column and some places after the other.
use Rattle.std.proofs.Common.{◌≡◌, ◌≢◌, ℕ, zero, suc, ◌+◌, ◌-◌, ◌*◌, ◌<◌, ◌≤◌, List, slice_index, inl, inr, ap, ◌∙◌, refl, sym, subst, arith}
use Rattle.std.proofs.lemmas.Bool.{cases_lt, cases_order}
use Rattle.mls_power.specs.Columns.{after, Walked}
use Rattle.mls_field.specs.Walk.{Walk}
use Rattle.mls_field.proofs.Grid.{plane_before}

-- the same steps, the same number
pub same_after : (f h : ℕ → ℕ → ℕ) (groups start : ℕ) → ((g n : ℕ) → g < groups → f g n ≡ h g n) → after f groups start ≡ after h groups start
unfolding after
same_after f h zero start same = refl
same_after f h (suc g) start same = same g (after f g start) (omega arith) ∙ ap (h g) (same_after f h g start (λ i n low. same i n (omega arith)))

pub walked_as : (at count groups : ℕ) (old new : List ℕ) (f h : ℕ → ℕ → ℕ → ℕ) → Walked at count groups old new f → ((k g n : ℕ) → k < count → g < groups → f k g n ≡ h k g n) → Walked at count groups old new h
walked_as at count groups old new f h walked same = record {
  there = λ k low. walked.there k low ∙ same_after (f k) (h k) groups (slice_index old (at + k)) (λ g n few. same k g n low few);
  before = walked.before;
  behind = walked.behind;
}

-- ---- numbers in rows of so many places
-- numbers of different rows, or of different places, lie apart
pub apart_rows : (r q places i j : ℕ) → r < q → i < places → r * places + i < q * places + j
apart_rows r q places i j h k = omega (arith, plane_before r q places h)

pub no_columns : (row places from end : ℕ) (words : List ℕ) (step : ℕ → ℕ → ℕ → ℕ → ℕ) → Walk row 0 places from end words words step
no_columns row places from end words step = record { there = λ c i low _ _. absurd (omega (arith, low)); rest = λ j _. refl }

-- two numbers of different places are not the same one
pub other_place : (r q places i j : ℕ) → i < places → j < places → i ≢ j → r * places + i ≢ q * places + j
other_place r q places i j h k apart = λ e. elim (cases_order r q) [
  | inl same ↦ absurd (apart (omega (arith, e, ap (λ (m : ℕ). m * places) same)))
  | inr (inl low) ↦ absurd (omega (arith, e, apart_rows r q places i j low h))
  | inr (inr high) ↦ absurd (omega (arith, e, apart_rows q r places j i high k))
]

-- one more column
column_there : (row c places from count : ℕ) (old mid new : List ℕ) (step : ℕ → ℕ → ℕ → ℕ → ℕ) → from + count ≤ places → Walk row c places from (from + count) old mid step → Walked ((row + c) * places + from) count 8 mid new (λ k. step c (from + k)) → (k : ℕ) → k < count → slice_index new ((row + c) * places + (from + k)) ≡ after (step c (from + k)) 8 (slice_index old ((row + c) * places + (from + k)))
column_there row c places from count old mid new step fits walk walked k low =
    let e : (row + c) * places + (from + k) ≡ (row + c) * places + from + k = omega arith in
    let same : slice_index mid ((row + c) * places + (from + k)) ≡ slice_index old ((row + c) * places + (from + k)) = walk.rest _ (λ c' i below _ high f. absurd (omega (arith, f, apart_rows (row + c') (row + c) places i (from + k) (omega (arith, below)) (omega (arith, high, fits))))) in
    ap (slice_index new) e ∙ (walked.there k low ∙ ap (after (step c (from + k)) 8) (ap (slice_index mid) (sym e) ∙ same))

pub column_more : (row c places from count : ℕ) (old mid new : List ℕ) (step : ℕ → ℕ → ℕ → ℕ → ℕ) → from + count ≤ places → Walk row c places from (from + count) old mid step → Walked ((row + c) * places + from) count 8 mid new (λ k. step c (from + k)) → Walk row (c + 1) places from (from + count) old new step
column_more row c places from count old mid new step fits walk walked = record {
  there = λ c' i below from_in high. elim (cases_lt c' c) [
    | inl low ↦ walked.before _ (omega (arith, apart_rows (row + c') (row + c) places i from (omega (arith, low)) (omega (arith, high, fits)))) ∙ walk.there c' i low from_in high
    | inr not ↦ (
        let e : c ≡ c' = omega (arith, below, not) in
        let f : from + (i - from) ≡ i = omega (arith, from_in) in
        subst (λ (d : ℕ). slice_index new ((row + d) * places + i) ≡ after (step d i) 8 (slice_index old ((row + d) * places + i))) e
        (subst (λ (j : ℕ). slice_index new ((row + c) * places + j) ≡ after (step c j) 8 (slice_index old ((row + c) * places + j))) f
        (column_there row c places from count old mid new step fits walk walked (i - from) (omega (arith, from_in, high))))
        )
  ];
  rest = λ j outside.
      let here : slice_index mid j ≡ slice_index old j = walk.rest j (λ c' i below from_in high. outside c' i (omega (arith, below)) from_in high) in
      elim (cases_lt j ((row + c) * places + from)) [
        | inl low ↦ walked.before j low ∙ here
        | inr high ↦ elim (cases_lt j ((row + c) * places + from + count)) [
          | inl inside ↦ absurd (outside c (from + (j - ((row + c) * places + from))) (omega arith) (omega arith) (omega (arith, high, inside)) (omega (arith, high)))
          | inr behind ↦ walked.behind j behind ∙ here
        ]
      ];
}

-- some more places
pub places_more : (row columns places from end : ℕ) (old mid new : List ℕ) (step : ℕ → ℕ → ℕ → ℕ → ℕ) → from ≤ end → end ≤ places → Walk row columns places 0 from old mid step → Walk row columns places from end mid new step → Walk row columns places 0 end old new step
places_more row columns places from end old mid new step some fits first second = record {
  there = λ c i c_in _ high. elim (cases_lt i from) [
    | inl low ↦ second.rest _ (λ c' j _ from_in end_in. other_place (row + c) (row + c') places i j (omega (arith, high, fits)) (omega (arith, end_in, fits)) (λ e. absurd (omega (arith, e, low, from_in)))) ∙ first.there c i c_in (omega arith) low
    | inr not ↦ second.there c i c_in (omega (arith, not)) high ∙ ap (after (step c i) 8) (first.rest _ (λ c' j _ _ below. other_place (row + c) (row + c') places i j (omega (arith, high, fits)) (omega (arith, below, some, fits)) (λ e. absurd (omega (arith, e, not, below)))))
  ];
  rest = λ j outside. second.rest j (λ c i c_in from_in high. outside c i c_in (omega arith) high) ∙ first.rest j (λ c i c_in low high. outside c i c_in low (omega (arith, high, some)));
}

pub no_places : (row columns places : ℕ) (words : List ℕ) (step : ℕ → ℕ → ℕ → ℕ → ℕ) → Walk row columns places 0 0 words words step
no_places row columns places words step = record { there = λ c i _ _ low. absurd (omega (arith, low)); rest = λ j _. refl }

-- a column that hasn't been walked yet is as it was
pub column_as_before : (row c places from count : ℕ) (old mid : List ℕ) (step : ℕ → ℕ → ℕ → ℕ → ℕ) → Walk row c places from (from + count) old mid step → from + count ≤ places → (k : ℕ) → k < count → slice_index mid ((row + c) * places + from + k) ≡ slice_index old ((row + c) * places + (from + k))
column_as_before row c places from count old mid step walk fits k low =
    let e : (row + c) * places + from + k ≡ (row + c) * places + (from + k) = omega arith in
    ap (slice_index mid) e ∙ walk.rest _ (λ c' i below _ high f. absurd (omega (arith, f, apart_rows (row + c') (row + c) places i (from + k) (omega (arith, below)) (omega (arith, high, fits)))))

-- one more column at all places
pub whole_column : (row c places at : ℕ) (old mid new : List ℕ) (f : ℕ → ℕ → ℕ → ℕ) (step : ℕ → ℕ → ℕ → ℕ → ℕ) → at ≡ (row + c) * places → Walk row c places 0 places old mid step → Walked at places 8 mid new f → ((k g n : ℕ) → f k g n ≡ step c k g n) → Walk row (c + 1) places 0 places old new step
whole_column row c places at old mid new f step e walk walked same =
    let all : 0 + places ≡ places = omega arith in
    let from : at ≡ (row + c) * places + 0 = omega (arith, e) in
    subst (λ (end : ℕ). Walk row (c + 1) places 0 end old new step) all
    (column_more row c places 0 places old mid new step (omega arith) (subst (λ (end : ℕ). Walk row c places 0 end old mid step) (sym all) walk)
    (walked_as _ _ 8 _ _ f _ (subst (λ (a : ℕ). Walked a places 8 mid new f) from walked) (λ k g n _ _. same k g n ∙ ap (λ (i : ℕ). step c i g n) (let e : k ≡ 0 + k = omega arith in e))))

-- the numbers of a column that hasn't been walked yet
pub column_waits : (row c places : ℕ) (old mid : List ℕ) (step : ℕ → ℕ → ℕ → ℕ → ℕ) → Walk row c places 0 places old mid step → (k : ℕ) → k < places → slice_index mid ((row + c) * places + k) ≡ slice_index old ((row + c) * places + k)
column_waits row c places old mid step walk k low = walk.rest _ (λ c' i below _ high f. absurd (omega (arith, f, apart_rows (row + c') (row + c) places i k (omega (arith, below)) high)))

-- the numbers of places that haven't been walked yet
pub place_waits : (row columns places from : ℕ) (old mid : List ℕ) (step : ℕ → ℕ → ℕ → ℕ → ℕ) → from ≤ places → Walk row columns places 0 from old mid step → (c i : ℕ) → from ≤ i → i < places → slice_index mid ((row + c) * places + i) ≡ slice_index old ((row + c) * places + i)
place_waits row columns places from old mid step fits walk c i from_in high = walk.rest _ (λ c' j _ _ below. other_place (row + c) (row + c') places i j high (omega (arith, below, fits)) (λ e. absurd (omega (arith, e, from_in, below))))
