-- The numbers of a cell that were read.
use Rattle.std.proofs.Common.{◌≡◌, ℕ, suc, ◌+◌, ◌-◌, ◌*◌, ◌^◌, ◌<◌, ◌≤◌, List, [], ◌∷◌, ◌++◌, length, take, get_or, set, Ok, inl, inr, ap, ◌∙◌, refl, sym, subst, arith, get_or-set_same, get_or-set_other}
use Rattle.std.proofs.lemmas.Bool.{cases_lt}
use Rattle.std.proofs.lemmas.List.{map-append}
use Rattle.mls_model.specs.Numbers.{below, joined}
use Rattle.mls_model.specs.Studies.{Sizes}
use Rattle.mls_ckpt.specs.Reading.{Cursor, many}
use Rattle.mls_ckpt.specs.States.{after_one}
use Rattle.mls_ckpt.specs.CellParts.{Powers, Totals, ArePowers, powers_at, extrema_at, above_at, totals_at, column_at, columns_at, cell_at}
use Rattle.mls_cov.specs.Rules.{KeepsColumn}
use Rattle.mls_field.specs.declared.taken.OutputSums.{OutputSums}
use Rattle.mls_field.specs.declared.taken.PowerSums.{PowerSums}
use Rattle.mls_field.specs.Answered.{before}
use Rattle.mls_field.specs.Kinds.{SumsWithin, first_of, second_of, third_of, fourth_of}
use Rattle.mls_field.specs.PackedCells.{kept_cell}
use Rattle.mls_field.specs.Taken.{column_in, columns_in, IsColumnOf, HoldOutputs, HalvesWithin, AreOutputs}
use Rattle.mls_field.proofs.CellRules.{same_maps, front_columns}
use Rattle.mls_field.proofs.ReadInOrder.{all_read}

-- ---- numbers that fall
pub record Falling (xs : List ℕ) (most top k : ℕ) : Type 0 where
  pub few : most ≤ top
  pub each : (i : ℕ) → i < k → get_or xs i 0 ≤ top
  pub falling : (i : ℕ) → i + 1 < k → get_or xs (i + 1) 0 ≤ get_or xs i 0
  pub last : (i : ℕ) → i + 1 ≡ k → get_or xs i 0 ≡ most
  pub rest : (i : ℕ) → k ≤ i → get_or xs i 0 ≡ 0

pub falls_on : (xs : List ℕ) (k n most top : ℕ) → k < length xs → n ≤ most → Falling xs most top k → Falling (set xs k n) n top (k + 1)
falls_on xs k n most top fits less h =
    let here : get_or (set xs k n) k 0 ≡ n = get_or-set_same xs k n 0 fits in
    let there : (i : ℕ) → (i ≡ k → ⊥) → get_or (set xs k n) i 0 ≡ get_or xs i 0 = λ i apart. get_or-set_other xs k i n 0 apart in
    record {
      few = omega (arith, less, h.few);
      each = λ i low. elim (cases_lt i k) [
        | inl before ↦ omega (arith, there i (λ e. omega (arith, e, before)), h.each i before)
        | inr after ↦ (let e : k ≡ i = omega (arith, low, after) in subst (λ (m : ℕ). get_or (set xs k n) m 0 ≤ top) e (omega (arith, here, less, h.few)))
      ];
      falling = λ i low. elim (cases_lt (i + 1) k) [
        | inl before ↦ omega (arith, there i (λ e. omega (arith, e, before)), there (i + 1) (λ e. omega (arith, e, before)), h.falling i before)
        | inr after ↦ (
            let e : k ≡ i + 1 = omega (arith, low, after) in
            subst (λ (m : ℕ). get_or (set xs k n) m 0 ≤ get_or (set xs k n) i 0) e (omega (arith, here, there i (λ f. omega (arith, e, f)), h.last i (sym e), less))
            )
      ];
      last = λ i e. subst (λ (m : ℕ). get_or (set xs k n) m 0 ≡ n) (let f : k ≡ i = omega (arith, e) in f) here;
      rest = λ i high. there i (λ e. omega (arith, e, high)) ∙ h.rest i (omega (arith, high));
    }

-- ---- columns
is_four : (xs : List ℕ) → length xs ≡ 4 → get_or xs 0 0 ∷ get_or xs 1 0 ∷ get_or xs 2 0 ∷ get_or xs 3 0 ∷ [] ≡ xs
is_four (a ∷ b ∷ c ∷ d ∷ []) long = refl
is_four (a ∷ b ∷ c ∷ d ∷ e ∷ xs) long = absurd (omega (arith, long))
is_four (a ∷ b ∷ c ∷ []) long = absurd (omega (arith, long))
is_four (a ∷ b ∷ []) long = absurd (omega (arith, long))
is_four (a ∷ []) long = absurd (omega (arith, long))
is_four [] long = absurd (omega (arith, long))

-- four sums were put at the places of a parameter
pub record IsSet (k : ℕ) (column old new : List ℕ) : Type 0 where
  pub long : length column ≡ 4
  pub first : get_or new (4 + 4 * k) 0 ≡ get_or column 0 0
  pub second : get_or new (4 + 4 * k + 1) 0 ≡ get_or column 1 0
  pub with_a : get_or new (4 + 4 * k + 2) 0 ≡ get_or column 2 0
  pub with_b : get_or new (4 + 4 * k + 3) 0 ≡ get_or column 3 0
  pub before : (i : ℕ) → i < 4 + 4 * k → get_or new i 0 ≡ get_or old i 0

pub columns_more : (k : ℕ) (column old new : List ℕ) → IsSet k column old new → columns_in old k ++ column ∷ [] ≡ columns_in new (k + 1)
columns_more k column old new is =
    let four : column ≡ column_in new k = sym (is_four column is.long) ∙ sym (λ i. is.first i ∷ is.second i ∷ is.with_a i ∷ is.with_b i ∷ []) in
    let others : columns_in old k ≡ columns_in new k = same_maps (column_in old) (column_in new) k (λ j low.
    let e0 : get_or old (4 + 4 * j) 0 ≡ get_or new (4 + 4 * j) 0 = sym (is.before (4 + 4 * j) (omega (arith, low))) in
    let e1 : get_or old (4 + 4 * j + 1) 0 ≡ get_or new (4 + 4 * j + 1) 0 = sym (is.before (4 + 4 * j + 1) (omega (arith, low))) in
    let e2 : get_or old (4 + 4 * j + 2) 0 ≡ get_or new (4 + 4 * j + 2) 0 = sym (is.before (4 + 4 * j + 2) (omega (arith, low))) in
    let e3 : get_or old (4 + 4 * j + 3) 0 ≡ get_or new (4 + 4 * j + 3) 0 = sym (is.before (4 + 4 * j + 3) (omega (arith, low))) in
    λ i. e0 i ∷ e1 i ∷ e2 i ∷ e3 i ∷ []) in
    let joint : columns_in new k ++ column_in new k ∷ [] ≡ columns_in new (suc k) = sym (map-append (column_in new) (below k) (k ∷ [])) in
    (λ i. others i ++ four i ∷ []) ∙ (joint ∙ ap (columns_in new) (let e : suc k ≡ k + 1 = omega arith in e))

column_kept : (n j : ℕ) (old new : List ℕ) → get_or new 0 0 ≡ get_or old 0 0 → get_or new 1 0 ≡ get_or old 1 0 → get_or new 2 0 ≡ get_or old 2 0 → get_or new 3 0 ≡ get_or old 3 0 → get_or new (4 + 4 * j) 0 ≡ get_or old (4 + 4 * j) 0 → get_or new (4 + 4 * j + 1) 0 ≡ get_or old (4 + 4 * j + 1) 0 → get_or new (4 + 4 * j + 2) 0 ≡ get_or old (4 + 4 * j + 2) 0 → get_or new (4 + 4 * j + 3) 0 ≡ get_or old (4 + 4 * j + 3) 0 → KeepsColumn n j old → KeepsColumn n j new
column_kept n j old new e0 e1 e2 e3 e4 e5 e6 e7 c = record {
  sums_in = rw (e4, e5) c.sums_in;
  with_a = rw (e0, e2, e4, e5, e6) c.with_a;
  with_b = rw (e1, e3, e4, e5, e7) c.with_b;
}

pub outputs_kept : (t : OutputSums) (k : ℕ) (column old new : List ℕ) → IsSet k column old new → HoldOutputs t old → HoldOutputs t new
outputs_kept t k column old new is h = record {
  a = is.before 0 (omega arith) ∙ h.a;
  b = is.before 1 (omega arith) ∙ h.b;
  aa = is.before 2 (omega arith) ∙ h.aa;
  bb = is.before 3 (omega arith) ∙ h.bb;
}

pub rules_more : (n k : ℕ) (t : OutputSums) (column old new : List ℕ) → IsSet k column old new → HoldOutputs t old → IsColumnOf n t column → ((j : ℕ) → j < k → KeepsColumn n j old) → (j : ℕ) → j < k + 1 → KeepsColumn n j new
rules_more n k t column old new is there of h j low =
    let held = outputs_kept t k column old new is there in
    elim (cases_lt j k) [
      | inl before ↦ column_kept n j old new (is.before 0 (omega arith)) (is.before 1 (omega arith)) (is.before 2 (omega arith)) (is.before 3 (omega arith))
          (is.before (4 + 4 * j) (omega (arith, before))) (is.before (4 + 4 * j + 1) (omega (arith, before))) (is.before (4 + 4 * j + 2) (omega (arith, before))) (is.before (4 + 4 * j + 3) (omega (arith, before))) (h j before)
      | inr after ↦ subst (λ (m : ℕ). KeepsColumn n m new) (let e : k ≡ j = omega (arith, low, after) in e) (record {
        sums_in = rw (is.first, is.second) of.sums_in;
        with_a = rw (held.a, held.aa, is.first, is.second, is.with_a) of.with_a;
        with_b = rw (held.b, held.bb, is.first, is.second, is.with_b) of.with_b;
      })
    ]

pub columns_done : (n p k : ℕ) (t : Totals) (sums : List ℕ) (start c : Cursor) → k ≡ p → before (columns_in sums k) (many (λ i from. column_at n t from) after_one (p - k) k c) ≡ many (λ i from. column_at n t from) after_one p 0 start → columns_at n t p start ≡ Ok (columns_in sums p, c)
unfolding columns_at
columns_done n p k t sums start c all e =
    all_read (λ i from. column_at n t from) after_one p k k (columns_in sums k) c _ (omega (arith, all)) e ∙ ap (λ m. Ok (columns_in sums m, c)) all

-- ---- a cell
pub cell_read : (s : Sizes) (n : ℕ) (c0 c1 c2 c3 c4 c5 : Cursor) (powers : Powers) (extrema : ℕ × ℕ) (above : List ℕ) (totals : Totals) (columns : List (List ℕ)) → powers_at n c0 ≡ Ok (powers, c1) → extrema_at n c1 ≡ Ok (extrema, c2) → above_at n (length s.thresholds) c2 ≡ Ok (above, c3) → totals_at n powers c3 ≡ Ok (totals, c4) → columns_at n totals s.parameters c4 ≡ Ok (columns, c5)
    → cell_at s n c0 ≡ Ok (record { rows = n; p1 = powers.p1; p2 = powers.p2; p3 = powers.p3; p4 = powers.p4; least = extrema.0; greatest = extrema.1; above = above; products = totals.a ∷ totals.b ∷ totals.aa ∷ totals.bb ∷ joined columns }, c5)
unfolding cell_at
cell_read s n c0 c1 c2 c3 c4 c5 powers extrema above totals columns e1 e2 e3 e4 e5 = rw (e1, e2, e3, e4, e5) refl

-- the sums of a cell as they were put together
pub record IsTaken (p n : ℕ) (powers : PowerSums) (t : OutputSums) (sums : List ℕ) : Type 0 where
  pub rules : ArePowers n powers.p1 powers.p2 powers.p3 powers.p4
  pub outputs : AreOutputs n powers.p1 powers.p2 t
  pub there : HoldOutputs t sums
  pub columns : (k : ℕ) → k < p → KeepsColumn n k sums
  pub third : third_of p sums ≡ powers.p3
  pub fourth : fourth_of p sums ≡ powers.p4
  pub halves : HalvesWithin p n sums

-- the sums of third and fourth powers stay where columns are put
pub taken_from : (p n : ℕ) (powers : PowerSums) (t : OutputSums) (old new : List ℕ) → ArePowers n powers.p1 powers.p2 powers.p3 powers.p4 → AreOutputs n powers.p1 powers.p2 t → HoldOutputs t new → ((k : ℕ) → k < p → KeepsColumn n k new) → third_of p old ≡ powers.p3 → fourth_of p old ≡ powers.p4 → HalvesWithin p n old → ((i : ℕ) → 4 + 4 * p ≤ i → get_or new i 0 ≡ get_or old i 0) → IsTaken p n powers t new
taken_from p n powers t old new rules outputs there columns third fourth halves beyond =
    let e0 = beyond (4 + 4 * p) (omega arith) in
    let e1 = beyond (4 + 4 * p + 1) (omega arith) in
    let e2 = beyond (4 + 4 * p + 2) (omega arith) in
    let e3 = beyond (4 + 4 * p + 3) (omega arith) in
    record {
      rules = rules;
      outputs = outputs;
      there = there;
      columns = columns;
      third = (λ i. e0 i + e1 i) ∙ third;
      fourth = (λ i. e2 i + 2 ^ 32 * e3 i) ∙ fourth;
      halves = record {
        cubes_a = omega (arith, e0, halves.cubes_a);
        cubes_b = omega (arith, e1, halves.cubes_b);
        low = omega (arith, e2, halves.low);
        high = omega (arith, e3, halves.high);
      };
    }

pub taken_within : (p n : ℕ) (powers : PowerSums) (t : OutputSums) (sums : List ℕ) → IsTaken p n powers t sums → SumsWithin p n sums
taken_within p n powers t sums is =
    let there = is.there in
    let seconds : powers.p2 ≡ second_of sums = is.outputs.seconds ∙ sym (λ i. there.aa i + there.bb i) in
    record {
      products = record { a = rw (there.a, there.aa) is.outputs.a; b = rw (there.b, there.bb) is.outputs.b; columns = is.columns };
      powers = record {
        cubes_a = is.halves.cubes_a;
        cubes_b = is.halves.cubes_b;
        low = is.halves.low;
        high = is.halves.high;
        third = omega (arith, is.third, is.rules.third, seconds);
        fourth = omega (arith, is.fourth, is.third, is.rules.fourth);
      };
    }

pub taken_is : (p n least greatest : ℕ) (powers : PowerSums) (t : OutputSums) (sums ends numbers : List ℕ) → IsTaken p n powers t sums → 4 + 4 * p ≤ length sums → least ≡ get_or ends 0 0 → greatest ≡ get_or ends 1 0
    → (record { rows = n; p1 = powers.p1; p2 = powers.p2; p3 = powers.p3; p4 = powers.p4; least = least; greatest = greatest; above = numbers; products = t.a ∷ t.b ∷ t.aa ∷ t.bb ∷ joined (columns_in sums p) }) ≡ kept_cell p n sums ends numbers
taken_is p n least greatest powers t sums ends numbers is long e f =
    let there = is.there in
    let firsts : powers.p1 ≡ first_of sums = is.outputs.firsts ∙ sym (λ i. there.a i + there.b i) in
    let seconds : powers.p2 ≡ second_of sums = is.outputs.seconds ∙ sym (λ i. there.aa i + there.bb i) in
    let products : t.a ∷ t.b ∷ t.aa ∷ t.bb ∷ joined (columns_in sums p) ≡ take (4 + 4 * p) sums =
    sym (λ i. there.a i ∷ there.b i ∷ there.aa i ∷ there.bb i ∷ joined (columns_in sums p)) ∙ sym (front_columns p sums long) in
    let third = sym is.third in
    let fourth = sym is.fourth in
    λ i. record { rows = n; p1 = firsts i; p2 = seconds i; p3 = third i; p4 = fourth i; least = e i; greatest = f i; above = numbers; products = products i }
