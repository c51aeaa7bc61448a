-- Shares of n over m cells: which nth_span a cell is in.
use Rattle.std.proofs.Common.{◌≡◌, ℕ, zero, suc, ◌+◌, ◌-◌, ◌*◌, ◌/◌, ◌<◌, ◌≤◌, ◌↔◌, Bool, true, false, ◌&&◌, leb, ltb, cond, [], ◌∷◌, Option, Some, None, min, max, refl, sym, ◌∙◌, ap, arith, IsTrue, ◌⊎◌, inl, inr}
use Rattle.std.specs.List.{find}
use Rattle.std.proofs.Math.Nat.{div-lt_iff_lt-mul, div-eq_of_lt-le, le-div_iff_mul-le, mul-le-mul_right, le_of_mul-le-mul_right, div-mul-le_self, lt-div-mul-add, div-le_of_le-mul}
use Rattle.std.proofs.lemmas.List.Folds.{find-append}
use Rattle.std.specs.Option.{option_or}
use Rattle.std.proofs.lemmas.Nat.{le-div}
use Rattle.std.proofs.lemmas.Bool.{cases_Bool, leb-true, ltb-true, le-leb, lt-ltb, false≢true}
use Rattle.mls_model.specs.Numbers.{below}
use Rattle.mls_model.specs.declared.blocks.Span.{Span}
use Rattle.mls_model.specs.Blocks.{nth_span, is_in_span, meet}
use Rattle.mls_base.specs.Partitions.{ArePartition}

both : (a b : Bool) → (a && b) ≡ true → (a ≡ true) × (b ≡ true)
both true b h = (refl, h)
both false b h = absurd (false≢true h)

-- in a span as two orders
pub bounds : (span : Span) (x : ℕ) → IsTrue (is_in_span span x) → (span.first ≤ x) × (x < span.end)
bounds span x h =
    let parts = both (leb span.first x) (ltb x span.end) h in
    (leb-true span.first x parts.0, ltb-true x span.end parts.1)

pub in_span : (span : Span) (x : ℕ) → span.first ≤ x → x < span.end → IsTrue (is_in_span span x)
in_span span x low high = rw (le-leb span.first x low) (lt-ltb x span.end high)

-- the nth_span that holds a cell
abbrev pub holder : ℕ → ℕ → ℕ → ℕ
holder m n x = ((x + 1) * n - 1) / m

div-le : (a n x : ℕ) → 1 ≤ n → a / n ≤ x → a < (x + 1) * n
div-le a n x some le = (div-lt_iff_lt-mul {k = n} {x = a} {y = x + 1} (omega arith)).0 (omega arith)

le-div-from : (a n x : ℕ) → 1 ≤ n → a < (x + 1) * n → a / n ≤ x
le-div-from a n x some lt =
    let h : a / n < x + 1 = (div-lt_iff_lt-mul {k = n} {x = a} {y = x + 1} (omega arith)).1 lt in
    omega arith

below-div : (a n x : ℕ) → 1 ≤ n → x < a / n → (x + 1) * n ≤ a
below-div a n x some lt = (le-div_iff_mul-le {k = n} {x = x + 1} {y = a} (omega arith)).0 (omega arith)

below-div-from : (a n x : ℕ) → 1 ≤ n → (x + 1) * n ≤ a → x < a / n
below-div-from a n x some le =
    let h : x + 1 ≤ a / n = (le-div_iff_mul-le {k = n} {x = x + 1} {y = a} (omega arith)).1 le in
    omega arith

pub holder_is : (m n x i : ℕ) → 1 ≤ n → IsTrue (is_in_span (nth_span m n i) x) → i ≡ holder m n x
holder_is m n x i some h =
    let b = bounds (nth_span m n i) x h in
    let low : i * m < (x + 1) * n = div-le (i * m) n x some b.0 in
    let high : (x + 1) * n ≤ (i + 1) * m = below-div ((i + 1) * m) n x some b.1 in
    let from : i * m ≤ (x + 1) * n - 1 = omega arith in
    let to : (x + 1) * n - 1 < (i + 1) * m = omega arith in
    sym (div-eq_of_lt-le {k = i} m {m = (x + 1) * n - 1} from to)

pub holder_holds : (m n x : ℕ) → 1 ≤ n → 1 ≤ m → IsTrue (is_in_span (nth_span m n (holder m n x)) x)
holder_holds m n x some cells =
    let q : ℕ = ((x + 1) * n - 1) / m in
    let from : q * m ≤ (x + 1) * n - 1 = div-mul-le_self ((x + 1) * n - 1) m in
    let to : (x + 1) * n - 1 < q * m + m = lt-div-mul-add {a = (x + 1) * n - 1} {b = m} (omega arith) in
    in_span (nth_span m n (holder m n x)) x
    (le-div-from (q * m) n x some (omega arith))
    (below-div-from ((q + 1) * m) n x some (omega arith))

pub holder_within : (m n x : ℕ) → 1 ≤ n → x < m → holder m n x < n
holder_within m n x some within =
    let step : (x + 1) * n ≤ m * n = mul-le-mul_right n (omega arith) in
    (div-lt_iff_lt-mul {k = m} {x = (x + 1) * n - 1} {y = n} (omega arith)).1 (omega arith)

-- a nth_span lies in the mesh
pub span_inside : (m n i x : ℕ) → 1 ≤ n → i < n → IsTrue (is_in_span (nth_span m n i) x) → x < m
span_inside m n i x some within h =
    let b = bounds (nth_span m n i) x h in
    let high : (x + 1) * n ≤ (i + 1) * m = below-div ((i + 1) * m) n x some b.1 in
    let most : (i + 1) * m ≤ n * m = mul-le-mul_right m (omega arith) in
    let product : (x + 1) * n ≤ m * n = omega arith in
    let below_m : x + 1 ≤ m = le_of_mul-le-mul_right {m = x + 1} {n = m} {k = n} product (omega arith) in
    omega arith

pub spans_partition : (m n : ℕ) → 1 ≤ n → ArePartition n (nth_span m n) (λ x. x < m)
spans_partition m n some = record {
  once = λ x within. record {
    one = holder m n x;
    within = holder_within m n x some within;
    holds = holder_holds m n x some (omega arith);
    only = λ i _ h. holder_is m n x i some h;
  };
  inside = λ i within x h. span_inside m n i x some within h;
}

-- in what two spans nth_span
pub in_meet : (a b : Span) (x : ℕ) → IsTrue (is_in_span (meet a b) x) ↔ (IsTrue (is_in_span a x) × IsTrue (is_in_span b x))
in_meet a b x = (
  λ h. let both = bounds (meet a b) x h in (in_span a x (omega arith) (omega arith), in_span b x (omega arith) (omega arith)),
  λ h. let left = bounds a x h.0 in let right = bounds b x h.1 in in_span (meet a b) x (omega arith) (omega arith),
)

-- the first number below n that passes a test which one number alone passes
find_none : (p : ℕ → Bool) (n : ℕ) → ((i : ℕ) → i < n → p i ≡ false) → find p (below n) ≡ None
find_none p zero none = refl
find_none p (suc n) none =
    find-append p (below n) (n ∷ []) ∙ ap (λ o. option_or o (find p (n ∷ []))) (find_none p n (λ i lt. none i (omega arith))) ∙ ap (λ b. cond b (Some n) None) (none n (omega arith))

false_from : (b : Bool) → (b ≡ true → ⊥) → b ≡ false
false_from true not_true = absurd (not_true refl)
false_from false not_true = refl

pub find_one : (p : ℕ → Bool) (n h : ℕ) → h < n → p h ≡ true → ((i : ℕ) → i < n → p i ≡ true → i ≡ h) → find p (below n) ≡ Some h
find_one p zero h within holds only = absurd (omega arith)
find_one p (suc n) h within holds only =
    elim (cases_Bool (p n)) [
      | inl t ↦
          let last : n ≡ h = only n (omega arith) t in
          let none : find p (below n) ≡ None = find_none p n (λ i lt. false_from (p i) (λ passes. let same : i ≡ h = only i (omega arith) passes in omega arith)) in
          find-append p (below n) (n ∷ []) ∙ ap (λ o. option_or o (find p (n ∷ []))) none ∙ ap (λ b. cond b (Some n) None) t ∙ ap (λ (k : ℕ). Some k) last
      | inr f ↦
          let other : n ≡ h → ⊥ = λ same. false≢true (sym f ∙ ap p same ∙ holds) in
          let before : h < n = omega (arith, other) in
          find-append p (below n) (n ∷ []) ∙ ap (λ o. option_or o (find p (n ∷ []))) (find_one p n h before holds (λ i lt passes. only i (omega arith) passes))
    ]

found_where : (n h : ℕ) (o : Option ℕ) (b : Bool) → option_or o (cond b (Some n) None) ≡ Some h → (o ≡ Some h) ⊎ ((b ≡ true) × (n ≡ h))
found_where n h (Some k) b e = inl e
found_where n h None true e = inr (refl, cc)
found_where n h None false e = absurd cc

pub find_some : (p : ℕ → Bool) (n h : ℕ) → find p (below n) ≡ Some h → (h < n) × (p h ≡ true)
find_some p zero h found = absurd cc
find_some p (suc n) h found =
    elim (found_where n h (find p (below n)) (p n) (sym (find-append p (below n) (n ∷ [])) ∙ found)) [
      | inl f ↦ let r = find_some p n h f in (omega arith, r.1)
      | inr w ↦ (omega arith, sym (ap p w.1) ∙ w.0)
    ]

-- the first nth_span that holds a cell is the one that does
pub span_found : (m n x i : ℕ) → 1 ≤ n → (find (λ j. is_in_span (nth_span m n j) x) (below n) ≡ Some i) ↔ ((i < n) × IsTrue (is_in_span (nth_span m n i) x))
span_found m n x i some = (
  find_some (λ j. is_in_span (nth_span m n j) x) n i,
  λ h. find_one (λ j. is_in_span (nth_span m n j) x) n i h.0 h.1 (λ j _ holds. holder_is m n x j some holds ∙ sym (holder_is m n x i some h.1)),
)

-- the overlaps with the shares of n partition what they overlap with
pub meets_partition : (m n : ℕ) (whole : Span) → 1 ≤ n → whole.end ≤ m → ArePartition n (λ i. meet whole (nth_span m n i)) (λ x. IsTrue (is_in_span whole x))
meets_partition m n whole some end = record {
  once = λ x holds.
      let b = bounds whole x holds in
      let within : x < m = omega arith in
      record {
        one = holder m n x;
        within = holder_within m n x some within;
        holds = (in_meet whole (nth_span m n (holder m n x)) x).1 (holds, holder_holds m n x some (omega arith));
        only = λ i _ h. holder_is m n x i some ((in_meet whole (nth_span m n i) x).0 h).1;
      };
  inside = λ i within x h. ((in_meet whole (nth_span m n i) x).0 h).0;
}

-- a nth_span ends in the mesh
pub span_end : (m n i : ℕ) → 1 ≤ n → i < n → (nth_span m n i).end ≤ m
span_end m n i some within =
    let most : (i + 1) * m ≤ n * m = mul-le-mul_right m (omega arith) in
    div-le_of_le-mul n {m = (i + 1) * m} {n = m} most

pub span_ordered : (m n i : ℕ) → 1 ≤ n → (nth_span m n i).first ≤ (nth_span m n i).end
span_ordered m n i some =
    let low : i * m / n * n ≤ i * m = div-mul-le_self (i * m) n in
    le-div (i * m / n) ((i + 1) * m) n (omega arith) (omega arith)

abbrev span_of : ℕ → ℕ → Span
span_of first end = record { first = first; end = end }

-- the one nth_span of all
pub span_of_one : (m : ℕ) → nth_span m 1 0 ≡ record { first = 0; end = m }
span_of_one m =
    let low : 0 * m / 1 ≡ 0 = omega arith in
    let high : (0 + 1) * m / 1 ≡ m = omega arith in
    ap (λ first. span_of first ((0 + 1) * m / 1)) low ∙ ap (λ end. span_of 0 end) high

-- a span lies in the mesh, so it is what it shares with the mesh
pub meet_mesh : (m : ℕ) (span : Span) → span.first ≤ span.end → span.end ≤ m → meet span (record { first = 0; end = m }) ≡ span
meet_mesh m span ordered end =
    let low : max span.first 0 ≡ span.first = omega arith in
    let high : max (max span.first 0) (min span.end m) ≡ span.end = omega arith in
    ap (λ first. span_of first (max (max span.first 0) (min span.end m))) low ∙ ap (λ last. span_of span.first last) high

-- the holder is found
pub holder_found : (m n x : ℕ) → 1 ≤ n → x < m → find (λ i. is_in_span (nth_span m n i) x) (below n) ≡ Some (holder m n x)
holder_found m n x some within =
    (span_found m n x (holder m n x) some).1 (holder_within m n x some within, holder_holds m n x some (omega arith))
