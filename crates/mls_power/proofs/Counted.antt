-- The numbers of samples above thresholds when a sample is added.
use Rattle.std.proofs.Common.{◌≡◌, ℕ, zero, suc, ◌+◌, ◌<◌, List, [], ◌∷◌, ◌++◌, length, map, get_or, set, inl, inr, Bool, false, cond, ◌&&◌, pos, ap, ◌∙◌, refl, sym, subst, arith}
use Rattle.std.specs.Prelude.{int_lt, nat_lt, IsTrue}
use Rattle.std.specs.List.{count_by}
use Rattle.std.proofs.lemmas.List.Sums.{sum_by-cons, sum_by_push}
use Rattle.std.proofs.lemmas.Bool.{cases_lt}
use Rattle.std.proofs.lemmas.Bool.Decides.{nat_tests}
use Rattle.std.proofs.lemmas.List.{get_or-set_other}
use Rattle.std.proofs.lemmas.Grind.{get_or-set_at}
use Rattle.mls_model.specs.Samples.{unshifted}
use Rattle.mls_model.specs.Statistics.{above}
use Rattle.mls_model.specs.Studies.{rises}
use Rattle.mls_power.specs.NumbersAbove.{HoldsAbove}
use Rattle.mls_power.specs.Rules.{AreNumbersAbove}
use Rattle.mls_power.proofs.Least.{order_kept}

-- values above a threshold are counted as the numbers that they are shifted to
pub above-map : (signed : Bool) (t : ℕ) (ws : List ℕ) → above (unshifted signed t) (map (unshifted signed) ws) ≡ count_by (nat_lt t) ws
above-map signed t [] = refl
above-map signed t (w ∷ ws) =
    sum_by-cons (λ v. cond (int_lt (unshifted signed t) v) 1 0) (unshifted signed w) (map (unshifted signed) ws)
    ∙ (ap (λ (b : Bool). cond b 1 0 + above (unshifted signed t) (map (unshifted signed) ws)) (order_kept signed t w)
    ∙ (ap (λ (n : ℕ). cond (nat_lt t w) 1 0 + n) (above-map signed t ws)
    ∙ sym (sum_by-cons (λ v. cond (nat_lt t v) 1 0) w ws)))

pub above-push : (t : ℕ) (ws : List ℕ) (x : ℕ) → above (pos t) (map pos (ws ++ x ∷ [])) ≡ above (pos t) (map pos ws) + cond (nat_lt t x) 1 0
above-push t ws x = above-map false t (ws ++ x ∷ []) ∙ (sum_by_push (λ v. cond (nat_lt t v) 1 0) ws x ∙ ap (λ (n : ℕ). n + cond (nat_lt t x) 1 0) (sym (above-map false t ws)))

-- what a sample adds to the number at a place, when the places below `end` are done
abbrev pub more : ℕ → List ℕ → ℕ → ℕ → ℕ
more end thresholds x k = cond (nat_lt k end && nat_lt (get_or thresholds k 0) x) 1 0

pub rising : (ts : List ℕ) (i : ℕ) → IsTrue (rises ts) → i + 1 < length ts → get_or ts i 0 < get_or ts (i + 1) 0
rising [] i r h = absurd (omega arith)
rising (x ∷ []) i r h = absurd (omega arith)
rising (x ∷ y ∷ ys) zero r h = grind (arith, nat_tests)
rising (x ∷ y ∷ ys) (suc i) r h =
    let place : suc (i + 1) ≡ suc i + 1 = omega arith in
    subst (λ (k : ℕ). get_or (y ∷ ys) i 0 < get_or (x ∷ y ∷ ys) k 0) place (rising (y ∷ ys) i (grind (arith, nat_tests)) (omega arith))

-- Each place has what the sample adds.
pub record AddsMore (thresholds : List ℕ) (x : ℕ) (old new : List ℕ) : Type 0 where
  pub rises : IsTrue (rises thresholds)
  pub each : (k : ℕ) → get_or new k 0 ≡ get_or old k 0 + more (length thresholds) thresholds x k

pub range_more : (thresholds : List ℕ) (x : ℕ) (old new : List ℕ) → AddsMore thresholds x old new → (n : ℕ) → AreNumbersAbove n old → AreNumbersAbove (n + 1) new
range_more thresholds x old new adds n range = record {
  few = λ i. grind (arith, nat_tests, adds.each i, range.few i);
  falling = λ i. (let r = rising thresholds i adds.rises in grind (arith, nat_tests, r, adds.each i, adds.each (i + 1), range.falling i));
}

pub holds_more : (thresholds : List ℕ) (x : ℕ) (old new : List ℕ) → AddsMore thresholds x old new → (ws : List ℕ) → HoldsAbove thresholds old ws → HoldsAbove thresholds new (ws ++ x ∷ [])
holds_more thresholds x old new adds ws holds = record {
  each = λ i h. grind (arith, nat_tests, adds.each i, holds.each i h, above-push (get_or thresholds i 0) ws x);
}

-- one place more is done
abbrev pub AreDone : ℕ → List ℕ → ℕ → List ℕ → List ℕ → Type 0
AreDone end thresholds x old new = (k : ℕ) → get_or new k 0 ≡ get_or old k 0 + more end thresholds x k

pub counted : (ts : List ℕ) (x i m : ℕ) (old now : List ℕ) → m ≡ cond (nat_lt (get_or ts i 0) x) 1 0 → i < length now → AreDone i ts x old now → AreDone (i + 1) ts x old (set now i (get_or now i 0 + m))
counted ts x i m old now is within done k = elim (cases_lt k i) [
  | inl h ↦ (let e = get_or-set_other now i k (get_or now i 0 + m) 0 (λ p. omega arith) in grind (arith, nat_tests, e, done k))
  | inr h ↦ elim (cases_lt i k) [
    | inl g ↦ (let e = get_or-set_other now i k (get_or now i 0 + m) 0 (λ p. omega arith) in grind (arith, nat_tests, e, done k))
    | inr g ↦ (let same : k ≡ i = omega arith in let e = get_or-set_at now i k (get_or now i 0 + m) 0 same within in grind (arith, nat_tests, same, e, is, done k))
  ]
]

-- what two samples add to the number at a place, when the places below `end` are done
abbrev pub more_by_pair : ℕ → List ℕ → ℕ → ℕ → ℕ → ℕ
more_by_pair end thresholds x y k = more end thresholds x k + more end thresholds y k

-- Each place has what the two samples add.
pub record AddsPair (thresholds : List ℕ) (x y : ℕ) (old new : List ℕ) : Type 0 where
  pub rises : IsTrue (rises thresholds)
  pub each : (k : ℕ) → get_or new k 0 ≡ get_or old k 0 + more_by_pair (length thresholds) thresholds x y k

pub range_by_pair : (thresholds : List ℕ) (x y : ℕ) (old new : List ℕ) → AddsPair thresholds x y old new → (n : ℕ) → AreNumbersAbove n old → AreNumbersAbove (n + 2) new
range_by_pair thresholds x y old new adds n range = record {
  few = λ i. grind (arith, nat_tests, adds.each i, range.few i);
  falling = λ i. (let r = rising thresholds i adds.rises in grind (arith, nat_tests, r, adds.each i, adds.each (i + 1), range.falling i));
}

pub holds_by_pair : (thresholds : List ℕ) (x y : ℕ) (old new : List ℕ) → AddsPair thresholds x y old new → (ws : List ℕ) → HoldsAbove thresholds old ws → HoldsAbove thresholds new ((ws ++ x ∷ []) ++ y ∷ [])
holds_by_pair thresholds x y old new adds ws holds = record {
  each = λ i h. grind (arith, nat_tests, adds.each i, holds.each i h, above-push (get_or thresholds i 0) ws x, above-push (get_or thresholds i 0) (ws ++ x ∷ []) y);
}

pub counted_pair : (ts : List ℕ) (x y i m : ℕ) (old now : List ℕ) → m ≡ cond (nat_lt (get_or ts i 0) x) 1 0 + cond (nat_lt (get_or ts i 0) y) 1 0 → i < length now → ((k : ℕ) → get_or now k 0 ≡ get_or old k 0 + more_by_pair i ts x y k) → (k : ℕ) → get_or (set now i (get_or now i 0 + m)) k 0 ≡ get_or old k 0 + more_by_pair (i + 1) ts x y k
counted_pair ts x y i m old now is within done k = elim (cases_lt k i) [
  | inl h ↦ (let e = get_or-set_other now i k (get_or now i 0 + m) 0 (λ p. omega arith) in grind (arith, nat_tests, e, done k))
  | inr h ↦ elim (cases_lt i k) [
    | inl g ↦ (let e = get_or-set_other now i k (get_or now i 0 + m) 0 (λ p. omega arith) in grind (arith, nat_tests, e, done k))
    | inr g ↦ (let same : k ≡ i = omega arith in let e = get_or-set_at now i k (get_or now i 0 + m) 0 same within in grind (arith, nat_tests, same, e, is, done k))
  ]
]
