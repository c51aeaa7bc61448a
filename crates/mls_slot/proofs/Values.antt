-- The disk's value where an area isn't whole, or is the newer one.
use Rattle.std.proofs.Common.{◌≡◌, ◌≢◌, inl, inr, ℕ, zero, suc, ◌<◌, ◌≤◌, Bool, true, false, List, length, None, Some, if◌then◌else◌, refl, sym, ◌∙◌, ap, subst, arith}
use Rattle.std.proofs.lemmas.Bool.{cases_eq}
use Rattle.std.proofs.lemmas.Bool.Decides.{nat_tests}
use Rattle.mls_slot.specs.Disks.{Areas}
use Rattle.mls_slot.specs.Slots.{head_length, gate, number, payload, payload_length, is_whole, next, value, value_of}
use Rattle.mls_slot.specs.Known.{alone, following, other, slot_of, IsTarget}
use Rattle.mls_slot.specs.declared.heads.Slot.{Slot}

-- an area whose gate isn't 1 isn't whole
pub shut_not_whole : (bytes : List ℕ) → gate bytes ≢ 1 → is_whole bytes ≡ false
shut_not_whole bytes shut = grind (arith, nat_tests)

-- nor is one of less than ten bytes
pub short_not_whole : (bytes : List ℕ) → length bytes < head_length → is_whole bytes ≡ false
short_not_whole bytes short = grind (arith, nat_tests)

pub whole_number : (bytes : List ℕ) → is_whole bytes ≡ true → number bytes ≤ 2
whole_number bytes whole = grind (arith, nat_tests)

two_after : (n : ℕ) → n ≤ 2 → n ≢ next (next n)
two_after n le = omega arith

without_first : (v w : Bool) (x y : List ℕ) → v ≡ false → value_of v x w y ≡ (if w then Some (payload y) else None)
without_first true w x y e = cc
without_first false true x y e = refl
without_first false false x y e = refl

without_second : (v w : Bool) (x y : List ℕ) → w ≡ false → value_of v x w y ≡ (if v then Some (payload x) else None)
without_second v true x y e = cc
without_second true false x y e = refl
without_second false false x y e = refl

-- where one area isn't whole, the value is that of the other
pub value_without : (image : Areas) (area : ℕ) → area < 2 → is_whole (image area) ≡ false → value image ≡ alone (image (other area))
value_without image zero below e = without_first _ _ (image 0) (image 1) e
value_without image (suc zero) below e = without_second _ _ (image 0) (image 1) e
value_without image (suc (suc n)) below e = absurd (omega arith)

newer_first : (v w : Bool) (x y : List ℕ) → v ≡ true → number x ≡ (if w then next (number y) else 0) → value_of v x w y ≡ Some (payload x)
newer_first false w x y e n = cc
newer_first true false x y e n = refl
newer_first true true x y e n = grind (arith, nat_tests)

newer_second : (v w : Bool) (x y : List ℕ) → w ≡ true → (v ≡ true → number x ≤ 2) → number y ≡ (if v then next (number x) else 0) → value_of v x w y ≡ Some (payload y)
newer_second v false x y e small n = cc
newer_second false true x y e small n = refl
newer_second true true x y e small n =
    let apart : number x ≢ next (number y) = λ same. two_after (number x) (small refl) (same ∙ ap next n) in
    grind (arith, nat_tests)

-- a whole area whose number follows the other's gives the value
pub value_with : (image : Areas) (area : ℕ) → area < 2 → is_whole (image area) ≡ true → number (image area) ≡ following (image (other area)) → value image ≡ Some (payload (image area))
value_with image zero below e n = newer_first _ _ (image 0) (image 1) e n
value_with image (suc zero) below e n = newer_second _ _ (image 0) (image 1) e (whole_number (image 0)) n
value_with image (suc (suc k)) below e n = absurd (omega arith)

-- the same bytes have the same value
pub value_same : (image areas : Areas) → image 0 ≡ areas 0 → image 1 ≡ areas 1 → value image ≡ value areas
value_same image areas zeros ones =
    ap (λ (x : List ℕ). value_of (is_whole x) x (is_whole (image 1)) (image 1)) zeros
    ∙ ap (λ (y : List ℕ). value_of (is_whole (areas 0)) (areas 0) (is_whole y) y) ones

neither_newer : (v w : Bool) (x y : List ℕ) → v ≡ true → w ≡ true → number x ≢ next (number y) → number y ≢ next (number x) → value_of v x w y ≡ Some (payload x)
neither_newer false w x y e f n m = cc
neither_newer true false x y e f n m = refl
neither_newer true true x y e f n m = grind (arith, nat_tests)

-- what the head of a whole slot tells
pub record HasSlot (bytes : List ℕ) (slot : Slot) : Type 0 where
  pub whole : is_whole bytes ≡ true
  pub number : slot.number ≡ number bytes
  pub length : slot.length ≡ payload_length bytes

some_slot : (v : Bool) (s t : Slot) → (if v then Some s else None) ≡ Some t → (v ≡ true) × (t ≡ s)
some_slot true s t e = (refl, cc)
some_slot false s t e = cc

pub has_slot : (bytes : List ℕ) (slot : Slot) → slot_of bytes ≡ Some slot → HasSlot bytes slot
has_slot bytes slot e =
    let parts = some_slot (is_whole bytes) _ slot e in
    record { whole = parts.0; number = ap (λ (s : Slot). s.number) parts.1; length = ap (λ (s : Slot). s.length) parts.1 }

alone_whole : (bytes : List ℕ) → is_whole bytes ≡ true → alone bytes ≡ Some (payload bytes)
alone_whole bytes e = ap (λ (v : Bool). if v then Some (payload bytes) else None) e

following_whole : (bytes : List ℕ) → is_whole bytes ≡ true → following bytes ≡ next (number bytes)
following_whole bytes e = ap (λ (v : Bool). if v then next (number bytes) else 0) e

module _ (areas : Areas) (first second : Slot) (a : HasSlot (areas 0) first) (b : HasSlot (areas 1) second) where
  keeps_zero : value areas ≡ Some (payload (areas 0)) → IsTarget areas 1 (next first.number)
  keeps_zero is = record { below = omega arith; kept = is ∙ sym (alone_whole (areas 0) a.whole); number = ap next a.number ∙ sym (following_whole (areas 0) a.whole) }

  keeps_one : value areas ≡ Some (payload (areas 1)) → IsTarget areas 0 (next second.number)
  keeps_one is = record { below = omega arith; kept = is ∙ sym (alone_whole (areas 1) b.whole); number = ap next b.number ∙ sym (following_whole (areas 1) b.whole) }

  -- the target of two whole areas
  pub target_of_two : (p : ℕ × ℕ) → (first.number ≡ next second.number → p ≡ (1, next first.number)) → (second.number ≡ next first.number → p ≡ (0, next second.number)) → (first.number ≢ next second.number → second.number ≢ next first.number → p ≡ (1, next first.number)) → IsTarget areas p.0 p.1
  target_of_two p newer older same = elim (cases_eq first.number (next second.number)) [
    | inl e ↦ subst (λ (q : ℕ × ℕ). IsTarget areas q.0 q.1) (sym (newer e)) (keeps_zero (value_with areas 0 (omega arith) a.whole (sym a.number ∙ e ∙ ap next b.number ∙ sym (following_whole (areas 1) b.whole))))
    | inr n ↦ elim (cases_eq second.number (next first.number)) [
      | inl e ↦ subst (λ (q : ℕ × ℕ). IsTarget areas q.0 q.1) (sym (older e)) (keeps_one (value_with areas 1 (omega arith) b.whole (sym b.number ∙ e ∙ ap next a.number ∙ sym (following_whole (areas 0) a.whole))))
      | inr m ↦ subst (λ (q : ℕ × ℕ). IsTarget areas q.0 q.1) (sym (same n m)) (keeps_zero (neither_newer (is_whole (areas 0)) (is_whole (areas 1)) (areas 0) (areas 1) a.whole b.whole (λ e. n (a.number ∙ e ∙ ap next (sym b.number))) (λ e. m (b.number ∙ e ∙ ap next (sym a.number)))))
    ]
  ]
