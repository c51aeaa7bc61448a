-- What a crash in the steps of a put makes of the disk's value.
use Rattle.std.proofs.Common.{◌≡◌, ◌≢◌, ◌⊎◌, inl, inr, ℕ, zero, suc, ◌+◌, ◌<◌, ◌≤◌, Bool, true, false, List, [], ◌∷◌, ◌++◌, length, take, drop, None, Some, if◌then◌else◌, refl, sym, ◌∙◌, ap, subst, arith, append_assoc, length-append}
use Rattle.std.specs.Int.{w64, from_be_bytes}
use Rattle.std.proofs.lemmas.Bool.{cases_eq, cases_Bool}
use Rattle.std.proofs.lemmas.Bool.Decides.{nat_tests}
use Rattle.std.proofs.lemmas.List.{take_at, drop_at}
use Rattle.mls_slot.specs.Disks.{Areas, Torn, over}
use Rattle.mls_slot.specs.Slots.{head_length, gate, number, payload, payload_length, is_whole, next, value}
use Rattle.mls_slot.specs.Known.{alone, following, other, is_shut, slot_of, IsHead, IsTarget}
use Rattle.mls_slot.specs.Runs.{Changed, SameBut}
use Rattle.mls_slot.proofs.Values.{shut_not_whole, short_not_whole, value_without, value_with, value_same}

value_same_at : (image areas : Areas) (area : ℕ) → area < 2 → image area ≡ areas area → image (other area) ≡ areas (other area) → value image ≡ value areas
value_same_at image areas zero below here there = value_same image areas here there
value_same_at image areas (suc zero) below here there = value_same image areas there here
value_same_at image areas (suc (suc n)) below here there = absurd (omega arith)

-- where the target isn't whole, the value stays
without : (areas image : Areas) (area n : ℕ) → IsTarget areas area n → is_whole (image area) ≡ false → image (other area) ≡ areas (other area) → value image ≡ value areas
without areas image area n target e there = value_without image area target.below e ∙ ap alone there ∙ sym target.kept

beside : (areas image : Areas) (area n : ℕ) → IsTarget areas area n → SameBut area areas image → image (other area) ≡ areas (other area)
beside areas image area n target same = let below : area < 2 = target.below in same (other area) (omega arith) (omega arith)

-- an area that isn't shut, with another gate torn over its own: where it has gate 1 it is as before, or too short
open_same : (old c : List ℕ) → is_shut old ≡ false → gate c ≡ 1 → Torn 0 1 old c → (c ≡ old) ⊎ (length c < head_length)
open_same [] c free is torn = inr (omega (arith, torn.no_longer))
open_same (h ∷ s) [] free is torn = absurd (omega (arith, is))
open_same (h ∷ s) (g ∷ r) free is torn =
    let opened : h ≡ 1 = grind (arith, nat_tests) in
    let rest : r ≡ s = torn.after in
    let first : g ≡ 1 = is in
    inl (cc)

-- while the gate of the target is shut
pub shutting_keeps : (areas image : Areas) (area n : ℕ) → IsTarget areas area n → is_shut (areas area) ≡ false → Changed area (Torn 0 1 (areas area)) areas image → value image ≡ value areas
shutting_keeps areas image area n target free changed =
    let there = beside areas image area n target changed.elsewhere in
    elim (cases_eq (gate (image area)) 1) [
      | inl is ↦ elim (open_same (areas area) (image area) free is changed.there) [
        | inl same ↦ value_same_at image areas area target.below same there
        | inr short ↦ without areas image area n target (short_not_whole (image area) short) there
      ]
      | inr shut ↦ without areas image area n target (shut_not_whole (image area) shut) there
    ]

same_gate : (c m : List ℕ) → 1 ≤ length m → take 1 c ≡ take 1 m → gate c ≡ gate m
same_gate c [] long same = absurd (omega arith)
same_gate [] (h ∷ s) long same = cc
same_gate (g ∷ r) (h ∷ s) long same = cc

-- while number, length and payload are written
pub filling_keeps : (areas mid image : Areas) (area n : ℕ) → IsTarget areas area n → 1 ≤ length (mid area) → gate (mid area) ≢ 1 → SameBut area areas mid → Changed area (λ c. take 1 c ≡ take 1 (mid area)) mid image → value image ≡ value areas
filling_keeps areas mid image area n target long shut same changed =
    without areas image area n target
    (shut_not_whole (image area) (λ is. shut (sym (same_gate (image area) (mid area) long changed.there) ∙ is)))
    (beside mid image area n (record { below = target.below; kept = value_mid; number = number_mid }) changed.elsewhere ∙ beside areas mid area n target same)
  where
    there : mid (other area) ≡ areas (other area)
    there = beside areas mid area n target same

    value_mid : value mid ≡ alone (mid (other area))
    value_mid = value_without mid area target.below (shut_not_whole (mid area) shut)

    number_mid : n ≡ following (mid (other area))
    number_mid = target.number ∙ ap following (sym there)

-- an area behind its gate: number, length as b, payload, and what stands behind
abbrev pub spelled : ℕ → List ℕ → List ℕ → List ℕ → List ℕ
spelled n b p tail = n ∷ (b ++ (p ++ tail))

pub filled : (m : List ℕ) (n : ℕ) (b p : List ℕ) → length b ≡ 8 → 1 ≤ length m → over (over m 1 (n ∷ b)) head_length p ≡ gate m ∷ spelled n b p (drop (head_length + length p) (over m 1 (n ∷ b)))
filled [] n b p eight long = absurd (omega arith)
filled (h ∷ s) n b p eight long =
    let behind : List ℕ = drop (1 + length (n ∷ b)) (h ∷ s) in
    let size : length (h ∷ n ∷ b) ≡ head_length = omega arith in
    let front : take head_length (over (h ∷ s) 1 (n ∷ b)) ≡ h ∷ n ∷ b = take_at (h ∷ n ∷ b) behind head_length size in
    ap (λ (l : List ℕ). l ++ p ++ drop (head_length + length p) (over (h ∷ s) 1 (n ∷ b))) front
    ∙ append_assoc (h ∷ n ∷ b) p (drop (head_length + length p) (over (h ∷ s) 1 (n ∷ b)))

-- with another gate torn over its own
torn_gate : (h : ℕ) (x c : List ℕ) → Torn 0 1 (h ∷ x) c → c ≡ gate c ∷ x
torn_gate h x [] torn = absurd (omega (arith, torn.no_shorter))
torn_gate h x (g ∷ r) torn = ap (λ (l : List ℕ). g ∷ l) torn.after

module _ (n : ℕ) (b p tail : List ℕ) (eight : length b ≡ 8) (codes : from_be_bytes w64 b ≡ length p) where
  pub spelled_length : (g : ℕ) → payload_length (g ∷ spelled n b p tail) ≡ length p
  spelled_length g = ap (λ (l : List ℕ). from_be_bytes w64 l) (take_at b (p ++ tail) 8 eight) ∙ codes

  pub spelled_payload : (g : ℕ) → payload (g ∷ spelled n b p tail) ≡ p
  spelled_payload g =
      ap (λ (k : ℕ). take k (drop head_length (g ∷ spelled n b p tail))) (spelled_length g)
      ∙ ap (λ (l : List ℕ). take (length p) l) (drop_at b (p ++ tail) 8 eight)
      ∙ take_at p tail (length p) refl

  pub spelled_whole : n ≤ 2 → is_whole (1 ∷ spelled n b p tail) ≡ true
  spelled_whole small =
      let size : length (1 ∷ spelled n b p tail) ≡ head_length + length p + length tail = omega (arith, length-append b (p ++ tail), length-append p tail) in
      let long : head_length + payload_length (1 ∷ spelled n b p tail) ≤ length (1 ∷ spelled n b p tail) = omega (arith, spelled_length 1) in
      whole_by (1 ∷ spelled n b p tail) refl small long
    where
      whole_by : (bytes : List ℕ) → gate bytes ≡ 1 → number bytes ≤ 2 → head_length + payload_length bytes ≤ length bytes → is_whole bytes ≡ true
      whole_by bytes is small long = grind (arith, nat_tests)

pub following_small : (bytes : List ℕ) → following bytes ≤ 2
following_small bytes = elim (cases_Bool (is_whole bytes)) [
  | inl t ↦ let is : following bytes ≡ next (number bytes) = ap (λ (v : Bool). if v then next (number bytes) else 0) t in omega (arith, is)
  | inr f ↦ let is : following bytes ≡ 0 = ap (λ (v : Bool). if v then next (number bytes) else 0) f in omega (arith, is)
]

module _ (areas : Areas) (area n : ℕ) (target : IsTarget areas area n) (b p tail : List ℕ) (eight : length b ≡ 8) (codes : from_be_bytes w64 b ≡ length p) where
  -- an open gate before what was written
  pub opened_value : (image : Areas) → image area ≡ 1 ∷ spelled n b p tail → image (other area) ≡ areas (other area) → value image ≡ Some p
  opened_value image is there =
      let small : n ≤ 2 = omega (arith, target.number, following_small (areas (other area))) in
      value_with image area target.below (ap is_whole is ∙ spelled_whole n b p tail eight codes small) (ap number is ∙ target.number ∙ ap following (sym there))
      ∙ ap (λ (l : List ℕ). Some (payload l)) is ∙ ap (λ (l : List ℕ). Some l) (spelled_payload n b p tail eight codes 1)

  -- while the gate is opened
  pub opening_gives : (mid image : Areas) (h : ℕ) → mid area ≡ h ∷ spelled n b p tail → SameBut area areas mid → Changed area (Torn 0 1 (mid area)) mid image → (value image ≡ value areas) ⊎ (value image ≡ Some p)
  opening_gives mid image h is same changed =
      let below : area < 2 = target.below in
      let there : image (other area) ≡ areas (other area) = changed.elsewhere (other area) (omega arith) (omega arith) ∙ beside areas mid area n target same in
      let torn : Torn 0 1 (h ∷ spelled n b p tail) (image area) = subst (λ (l : List ℕ). Torn 0 1 l (image area)) is changed.there in
      let shape = torn_gate h (spelled n b p tail) (image area) torn in
      elim (cases_eq (gate (image area)) 1) [
        | inl one ↦ inr (opened_value image (shape ∙ ap (λ (g : ℕ). g ∷ spelled n b p tail) one) there)
        | inr shut ↦ inl (without areas image area n target (shut_not_whole (image area) shut) there)
      ]

  -- the head that is then known
  pub opened_head : (bytes : List ℕ) → bytes ≡ 1 ∷ spelled n b p tail → IsHead bytes (record { shut = false; slot = Some (record { number = n; length = length p }) })
  opened_head bytes is =
      let small : n ≤ 2 = omega (arith, target.number, following_small (areas (other area))) in
      record {
        shut = sym (ap is_shut is ∙ open_not_shut (spelled n b p tail));
        slot = sym (ap slot_of is ∙ ap (λ (v : Bool). if v then Some (record { number = n; length = payload_length (1 ∷ spelled n b p tail) }) else None) (spelled_whole n b p tail eight codes small) ∙ ap (λ (k : ℕ). Some (record { number = n; length = k })) (spelled_length n b p tail eight codes 1));
      }
    where
      open_not_shut : (x : List ℕ) → is_shut (1 ∷ x) ≡ false
      open_not_shut x = grind (arith, nat_tests)
