-- Numbers that stand at a place of a list of bytes.
use Rattle.std.proofs.Common.{◌≡◌, ℕ, zero, suc, ◌+◌, ◌^◌, ◌<◌, ◌≤◌, List, [], ◌∷◌, ◌++◌, length, get_or, take, drop, refl, sym, ap, ◌∙◌, arith, inl, inr, add-zero, zero-add}
use Rattle.std.specs.Int.{Width, w16, w32, byte_len, from_be_bytes, to_be_bytes}
use Rattle.std.proofs.lemmas.Bool.{cases_lt}
use Rattle.std.proofs.lemmas.List.{take-append-le, drop-append-le, length-take, length-drop, get_or-drop, get_or-take, get_or_past, drop-drop}
use Rattle.std.proofs.lemmas.Nat.{be_bytes_2, be_bytes_4}
use Rattle.mls_model.specs.Frames.{number}
use Rattle.mls_frame.specs.Views.{AreBytes}
use Rattle.std.proofs.Math.Nat.{suc-add}
use Rattle.std.proofs.Math.Seq.{take-nil}

pub AreBytes-drop : (n : ℕ) (bytes : List ℕ) → AreBytes bytes → AreBytes (drop n bytes)
AreBytes-drop n bytes h i = rw get_or-drop (h (n + i))

pub AreBytes-take : (n : ℕ) (bytes : List ℕ) → AreBytes bytes → AreBytes (take n bytes)
AreBytes-take n bytes h i =
    elim (cases_lt i n) [
      | inl lt ↦ rw (get_or-take n bytes i 0 lt) (h i)
      | inr le ↦ rw (get_or_past (take n bytes) i 0 (omega (arith, length-take n bytes))) (omega arith)
    ]

pub at_taken : (n place i : ℕ) (bytes : List ℕ) → i < n → get_or (take n (drop place bytes)) i 0 ≡ get_or bytes (place + i) 0
at_taken n place i bytes lt = get_or-take n (drop place bytes) i 0 lt ∙ get_or-drop place bytes i 0

at_taken_first : (n place : ℕ) (bytes : List ℕ) → 0 < n → get_or (take n (drop place bytes)) 0 0 ≡ get_or bytes place 0
at_taken_first n place bytes lt = at_taken n place 0 bytes lt ∙ ap (λ (k : ℕ). get_or bytes k 0) (add-zero place)

-- what the code reads
pub number_16-is : (place : ℕ) (bytes : List ℕ) → number w16 place bytes ≡ from_be_bytes w16 (get_or bytes place 0 ∷ get_or bytes (place + 1) 0 ∷ [])
number_16-is place bytes =
    let a = at_taken_first 2 place bytes (omega arith) in
    let b = at_taken 2 place 1 bytes (omega arith) in
    omega (arith, a, b)

pub number_32-is : (place : ℕ) (bytes : List ℕ) → number w32 place bytes ≡ from_be_bytes w32 (get_or bytes place 0 ∷ get_or bytes (place + 1) 0 ∷ get_or bytes (place + 2) 0 ∷ get_or bytes (place + 3) 0 ∷ [])
number_32-is place bytes =
    let a = at_taken_first 4 place bytes (omega arith) in
    let b = at_taken 4 place 1 bytes (omega arith) in
    let c = at_taken 4 place 2 bytes (omega arith) in
    let d = at_taken 4 place 3 bytes (omega arith) in
    omega (arith, a, b, c, d)

pub number_16-below : (place : ℕ) (bytes : List ℕ) → AreBytes bytes → number w16 place bytes < 2 ^ 16
number_16-below place bytes h =
    let f = AreBytes-take 2 (drop place bytes) (AreBytes-drop place bytes h) in
    omega (arith, f 0, f 1)

pub number_32-below : (place : ℕ) (bytes : List ℕ) → AreBytes bytes → number w32 place bytes < 2 ^ 32
number_32-below place bytes h =
    let f = AreBytes-take 4 (drop place bytes) (AreBytes-drop place bytes h) in
    omega (arith, f 0, f 1, f 2, f 3)

-- a text stands at a place, with this size
pub record Stands (bytes : List ℕ) (place size : ℕ) (text : List ℕ) : Type 0 where
  pub is : text ≡ take size (drop place bytes)

pub take-add : (a b : ℕ) (xs : List ℕ) → take a xs ++ take b (drop a xs) ≡ take (a + b) xs
take-add zero b xs = rw zero-add refl
take-add (suc a) b [] = take-nil {A = ℕ} b ∙ sym (take-nil {A = ℕ} (suc a + b))
take-add (suc a) b (x ∷ xs) = rw suc-add (ap (λ (t : List ℕ). x ∷ t) (take-add a b xs))

pub both_stand : (bytes : List ℕ) (p a b : ℕ) (x y : List ℕ) → Stands bytes p a x → Stands bytes (p + a) b y → Stands bytes p (a + b) (x ++ y)
both_stand bytes p a b x y s t = record { is = rw (s.is, t.is, ← drop-drop a p bytes) (take-add a b (drop p bytes)) }

pub number_16_stands : (place : ℕ) (bytes : List ℕ) → place + 2 ≤ length bytes → AreBytes bytes → Stands bytes place 2 (to_be_bytes w16 (number w16 place bytes))
number_16_stands place bytes fits h =
    record { is = be_bytes_2 (take 2 (drop place bytes)) _ (omega (arith, length-take 2 (drop place bytes), length-drop place bytes)) (AreBytes-take 2 (drop place bytes) (AreBytes-drop place bytes h)) refl }

pub number_32_stands : (place : ℕ) (bytes : List ℕ) → place + 4 ≤ length bytes → AreBytes bytes → Stands bytes place 4 (to_be_bytes w32 (number w32 place bytes))
number_32_stands place bytes fits h =
    record { is = be_bytes_4 (take 4 (drop place bytes)) _ (omega (arith, length-take 4 (drop place bytes), length-drop place bytes)) (AreBytes-take 4 (drop place bytes) (AreBytes-drop place bytes h)) refl }

-- more bytes change no number
pub number-append : (w : Width) (place : ℕ) (bytes extra : List ℕ) → place + byte_len w ≤ length bytes → number w place (bytes ++ extra) ≡ number w place bytes
number-append w place bytes extra fits =
    let room : place ≤ length bytes = omega arith in
    let enough : byte_len w ≤ length (drop place bytes) = omega (arith, length-drop place bytes) in
    ap (λ (t : List ℕ). from_be_bytes w t) (ap (λ (t : List ℕ). take (byte_len w) t) (drop-append-le place bytes extra room) ∙ take-append-le (byte_len w) (drop place bytes) extra enough)
