-- A number is read from its bytes, and what is read is spelled by them.
use Rattle.std.proofs.Common.{◌≡◌, ℕ, zero, suc, ◌+◌, ◌*◌, ◌/◌, ◌^◌, Bool, subst, ◌<◌, ◌≤◌, true, false, cond, List, [], ◌∷◌, ◌++◌, length, take, drop, nat_lt, Ok, Err, refl, sym, ap, ◌∙◌, arith, length-append, length-take}
use Rattle.std.proofs.Math.Nat.{add-mul, mul-le-mul_right, mod-lt}
use Rattle.std.proofs.lemmas.List.{take-append-drop, get_or-drop, drop_at}
use Rattle.std.proofs.lemmas.Bool.Decides.{nat_tests}
use Rattle.std.specs.Int.{Width, byte_len, byte_at, bytes_high_first}
use Rattle.byteorder.specs.Endian.{big_from}
use Rattle.byteorder.specs.Numbers.{big_from-cons, big_number-reads_back, big_from-append, big_from-lt, length-bytes_high_first}
use Rattle.mls_ckpt.specs.Reading.{Cursor, Read, Refusal, AreBytes, spelled, front, behind, number_at, text}

-- two numbers with one rest each below the base have one digit
digit_not_less : (a b r s base : ℕ) → r < base → s < base → a * base + r ≡ b * base + s → b + 1 ≤ a → ⊥
digit_not_less a b r s base r_in s_in same less =
    let grown : (b + 1) * base ≤ a * base = mul-le-mul_right base less in
    let expand : (b + 1) * base ≡ b * base + 1 * base = add-mul b 1 base in
    omega arith

digit_same : (a b r s base : ℕ) → r < base → s < base → a * base + r ≡ b * base + s → a ≡ b
digit_same a b r s base r_in s_in same =
    let one : b + 1 ≤ a → ⊥ = digit_not_less a b r s base r_in s_in same in
    let other : a + 1 ≤ b → ⊥ = digit_not_less b a s r base s_in r_in (sym same) in
    omega arith

-- bytes below others are bytes
pub bytes_behind : (n : ℕ) (bytes : List ℕ) → AreBytes bytes → AreBytes (drop n bytes)
bytes_behind n bytes each i = rw (get_or-drop n bytes i 0) (each (n + i))

pub bytes_after : (front rest : List ℕ) → AreBytes (front ++ rest) → AreBytes rest
bytes_after front rest each = subst AreBytes (drop_at front rest (length front) refl) (bytes_behind (length front) (front ++ rest) each)

-- two lists of as many bytes with one number are one
numbers_differ : (n : ℕ) (xs ys : List ℕ) → length xs ≡ n → length ys ≡ n → AreBytes xs → AreBytes ys → big_from 0 n xs ≡ big_from 0 n ys → xs ≡ ys
numbers_differ zero [] [] lx ly bx by same = refl
numbers_differ zero (x ∷ xs) ys lx ly bx by same = absurd (omega arith)
numbers_differ zero [] (y ∷ ys) lx ly bx by same = absurd (omega arith)
numbers_differ (suc n) [] ys lx ly bx by same = absurd (omega arith)
numbers_differ (suc n) (x ∷ xs) [] lx ly bx by same = absurd (omega arith)
numbers_differ (suc n) (x ∷ xs) (y ∷ ys) lx ly bx by same =
    let bxs : AreBytes xs = λ i. bx (suc i) in
    let bys : AreBytes ys = λ i. by (suc i) in
    let moved_x = big_from-cons 0 n x xs in
    let moved_y = big_from-cons 0 n y ys in
    let low_x = big_from-lt 0 n xs bxs in
    let low_y = big_from-lt 0 n ys bys in
    let split : x * 256 ^ n + big_from 0 n xs ≡ y * 256 ^ n + big_from 0 n ys = ap (λ r. x * 256 ^ n + r) (sym moved_x) ∙ same ∙ ap (λ r. y * 256 ^ n + r) moved_y in
    let first : x ≡ y = digit_same x y (big_from 0 n xs) (big_from 0 n ys) (256 ^ n) low_x low_y split in
    let top : x * 256 ^ n ≡ y * 256 ^ n = ap (λ d. d * 256 ^ n) first in
    let low : big_from 0 n xs ≡ big_from 0 n ys = omega arith in
    let rest = numbers_differ n xs ys (omega arith) (omega arith) bxs bys low in
    λ i. first i ∷ rest i

byte_small : (k n : ℕ) → byte_at k n < 256
byte_small zero n = mod-lt n (omega arith)
byte_small (suc k) n = mod-lt (n / 256 ^ suc k) (omega arith)

bytes_small : (k n : ℕ) → AreBytes (bytes_high_first k n)
bytes_small zero n i = omega arith
bytes_small (suc k) n zero = byte_small k n
bytes_small (suc k) n (suc i) = bytes_small k n i

-- the bytes of the number that bytes begin with are these
front_spelled : (n : ℕ) (bytes : List ℕ) → n ≤ length bytes → AreBytes bytes → bytes_high_first n (big_from 0 n bytes) ++ drop n bytes ≡ bytes
front_spelled n bytes some each =
    let v = big_from 0 n bytes in
    let fits : v < 256 ^ n = big_from-lt 0 n bytes each in
    let size : length (take n bytes) ≡ n = omega (arith, length-take n bytes) in
    let bytes_in : AreBytes (take n bytes) = λ i. bytes_of_front n bytes each i in
    let back : big_from 0 n (bytes_high_first n v ++ []) ≡ v = big_number-reads_back n v [] fits in
    let back_in : big_from 0 n (bytes_high_first n v ++ []) ≡ big_from 0 n (bytes_high_first n v) = big_from-append n (bytes_high_first n v) [] (omega (arith, length-bytes_high_first n v)) in
    let here : big_from 0 n (take n bytes ++ drop n bytes) ≡ big_from 0 n (take n bytes) = big_from-append n (take n bytes) (drop n bytes) (omega arith) in
    let whole : take n bytes ++ drop n bytes ≡ bytes = take-append-drop n bytes in
    let same : big_from 0 n (bytes_high_first n v) ≡ big_from 0 n (take n bytes) = sym back_in ∙ back ∙ ap (big_from 0 n) (sym whole) ∙ here in
    let one = numbers_differ n (bytes_high_first n v) (take n bytes) (length-bytes_high_first n v) size (bytes_small n v) bytes_in same in
    ap (λ f. f ++ drop n bytes) one ∙ whole
  where
    bytes_of_front : (n : ℕ) (bytes : List ℕ) → AreBytes bytes → AreBytes (take n bytes)
    bytes_of_front zero bytes each i = omega arith
    bytes_of_front (suc n) [] each i = omega arith
    bytes_of_front (suc n) (b ∷ bytes) each zero = each 0
    bytes_of_front (suc n) (b ∷ bytes) each (suc i) = bytes_of_front n bytes (λ j. each (suc j)) i

-- what a read says: the value is valid, its text stands before the new place, and bytes are left there
pub record Taken (Valid : Type 0) (written : List ℕ → List ℕ) (old new : Cursor) : Type 0 where
  pub valid : Valid
  pub stands : old.left ≡ written new.left
  pub bytes : AreBytes new.left

-- a number that was read
pub record IsRead (w : Width) (most n : ℕ) : Type 0 where
  pub fits : n < 256 ^ byte_len w
  pub few : n ≤ most

pub number_again : (w : Width) (most n at : ℕ) (rest : List ℕ) → n < 256 ^ byte_len w → n ≤ most → number_at w most (record { at = at; left = text w n rest }) ≡ Ok (n, record { at = at + byte_len w; left = rest })
unfolding number_at front spelled
number_again w most n at rest fits few =
    let size = length-bytes_high_first (byte_len w) n in
    let whole : length (bytes_high_first (byte_len w) n ++ rest) ≡ length (bytes_high_first (byte_len w) n) + length rest = length-append (bytes_high_first (byte_len w) n) rest in
    let back : big_from 0 (byte_len w) (bytes_high_first (byte_len w) n ++ rest) ≡ n = big_number-reads_back (byte_len w) n rest fits in
    let left : drop (byte_len w) (bytes_high_first (byte_len w) n ++ rest) ≡ rest = drop_at (bytes_high_first (byte_len w) n) rest (byte_len w) size in
    let long : nat_lt (length (bytes_high_first (byte_len w) n ++ rest)) (byte_len w) ≡ false = grind (arith, nat_tests) in
    let within : nat_lt most n ≡ false = grind (arith, nat_tests) in
    rw (long, back, within, left) refl

-- how many bytes stand where a number is put before others
pub text_long : (w : Width) (n : ℕ) (rest : List ℕ) → length (text w n rest) ≡ byte_len w + length rest
unfolding spelled
text_long w n rest = length-append (spelled w n) rest ∙ ap (λ k. k + length rest) (length-bytes_high_first (byte_len w) n)

-- an answer that is no refusal is the other choice
pub chosen : {A : Type 0} (refuses : Bool) (refusal : Refusal) (other : Read A) (r : A) → cond refuses (Err refusal) other ≡ Ok r → (refuses ≡ false) × (other ≡ Ok r)
chosen true refusal other r e = absurd (let clash : ⊥ = cc in clash)
chosen false refusal other r e = (refl, e)

pub same_ok : {A : Type 0} (a b : A) → ◌≡◌ {A = Read A} (Ok a) (Ok b) → a ≡ b
same_ok a b e = cc

pub number_taken : (w : Width) (most : ℕ) (c : Cursor) (r : ℕ × Cursor) → AreBytes c.left → number_at w most c ≡ Ok r → Taken (IsRead w most r.0) (text w r.0) c r.1
unfolding number_at front spelled
number_taken w most c r each is =
    let outer = chosen (nat_lt (length c.left) (byte_len w)) _ _ r is in
    let inner = chosen (nat_lt most (big_from 0 (byte_len w) c.left)) _ _ r outer.1 in
    let enough : byte_len w ≤ length c.left = grind (arith, nat_tests, outer.0) in
    let within : big_from 0 (byte_len w) c.left ≤ most = grind (arith, nat_tests, inner.0) in
    subst (λ (p : ℕ × Cursor). Taken (IsRead w most p.0) (text w p.0) c p.1) (same_ok (big_from 0 (byte_len w) c.left, behind w c) r inner.1)
    (record { valid = record { fits = big_from-lt 0 (byte_len w) c.left each; few = within }; stands = sym (front_spelled (byte_len w) c.left enough each); bytes = bytes_behind (byte_len w) c.left each })
