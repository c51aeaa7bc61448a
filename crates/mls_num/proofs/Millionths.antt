-- The text of a number of millionths, byte by byte.
use Rattle.std.proofs.Common.{◌≡◌, ℕ, suc, ◌+◌, ◌/◌, ◌%◌, ◌<◌, ◌≤◌, true, false, List, [], ◌∷◌, ◌++◌, ℤ, pos, negsuc, ◌≤ℤ◌, take, drop, refl, arith}
use Rattle.std.specs.Prelude.{int_lt, unsigned_abs}
use Rattle.std.proofs.lemmas.Int.{ints}
use Rattle.std.specs.Str.{IsAscii}
use Rattle.std.proofs.lemmas.Fmt.{decimal_digit}
use Rattle.std.specs.Fmt.{decimal}
use Rattle.std.proofs.lemmas.Str.Ascii.{IsAscii-nil, IsAscii-cons}
use Rattle.mls_model.specs.ResultText.{millionths_words}

-- the whole part, a point and six digits
abbrev pub fraction : ℕ → List ℕ
fraction n = (48 + n / 1000000 % 10) ∷ 46 ∷ (48 + n % 1000000 / 100000 % 10) ∷ (48 + n % 1000000 / 10000 % 10) ∷ (48 + n % 1000000 / 1000 % 10) ∷ (48 + n % 1000000 / 100 % 10) ∷ (48 + n % 1000000 / 10 % 10) ∷ (48 + n % 1000000 % 10) ∷ []

whole : (n : ℕ) → n ≤ 2000000 → decimal (n / 1000000) ≡ (48 + n / 1000000 % 10) ∷ []
whole n h =
    let few : n / 1000000 < 10 = omega arith in
    let same : n / 1000000 % 10 ≡ n / 1000000 = omega arith in
    rw same (decimal_digit (n / 1000000) few)

pub words_positive : (n : ℕ) → n ≤ 2000000 → millionths_words (pos n) ≡ fraction n
unfolding millionths_words
words_positive n h = rw (whole n h) refl

pub words_negative : (n : ℕ) → suc n ≤ 2000000 → millionths_words (negsuc n) ≡ 45 ∷ fraction (suc n)
unfolding millionths_words
words_negative n h = rw (whole (suc n) h) refl

-- the text in the front of a buffer, with its sign and without
pub shown_negative : (m : ℤ) (text rest : List ℕ) → negsuc 1999999 ≤ℤ m → int_lt m (pos 0) ≡ true → text ≡ 45 ∷ fraction (unsigned_abs m) → take 9 (text ++ rest) ≡ millionths_words m
shown_negative (pos n) text rest low h e = absurd (omega (arith, ints))
shown_negative (negsuc n) text rest low h e = rw (e, words_negative n (omega (arith, ints))) refl

pub shown_positive : (m : ℤ) (text rest : List ℕ) → m ≤ℤ pos 2000000 → int_lt m (pos 0) ≡ false → text ≡ 45 ∷ fraction (unsigned_abs m) → take 8 (drop 1 (text ++ rest)) ≡ millionths_words m
shown_positive (pos n) text rest high h e = rw (e, words_positive n (omega (arith, ints))) refl
shown_positive (negsuc n) text rest high h e = absurd (omega (arith, ints))

digit_ascii : (n : ℕ) → 48 + n % 10 < 128
digit_ascii n = omega arith

abbrev AllSmall : List ℕ → Type 0
AllSmall [] = Unit {0}
AllSmall (b ∷ bs) = (b < 128) × AllSmall bs

ascii : (bs : List ℕ) → AllSmall bs → IsAscii bs
ascii [] h = IsAscii-nil
ascii (b ∷ bs) h = IsAscii-cons b bs h.0 (ascii bs h.1)

fraction_ascii : (n : ℕ) → IsAscii (fraction n)
fraction_ascii n =
    ascii (fraction n) (digit_ascii _, (omega arith, (digit_ascii _, (digit_ascii _, (digit_ascii _, (digit_ascii _, (digit_ascii _, (digit_ascii _, tt))))))))

pub words_ascii : (m : ℤ) → negsuc 1999999 ≤ℤ m → m ≤ℤ pos 2000000 → IsAscii (millionths_words m)
words_ascii (pos n) low high = rw (words_positive n (omega (arith, ints))) (fraction_ascii n)
words_ascii (negsuc n) low high = rw (words_negative n (omega (arith, ints))) (IsAscii-cons 45 (fraction (suc n)) (omega arith) (fraction_ascii (suc n)))
