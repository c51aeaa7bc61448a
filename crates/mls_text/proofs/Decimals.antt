-- A number is read from its decimal, and from no other bytes.
use Rattle.std.proofs.Common.{◌≡◌, ℕ, ◌^◌, ◌<◌, ◌≤◌, Bool, true, false, List, [], ◌∷◌, refl, sym, ap, ◌∙◌, subst, inl, inr, arith, Some, None, Result, Ok, Err}
use Rattle.std.specs.Prelude.{cond, ◌&&◌, ◌==◌, nat_lt, decimal}
use Rattle.std.specs.Str.{all_ascii_digits, bytes_eq, IsUtf8}
use Rattle.std.specs.Str.Parse.{digits_value, ParsesUnsigned}
use Rattle.std.proofs.lemmas.Bool.{cases_Bool}
use Rattle.std.proofs.lemmas.Bool.Decides.{nat_tests}
use Rattle.std.proofs.lemmas.Str.Parse.{IsNumeralModel, numerals_by_value, tells_all_ascii_digits}
use Rattle.std.proofs.lemmas.Fmt.{digits_value-decimal, IsAscii-decimal, parse-decimal}
use Rattle.std.proofs.lemmas.Str.{IsUtf8-from_ascii}
use Rattle.std.proofs.lemmas.Slice.Eq.{bytes_eq-Decides}
use Rattle.mls_model.specs.Numbers.{same_bytes}
use Rattle.mls_text.specs.Decimals.{number_below}

pub eq_same : (n : ℕ) → (n == n) ≡ true
eq_same n = grind (arith, nat_tests)

pub eq_true : (m n : ℕ) → (m == n) ≡ true → m ≡ n
eq_true m n h = grind (arith, nat_tests)

lt_true : (m n : ℕ) → nat_lt m n ≡ true → m < n
lt_true m n h = grind (arith, nat_tests)

lt_yes : (m n : ℕ) → m < n → nat_lt m n ≡ true
lt_yes m n h = grind (arith, nat_tests)

same_self : (xs : List ℕ) → same_bytes xs xs ≡ true
same_self [] = refl
same_self (x ∷ xs) = ap (λ b. b && same_bytes xs xs) (eq_same x) ∙ same_self xs

pub both_true : (a b : Bool) → (a && b) ≡ true → (a ≡ true) × (b ≡ true)
both_true true b t = (refl, t)
both_true false b t = cc

same_true : (xs ys : List ℕ) → same_bytes xs ys ≡ true → xs ≡ ys
same_true [] [] t = refl
same_true [] (y ∷ ys) t = cc
same_true (x ∷ xs) [] t = cc
same_true (x ∷ xs) (y ∷ ys) t =
    let both = both_true (x == y) (same_bytes xs ys) t in
    ap (λ z. z ∷ xs) (eq_true x y both.0) ∙ ap (λ l. y ∷ l) (same_true xs ys both.1)

pub own : IsNumeralModel (λ ds. all_ascii_digits ds ≡ true) (digits_value 10)
own = numerals_by_value (λ ds. all_ascii_digits ds ≡ true) tells_all_ascii_digits

-- a number's decimal is read
pub number_is : (bound : ℕ) (digits : List ℕ) (n : ℕ) → bound ≤ 2 ^ 64 → n < bound → digits ≡ decimal n → number_below bound digits ≡ Some n
unfolding number_below
number_is bound digits n most small e =
    let value : digits_value 10 digits ≡ n = ap (digits_value 10) e ∙ digits_value-decimal own n (omega (arith, most, small)) in
    ap (λ v. cond (same_bytes (decimal v) digits && nat_lt v bound) (Some v) None) value
    ∙ ap (λ l. cond (same_bytes (decimal n) l && nat_lt n bound) (Some n) None) e
    ∙ ap (λ b. cond (b && nat_lt n bound) (Some n) None) (same_self (decimal n))
    ∙ ap (λ b. cond b (Some n) None) (lt_yes n bound small)

-- other bytes are not
pub number_none : (bound : ℕ) (digits : List ℕ) → ((n : ℕ) → n < bound → digits ≡ decimal n → ⊥) → number_below bound digits ≡ None
unfolding number_below
number_none bound digits never = elim (cases_Bool (same_bytes (decimal (digits_value 10 digits)) digits && nat_lt (digits_value 10 digits) bound)) [
  | inl t ↦
      let both = both_true (same_bytes (decimal (digits_value 10 digits)) digits) (nat_lt (digits_value 10 digits) bound) t in
      absurd (never (digits_value 10 digits) (lt_true (digits_value 10 digits) bound both.1) (sym (same_true (decimal (digits_value 10 digits)) digits both.0)))
  | inr f ↦ ap (λ b. cond b (Some (digits_value 10 digits)) None) f
]

-- what was read is the number of the decimal
pub number_found : (bound : ℕ) (digits : List ℕ) (n : ℕ) → number_below bound digits ≡ Some n → (digits ≡ decimal n) × (n < bound)
unfolding number_below
number_found bound digits n e = elim (cases_Bool (same_bytes (decimal (digits_value 10 digits)) digits && nat_lt (digits_value 10 digits) bound)) [
  | inl t ↦
      let both = both_true (same_bytes (decimal (digits_value 10 digits)) digits) (nat_lt (digits_value 10 digits) bound) t in
      let is : Some (digits_value 10 digits) ≡ Some n = sym (ap (λ b. cond b (Some (digits_value 10 digits)) None) t) ∙ e in
      let same : digits_value 10 digits ≡ n = cc in
      (sym (same_true (decimal (digits_value 10 digits)) digits both.0) ∙ ap decimal same, let P : ℕ → Type 0 = λ k. k < bound in subst P same (lt_true (digits_value 10 digits) bound both.1))
  | inr f ↦ let wrong : None ≡ Some n = sym (ap (λ b. cond b (Some (digits_value 10 digits)) None) f) ∙ e in cc
]

-- with a smaller bound the same number is read, if it is below it
pub number_within : (bound most : ℕ) (digits : List ℕ) (n : ℕ) → bound ≤ 2 ^ 64 → number_below most digits ≡ Some n → n < bound → number_below bound digits ≡ Some n
number_within bound most digits n le e small = number_is bound digits n le small (number_found most digits n e).0

pub number_beyond : (bound most : ℕ) (digits : List ℕ) (n : ℕ) → most ≤ 2 ^ 64 → number_below most digits ≡ Some n → bound ≤ n → number_below bound digits ≡ None
number_beyond bound most digits n le e large = number_none bound digits (λ m small same.
    let found = number_found most digits n e in
    let is : m ≡ n = sym (digits_value-decimal own m (omega (arith, le, found.1, small, large))) ∙ ap (digits_value 10) (sym same ∙ found.0) ∙ digits_value-decimal own n (omega (arith, le, found.1)) in
    omega (arith, is, small, large))

pub number_of_none : (bound most : ℕ) (digits : List ℕ) → bound ≤ most → most ≤ 2 ^ 64 → number_below most digits ≡ None → number_below bound digits ≡ None
number_of_none bound most digits le fits e = number_none bound digits (λ n small same.
    let is : number_below most digits ≡ Some n = number_is most digits n fits (omega (arith, le, small)) same in
    let wrong : None ≡ Some n = sym e ∙ is in
    cc)

-- what the steps of the reader know
pub decimal_utf8 : (digits : List ℕ) (n : ℕ) → n < 2 ^ 64 → digits ≡ decimal n → IsUtf8 digits
decimal_utf8 digits n small e = subst (λ l. IsUtf8 l) (sym e) (IsUtf8-from_ascii (decimal n) (IsAscii-decimal n small))

pub not_parsed : {E : Type 0} (digits text : List ℕ) (r : Result ℕ E) (why : E) → ParsesUnsigned 64 10 text r → text ≡ digits → r ≡ Err why → (n : ℕ) → n < 2 ^ 64 → digits ≡ decimal n → ⊥
not_parsed digits text r why parses same failed n small e =
    let is : r ≡ Ok n = parse-decimal 64 n text r small small (same ∙ e) parses in
    cc

pub parsed_other : {E : Type 0} (digits text : List ℕ) (r : Result ℕ E) (m : ℕ) → ParsesUnsigned 64 10 text r → text ≡ digits → r ≡ Ok m → (digits ≡ decimal m → ⊥) → (n : ℕ) → n < 2 ^ 64 → digits ≡ decimal n → ⊥
parsed_other digits text r m parses same read other n small e =
    let is : r ≡ Ok n = parse-decimal 64 n text r small small (same ∙ e) parses in
    let alike : n ≡ m = cc in
    other (e ∙ ap decimal alike)

pub bytes_true : (xs ys : List ℕ) (r : Bool) → r ≡ bytes_eq xs ys → r ≡ true → xs ≡ ys
bytes_true xs ys r is t = (bytes_eq-Decides xs ys).0 (sym is ∙ t)

pub bytes_false : (xs ys : List ℕ) (r : Bool) → r ≡ bytes_eq xs ys → r ≡ false → xs ≡ ys → ⊥
bytes_false xs ys r is f e =
    let t : bytes_eq xs ys ≡ true = (bytes_eq-Decides xs ys).1 e in
    cc
