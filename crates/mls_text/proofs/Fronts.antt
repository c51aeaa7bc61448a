-- A number at the front is read exactly where the bytes begin with its decimal.
use Rattle.std.proofs.Common.{◌≡◌, ℕ, ◌+◌, ◌^◌, ◌<◌, true, false, List, [], ◌∷◌, ◌++◌, length, take, drop, refl, sym, ap, ◌∙◌, subst, inl, inr, arith, append_assoc, Option, Some, None}
use Rattle.std.specs.Prelude.{cond, ◌==◌, decimal}
use Rattle.std.specs.Char.{is_ascii_digit}
use Rattle.std.specs.List.{prefix_len}
use Rattle.std.specs.Option.{option_and_then}
use Rattle.std.specs.Str.{all_ascii_digits}
use Rattle.std.proofs.lemmas.Bool.{cases_Bool}
use Rattle.std.proofs.lemmas.List.{take-append-drop}
use Rattle.std.proofs.lemmas.Fmt.{digits_decimal}
use Rattle.mls_text.specs.Decimals.{number_below}
use Rattle.mls_text.specs.Fronts.{behind_byte, number_in, number_before}
use Rattle.mls_text.proofs.Decimals.{eq_same, eq_true, both_true, own, number_is, number_found}

-- a byte at the front
behind_is : (byte : ℕ) (rest : List ℕ) → behind_byte byte (byte ∷ rest) ≡ Some rest
behind_is byte rest = ap (λ b. cond b (Some rest) None) (eq_same byte)

behind_found : (byte : ℕ) (bytes rest : List ℕ) → behind_byte byte bytes ≡ Some rest → bytes ≡ byte ∷ rest
behind_found byte [] rest e = cc
behind_found byte (b ∷ bytes) rest e = elim (cases_Bool (b == byte)) [
  | inl t ↦
      let same : Some bytes ≡ Some rest = sym (ap (λ d. cond d (Some bytes) None) t) ∙ e in
      let alike : bytes ≡ rest = cc in
      ap (λ z. z ∷ bytes) (eq_true b byte t) ∙ ap (λ l. byte ∷ l) alike
  | inr f ↦ let wrong : None ≡ Some rest = sym (ap (λ d. cond d (Some bytes) None) f) ∙ e in cc
]

-- digits and numbers
digits_run : (digits : List ℕ) (c : ℕ) (rest : List ℕ) → all_ascii_digits digits ≡ true → is_ascii_digit c ≡ false → prefix_len is_ascii_digit (digits ++ c ∷ rest) ≡ length digits
digits_run [] c rest all stop = ap (λ b. cond b (1 + prefix_len is_ascii_digit rest) 0) stop
digits_run (d ∷ digits) c rest all stop =
    let both = both_true (is_ascii_digit d) (all_ascii_digits digits) all in
    ap (λ b. cond b (1 + prefix_len is_ascii_digit (digits ++ c ∷ rest)) 0) both.0
    ∙ ap (λ k. 1 + k) (digits_run digits c rest both.1 stop)
    ∙ omega arith

pub take_front : (front rest : List ℕ) → take (length front) (front ++ rest) ≡ front
take_front [] rest = refl
take_front (c ∷ front) rest = ap (λ l. c ∷ l) (take_front front rest)

drop_front : (front rest : List ℕ) → drop (length front) (front ++ rest) ≡ rest
drop_front [] rest = refl
drop_front (c ∷ front) rest = drop_front front rest

number_in_is : (n c : ℕ) (rest : List ℕ) → n < 2 ^ 32 → is_ascii_digit c ≡ false → number_in (decimal n ++ c ∷ rest) ≡ Some (n, c ∷ rest)
unfolding number_in
number_in_is n c rest small stop =
    let run : prefix_len is_ascii_digit (decimal n ++ c ∷ rest) ≡ length (decimal n) = digits_run (decimal n) c rest (digits_decimal own n (omega (arith, small))) stop in
    let part : ℕ → Option (ℕ × List ℕ) = λ k. option_and_then (λ m. Some (m, drop k (decimal n ++ c ∷ rest))) (number_below (2 ^ 32) (take k (decimal n ++ c ∷ rest))) in
    ap part run
    ∙ ap (option_and_then (λ m. Some (m, drop (length (decimal n)) (decimal n ++ c ∷ rest)))) (number_is (2 ^ 32) (take (length (decimal n)) (decimal n ++ c ∷ rest)) n (omega arith) small (take_front (decimal n) (c ∷ rest)))
    ∙ ap (λ l. Some (n, l)) (drop_front (decimal n) (c ∷ rest))

-- the parts of what was read
first_or : {A B : Type 0} → A → Option (A × B) → A
first_or a None = a
first_or a (Some x) = x.0

second_or : {A B : Type 0} → B → Option (A × B) → B
second_or b None = b
second_or b (Some x) = x.1

pub first_same : {A B : Type 0} (a c : A) (b d : B) → ◌≡◌ {A = Option (A × B)} (Some (a, b)) (Some (c, d)) → a ≡ c
unfolding first_or
first_same a c b d e = ap (first_or a) e

pub second_same : {A B : Type 0} (a c : A) (b d : B) → ◌≡◌ {A = Option (A × B)} (Some (a, b)) (Some (c, d)) → b ≡ d
unfolding second_or
second_same a c b d e = ap (second_or b) e

number_in_found : (bytes : List ℕ) (n : ℕ) (rest : List ℕ) → number_in bytes ≡ Some (n, rest) → (bytes ≡ decimal n ++ rest) × (n < 2 ^ 32)
unfolding number_in
number_in_found bytes n rest e = go (number_below (2 ^ 32) (take (prefix_len is_ascii_digit bytes) bytes)) refl e
  where
    go : (o : Option ℕ) → number_below (2 ^ 32) (take (prefix_len is_ascii_digit bytes) bytes) ≡ o → option_and_then {U = ℕ × List ℕ} (λ (m : ℕ). Some (m, drop (prefix_len is_ascii_digit bytes) bytes)) o ≡ Some (n, rest) → (bytes ≡ decimal n ++ rest) × (n < 2 ^ 32)
    go None h e = cc
    go (Some m) h e =
        let same0 = first_same m n (drop (prefix_len is_ascii_digit bytes) bytes) rest e in
        let same1 = second_same m n (drop (prefix_len is_ascii_digit bytes) bytes) rest e in
        let found = number_found (2 ^ 32) (take (prefix_len is_ascii_digit bytes) bytes) m h in (
          sym (take-append-drop (prefix_len is_ascii_digit bytes) bytes)
              ∙ ap (λ l. l ++ drop (prefix_len is_ascii_digit bytes) bytes) (found.0 ∙ ap decimal same0)
              ∙ ap (λ l. decimal n ++ l) same1,
          let P : ℕ → Type 0 = λ k. k < 2 ^ 32 in subst P same0 found.1,
        )

-- a number before a byte is read, and nothing else is
pub number_before_is : (n c : ℕ) (rest : List ℕ) → n < 2 ^ 32 → is_ascii_digit c ≡ false → number_before c (decimal n ++ c ∷ rest) ≡ Some (n, rest)
unfolding number_before
number_before_is n c rest small stop =
    ap (option_and_then (λ (x : ℕ × List ℕ). option_and_then (λ (r : List ℕ). Some (x.0, r)) (behind_byte c x.1))) (number_in_is n c rest small stop)
    ∙ ap (option_and_then (λ (r : List ℕ). Some (n, r))) (behind_is c rest)

pub number_before_found : (c : ℕ) (bytes : List ℕ) (n : ℕ) (rest : List ℕ) → number_before c bytes ≡ Some (n, rest) → (bytes ≡ decimal n ++ c ∷ rest) × (n < 2 ^ 32)
unfolding number_before
number_before_found c bytes n rest e = go (number_in bytes) refl e
  where
    there : (m : ℕ) (l : List ℕ) → number_in bytes ≡ Some (m, l) → (o : Option (List ℕ)) → behind_byte c l ≡ o → option_and_then {U = ℕ × List ℕ} (λ (r : List ℕ). Some (m, r)) o ≡ Some (n, rest) → (bytes ≡ decimal n ++ c ∷ rest) × (n < 2 ^ 32)
    there m l h None k e = cc
    there m l h (Some r) k e =
        let same0 = first_same m n r rest e in
        let same1 = second_same m n r rest e in
        let found = number_in_found bytes m l h in (
          found.0 ∙ ap (λ q. decimal m ++ q) (behind_found c l r k) ∙ ap (λ z. decimal z ++ c ∷ r) same0 ∙ ap (λ q. decimal n ++ c ∷ q) same1,
          let P : ℕ → Type 0 = λ z. z < 2 ^ 32 in subst P same0 found.1,
        )

    go : (o : Option (ℕ × List ℕ)) → number_in bytes ≡ o → option_and_then {U = ℕ × List ℕ} (λ (x : ℕ × List ℕ). option_and_then {U = ℕ × List ℕ} (λ (r : List ℕ). Some (x.0, r)) (behind_byte c x.1)) o ≡ Some (n, rest) → (bytes ≡ decimal n ++ c ∷ rest) × (n < 2 ^ 32)
    go None h e = cc
    go (Some (m, l)) h e = there m l h (behind_byte c l) refl e

-- two numbers of a line before what follows it
pub two_parts : (a b rest : List ℕ) → (a ++ 32 ∷ (b ++ 10 ∷ [])) ++ rest ≡ a ++ 32 ∷ (b ++ 10 ∷ rest)
two_parts a b rest = append_assoc a (32 ∷ (b ++ 10 ∷ [])) rest ∙ ap (λ l. a ++ 32 ∷ l) (append_assoc b (10 ∷ []) rest)
