-- Comparing texts.
use Rattle.std.proofs.Common.{◌≡◌, ℕ, inl, inr, ◌<◌, ◌+◌, Bool, true, false, ◌&&◌, ◌||◌, ◌==◌, List, [], ◌∷◌, length, map, drop, get_or, String, Global, string_bytes, refl, ap, sym, ◌∙◌, arith, bytes_eq}
use Rattle.std.proofs.lemmas.Bool.{cases_Bool}
use Rattle.std.proofs.lemmas.Str.{IsUtf8-from_is_utf8, is_utf8-from_IsUtf8}
use Rattle.std.specs.Str.{is_utf8, IsUtf8}
use Rattle.std.proofs.lemmas.Bool.Decides.{nat_tests}
use Rattle.std.proofs.lemmas.List.{at_drop_more}
use Rattle.std.specs.List.{list_any}
use Rattle.std.specs.Map.{keys_of}
use Rattle.toml.specs.View.{items_view, members_view}
use Rattle.toml.specs.declared.value.Value.{Value}
use Rattle.mls_model.specs.Numbers.{same_bytes}
use Rattle.mls_study.specs.UnknownKeys.{member_keys}
use Rattle.mls_study.specs.StudyFile.{item_count}

-- whether two lists of bytes are the same, in the words of std
pub same_bytes_is : (xs ys : List ℕ) → same_bytes xs ys ≡ bytes_eq ys xs
same_bytes_is [] [] = refl
same_bytes_is [] (y ∷ ys) = refl
same_bytes_is (x ∷ xs) [] = refl
same_bytes_is (x ∷ xs) (y ∷ ys) =
    let heads : (x == y) ≡ (y == x) = grind (arith, nat_tests) in
    ap (λ b. b && same_bytes xs ys) heads ∙ ap (λ b. (y == x) && b) (same_bytes_is xs ys)

pub bytes_eq_comm : (xs ys : List ℕ) → bytes_eq xs ys ≡ bytes_eq ys xs
bytes_eq_comm [] [] = refl
bytes_eq_comm [] (y ∷ ys) = refl
bytes_eq_comm (x ∷ xs) [] = refl
bytes_eq_comm (x ∷ xs) (y ∷ ys) =
    let heads : (x == y) ≡ (y == x) = grind (arith, nat_tests) in
    ap (λ b. b && bytes_eq xs ys) heads ∙ ap (λ b. (y == x) && b) (bytes_eq_comm xs ys)

-- the same test, with the texts the other way round
pub any_comm : (key : List ℕ) (texts : List (List ℕ)) → list_any (λ (text : List ℕ). bytes_eq text key) texts ≡ list_any (bytes_eq key) texts
any_comm key [] = refl
any_comm key (text ∷ texts) =
    ap (λ b. b || list_any (λ (other : List ℕ). bytes_eq other key) texts) (bytes_eq_comm text key)
    ∙ ap (λ b. bytes_eq key text || b) (any_comm key texts)

-- one text after another is compared
pub has_text_step : (text : List ℕ) (texts : List (String Global)) (i : ℕ) (other : String Global) (b : Bool) → i < length texts → other ≡ get_or texts i other → b ≡ bytes_eq (string_bytes other) text
    → list_any (same_bytes text) (map string_bytes (drop i texts)) ≡ (b || list_any (same_bytes text) (map string_bytes (drop (i + 1) texts)))
has_text_step text texts i other b within is answered =
    at_drop_more (λ (xs : List (String Global)). list_any (same_bytes text) (map string_bytes xs)) texts i other within
    ∙ ap (λ c. c || list_any (same_bytes text) (map string_bytes (drop (i + 1) texts)))
    (same_bytes_is text (string_bytes (get_or texts i other)) ∙ ap (λ (s : String Global). bytes_eq (string_bytes s) text) (sym is) ∙ sym answered)

-- how many items an array has
pub item_count_view : (vs : List Value) → item_count (items_view vs) ≡ length vs
item_count_view [] = refl
item_count_view (v ∷ vs) = omega (arith, item_count_view vs)

-- the keys of a table are those of its members
pub keys_view : (es : List (String Global × Value)) → map string_bytes (keys_of es) ≡ member_keys (members_view es)
keys_view [] = refl
keys_view (e ∷ es) = ap (λ ks. string_bytes e.0 ∷ ks) (keys_view es)

-- bytes that are UTF-8, and bytes that aren't
pub is_utf8_true : (bs : List ℕ) → IsUtf8 bs → is_utf8 bs ≡ true
is_utf8_true bs h = is_utf8-from_IsUtf8 bs h

pub is_utf8_false : (bs : List ℕ) → ¬ IsUtf8 bs → is_utf8 bs ≡ false
is_utf8_false bs h =
    elim (cases_Bool (is_utf8 bs)) [
      | inl t ↦ absurd (h (IsUtf8-from_is_utf8 bs t))
      | inr f ↦ f
    ]

pub ruleset utf8_laws = (is_utf8_true, is_utf8_false)
