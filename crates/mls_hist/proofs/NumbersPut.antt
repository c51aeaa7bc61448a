-- Bytes that grow by one number of a list after the other.
use Rattle.std.proofs.Common.{◌≡◌, ℕ, zero, suc, ◌+◌, ◌<◌, List, [], ◌∷◌, ◌++◌, length, take, get_or, ap, ◌∙◌, refl, sym, arith}
use Rattle.std.specs.Int.{Width}
use Rattle.mls_ckpt.specs.Reading.{spelled, text, texts}
use Rattle.mls_ckpt.proofs.Steps.{texts-append}
use Rattle.mls_field.specs.PutBytes.{Grown}
use Rattle.mls_field.proofs.Texts.{number_put}

-- one more of a list
pub take_more : (xs : List ℕ) (i : ℕ) → i < length xs → take (i + 1) xs ≡ take i xs ++ get_or xs i 0 ∷ []
take_more xs i h = ap (λ m. take m xs) (let e : i + 1 ≡ suc i = omega arith in e) ∙ next xs i h
  where
    next : (xs : List ℕ) (i : ℕ) → i < length xs → take (suc i) xs ≡ take i xs ++ get_or xs i 0 ∷ []
    next [] i h = absurd (omega (arith, h))
    next (x ∷ xs) zero h = refl
    next (x ∷ xs) (suc i) h = ap (λ ys. x ∷ ys) (next xs i (omega (arith, h)))

-- its bytes, with those before it
pub next_put : (w : Width) (xs : List ℕ) (i n : ℕ) (start old new : List ℕ) → i < length xs → n ≡ get_or xs i 0 → Grown start old (texts (text w) (take i xs)) → new ≡ old ++ spelled w n → Grown start new (texts (text w) (take (i + 1) xs))
next_put w xs i n start old new h is before e rest =
    number_put w n old new e rest ∙ (before (text w n rest) ∙ (ap (λ m. start ++ texts (text w) (take i xs) (text w m rest)) is ∙
    (ap (λ bytes. start ++ bytes) (sym (texts-append (text w) (take i xs) (get_or xs i 0 ∷ []) rest)) ∙ ap (λ ys. start ++ texts (text w) ys rest) (sym (take_more xs i h)))))
