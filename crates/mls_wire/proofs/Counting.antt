-- What is made of the numbers below one, with one number more.
use Rattle.std.proofs.Common.{◌≡◌, List, ℕ, [], ◌∷◌, ◌++◌, ◌+◌, ◌∙◌, ap, sym, add-one, append_assoc}
use Rattle.std.specs.List.{flat_map}
use Rattle.std.proofs.lemmas.List.{append-nil}
use Rattle.std.proofs.lemmas.Grind.{flat_map-append}
use Rattle.mls_model.specs.Numbers.{below}

flat_map-below_more : {B : Type 0} (f : ℕ → List B) (n : ℕ) → flat_map f (below (n + 1)) ≡ flat_map f (below n) ++ f n
flat_map-below_more f n = ap (λ m. flat_map f (below m)) (add-one n) ∙ flat_map-append f (below n) (n ∷ []) ∙ ap (λ ys. flat_map f (below n) ++ ys) (append-nil (f n))

-- one list more behind others
pub added_more : {A : Type 0} (f : ℕ → List A) (n : ℕ) (old now new : List A) → now ≡ old ++ flat_map f (below n) → new ≡ now ++ f n → new ≡ old ++ flat_map f (below (n + 1))
added_more f n old now new so_far step =
    step ∙ ap (λ xs. xs ++ f n) so_far ∙ append_assoc old (flat_map f (below n)) (f n) ∙ ap (λ xs. old ++ xs) (sym (flat_map-below_more f n))

pub lists_more : {A : Type 0} (f : ℕ → List A) (n : ℕ) (now new : List A) → now ≡ flat_map f (below n) → new ≡ now ++ f n → new ≡ flat_map f (below (n + 1))
lists_more f n now new so_far step = step ∙ ap (λ xs. xs ++ f n) so_far ∙ sym (flat_map-below_more f n)
