-- Lists of what is given for each number below one.
use Rattle.std.proofs.Common.{◌≡◌, ℕ, zero, suc, ◌+◌, ◌<◌, ◌≤◌, List, [], ◌∷◌, ◌++◌, length, map, get_or, refl, sym, ap, ◌∙◌, arith, ⊎_elim, subst, length-append}
use Rattle.std.proofs.lemmas.List.{get_or-append-add, get_or_append_left, map-append, length-map}
use Rattle.std.proofs.lemmas.Bool.{cases_lt}
use Rattle.mls_model.specs.Numbers.{below}

pub length_below : (n : ℕ) → length (below n) ≡ n
length_below zero = refl
length_below (suc n) = length-append (below n) (n ∷ []) ∙ omega (arith, length_below n)

pub length_made : {A : Type 0} (f : ℕ → A) (n : ℕ) → length (map f (below n)) ≡ n
length_made f n = length-map (below n) f ∙ length_below n

pub at_made : {A : Type 0} (f : ℕ → A) (n i : ℕ) (d : A) → i < n → get_or (map f (below n)) i d ≡ f i
at_made f zero i d h = absurd (omega arith)
at_made {A = A} f (suc n) i d h =
    let split : map f (below n ++ n ∷ []) ≡ map f (below n) ++ f n ∷ [] = map-append f (below n) (n ∷ []) in
    let size : length (map f (below n)) ≡ n = length_made f n in
    ap (λ (l : List A). get_or l i d) split ∙ ⊎_elim
    (λ (less : i < n). get_or_append_left (map f (below n)) (f n ∷ []) d i (omega arith) ∙ at_made f n i d less)
    (λ (last : n ≤ i). let same : i ≡ n = omega arith in
    ap (λ (j : ℕ). get_or (map f (below n) ++ f n ∷ []) j d) (let place : i ≡ length (map f (below n)) + 0 = omega arith in place)
    ∙ get_or-append-add (map f (below n)) (f n ∷ []) 0 d ∙ ap f (sym same))
    (cases_lt i n)

-- what holds of each number below one, and of that one
pub below_more : (P : ℕ → Type 0) (n : ℕ) → ((i : ℕ) → i < n → P i) → P n → (i : ℕ) → i < n + 1 → P i
below_more P n each last i within = ⊎_elim (λ (less : i < n). each i less) (λ (past : n ≤ i). subst P (let same : n ≡ i = omega arith in same) last) (cases_lt i n)
