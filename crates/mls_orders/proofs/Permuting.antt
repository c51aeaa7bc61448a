-- Lists in another order: what holds where two neighbours change places holds of every order.
use Rattle.std.proofs.Common.{◌≡◌, ℕ, zero, suc, ◌<◌, List, [], ◌∷◌, ◌++◌, length, get_or, set, swap, flat_map, filter_map, IsPermutation, Option, Some, None, refl, sym, ap, ◌∙◌, subst, append_assoc, ⊎_elim, arith, not-suc-le-zero}
use Rattle.std.specs.List.{cons_option}
use Rattle.std.proofs.lemmas.Bool.{cases_order}
use Rattle.std.proofs.lemmas.List.{set_comm, set-set, set-get_or}
use Rattle.std.proofs.lemmas.List.Sorted.{IsPermutation-refl, IsPermutation-cons, IsPermutation-trans, IsPermutation-keeps, IsPermutation-append_left, IsPermutation-append_right, IsPermutation-append_comm, IsPermutation-middle}

module _ {X : Type 0} (R : List X → List X → Type 0) (same : (xs : List X) → R xs xs) (under : (x : X) (xs ys : List X) → R xs ys → R (x ∷ xs) (x ∷ ys)) (turned : (x y : X) (xs : List X) → R (x ∷ y ∷ xs) (y ∷ x ∷ xs)) (chain : (xs ys zs : List X) → R xs ys → R ys zs → R xs zs) where
  with_first : (x : X) (xs : List X) (j : ℕ) (d : X) → j < length xs → R (x ∷ xs) (get_or xs j d ∷ set xs j x)
  with_first x [] j d h = absurd (not-suc-le-zero h)
  with_first x (y ∷ ys) zero d h = turned x y ys
  with_first x (y ∷ ys) (suc j) d h =
      let later = under y _ _ (with_first x ys j d (omega arith)) in
      chain _ _ _ (turned x y ys) (chain _ _ _ later (turned y (get_or ys j d) (set ys j x)))

  exchanged : (xs : List X) (i j : ℕ) (d : X) → i < j → j < length xs → R xs (set (set xs i (get_or xs j d)) j (get_or xs i d))
  exchanged [] i j d h k = absurd (not-suc-le-zero k)
  exchanged (x ∷ xs) i zero d h k = absurd (not-suc-le-zero h)
  exchanged (x ∷ xs) zero (suc j) d h k = with_first x xs j d (omega arith)
  exchanged (x ∷ xs) (suc i) (suc j) d h k = under x _ _ (exchanged xs i j d (omega arith) (omega arith))

  swapped : (xs : List X) (i j : ℕ) → i < length xs → j < length xs → R xs (swap xs i j)
  swapped [] i j h k = absurd (not-suc-le-zero h)
  swapped (d ∷ xs) i j h k = ⊎_elim
      (λ e. subst (R (d ∷ xs)) (sym (set-get_or (d ∷ xs) i d) ∙ sym (set-set (d ∷ xs) i (get_or (d ∷ xs) i d) (get_or (d ∷ xs) i d)) ∙ ap (λ (n : ℕ). set (set (d ∷ xs) i (get_or (d ∷ xs) n d)) n (get_or (d ∷ xs) i d)) e) (same (d ∷ xs)))
      (λ o. ⊎_elim
      (λ lt. exchanged (d ∷ xs) i j d lt k)
      (λ gt. subst (R (d ∷ xs)) (set_comm (d ∷ xs) j i (get_or (d ∷ xs) i d) (get_or (d ∷ xs) j d) (λ e. absurd (omega arith))) (exchanged (d ∷ xs) j i d gt h))
      o)
      (cases_order i j)

  pub permuted : (xs ys : List X) → IsPermutation xs ys → R xs ys
  permuted xs ys h = IsPermutation-keeps xs (R xs) (same xs) (λ l i j p q so. chain xs l (swap l i j) so (swapped l i j p q)) ys h

-- what is gathered from a list by steps that may change places is the same for every order
pub folded : {X Y : Type 0} (F : List X → Y) (step : X → Y → Y) → ((x : X) (xs : List X) → F (x ∷ xs) ≡ step x (F xs)) → ((x y : X) (a : Y) → step x (step y a) ≡ step y (step x a)) → (xs ys : List X) → IsPermutation xs ys → F xs ≡ F ys
folded F step is turn xs ys h = permuted (λ us vs. F us ≡ F vs) (λ us. refl)
    (λ x us vs e. is x us ∙ ap (step x) e ∙ sym (is x vs))
    (λ x y us. is x (y ∷ us) ∙ ap (step x) (is y us) ∙ turn x y (F us) ∙ sym (ap (step y) (is x us)) ∙ sym (is y (x ∷ us)))
    (λ us vs ws a b. a ∙ b) xs ys h

two_turned : {X : Type 0} (us vs ws : List X) → IsPermutation (us ++ (vs ++ ws)) (vs ++ (us ++ ws))
two_turned us vs ws = subst (λ l. IsPermutation l (vs ++ (us ++ ws))) (append_assoc us vs ws) (subst (IsPermutation ((us ++ vs) ++ ws)) (append_assoc vs us ws) (IsPermutation-append_left ws (us ++ vs) (vs ++ us) (IsPermutation-append_comm us vs)))

-- lists that each element gives, one after another
pub flat_mapped : {X Y : Type 0} (f : X → List Y) (xs ys : List X) → IsPermutation xs ys → IsPermutation (flat_map f xs) (flat_map f ys)
flat_mapped f xs ys h = permuted (λ us vs. IsPermutation (flat_map f us) (flat_map f vs)) (λ us. IsPermutation-refl (flat_map f us))
    (λ x us vs e. IsPermutation-append_right (f x) (flat_map f us) (flat_map f vs) e)
    (λ x y us. two_turned (f x) (f y) (flat_map f us))
    (λ us vs ws a b. IsPermutation-trans _ _ _ a b) xs ys h

-- the elements that something gives
given : {Y : Type 0} (o : Option Y) (us vs : List Y) → IsPermutation us vs → IsPermutation (cons_option o us) (cons_option o vs)
given None us vs e = e
given (Some y) us vs e = IsPermutation-cons y us vs e

two_given : {Y : Type 0} (o p : Option Y) (us : List Y) → IsPermutation (cons_option o (cons_option p us)) (cons_option p (cons_option o us))
two_given None p us = IsPermutation-refl (cons_option p us)
two_given (Some y) None us = IsPermutation-refl (y ∷ us)
two_given (Some y) (Some z) us = IsPermutation-middle (y ∷ []) z us

pub filter_mapped : {X Y : Type 0} (f : X → Option Y) (xs ys : List X) → IsPermutation xs ys → IsPermutation (filter_map f xs) (filter_map f ys)
filter_mapped f xs ys h = permuted (λ us vs. IsPermutation (filter_map f us) (filter_map f vs)) (λ us. IsPermutation-refl (filter_map f us))
    (λ x us vs e. given (f x) (filter_map f us) (filter_map f vs) e)
    (λ x y us. two_given (f x) (f y) (filter_map f us))
    (λ us vs ws a b. IsPermutation-trans _ _ _ a b) xs ys h
