-- Keepers taken out of their place and put back.
use Rattle.std.proofs.Common.{◌≡◌, ◌≢◌, ℕ, zero, suc, ◌+◌, ◌<◌, List, [], ◌∷◌, ◌++◌, length, map, take, drop, Option, Some, None, refl, sym, ◌∙◌, ap, subst, arith}
use Rattle.std.specs.List.{insert, remove}
use Rattle.std.specs.Option.{option_map}
use Rattle.mls_model.specs.Numbers.{element}

-- another element in the place of one that was taken out
pub put_own : {A : Type 0} (xs : List A) (i : ℕ) (y : A) → i < length xs → element (insert (remove xs i) i y) i ≡ Some y
put_own [] i y here = absurd (omega (arith, here))
put_own (x ∷ xs) zero y here = refl
put_own (x ∷ xs) (suc i) y here = put_own xs i y (omega (arith, here))

pub put_other : {A : Type 0} (xs : List A) (i j : ℕ) (y : A) → i < length xs → j ≢ i → element (insert (remove xs i) i y) j ≡ element xs j
put_other [] i j y here ne = absurd (omega (arith, here))
put_other (x ∷ xs) zero zero y here ne = absurd (ne refl)
put_other (x ∷ xs) zero (suc j) y here ne = refl
put_other (x ∷ xs) (suc i) zero y here ne = refl
put_other (x ∷ xs) (suc i) (suc j) y here ne = put_other xs i j y (omega (arith, here)) (λ e. ne (ap suc e))

pub element_map : {A B : Type 0} (f : A → B) (xs : List A) (i : ℕ) → element (map f xs) i ≡ option_map f (element xs i)
element_map f [] i = refl
element_map f (x ∷ xs) zero = refl
element_map f (x ∷ xs) (suc i) = element_map f xs i

pub element_in : {A : Type 0} (xs : List A) (i : ℕ) → i < length xs → (x : A) × (element xs i ≡ Some x)
element_in [] i here = absurd (omega (arith, here))
element_in (x ∷ xs) zero here = (x, refl)
element_in (x ∷ xs) (suc i) here = element_in xs i (omega (arith, here))
