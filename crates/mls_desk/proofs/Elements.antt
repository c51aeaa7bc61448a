-- Elements of lists.
use Rattle.std.proofs.Common.{◌≡◌, ◌≢◌, ℕ, zero, suc, ◌+◌, ◌<◌, List, [], ◌∷◌, ◌++◌, length, get_or, set, Option, Some, refl, ap, inl, inr, ◌⊎◌, arith}
use Rattle.mls_model.specs.Numbers.{element}

pub same_some : {A : Type 0} (x y : A) → ◌≡◌ {A = Option A} (Some x) (Some y) → x ≡ y
same_some x y e = cc

-- an element that is there stands within the list
pub within : {A : Type 0} (xs : List A) (i : ℕ) (x : A) → element xs i ≡ Some x → i < length xs
within [] i x e = absurd cc
within (y ∷ xs) zero x e = omega arith
within (y ∷ xs) (suc i) x e = let h = within xs i x e in omega (arith, h)

pub gets : {A : Type 0} (xs : List A) (i : ℕ) (x d : A) → element xs i ≡ Some x → get_or xs i d ≡ x
gets [] i x d e = absurd cc
gets (y ∷ xs) zero x d e = same_some y x e
gets (y ∷ xs) (suc i) x d e = gets xs i x d e

pub element_push : {A : Type 0} (xs : List A) (y x : A) (j : ℕ) → element (xs ++ y ∷ []) j ≡ Some x → (element xs j ≡ Some x) ⊎ ((j ≡ length xs) × (y ≡ x))
element_push [] y x zero e = inr (refl, same_some y x e)
element_push [] y x (suc j) e = absurd cc
element_push (z ∷ xs) y x zero e = inl e
element_push (z ∷ xs) y x (suc j) e =
    elim (element_push xs y x j e) [ inl h ↦ inl h | inr h ↦ inr (ap suc h.0, h.1) ]

pub element_set_same : {A : Type 0} (xs : List A) (i : ℕ) (y x : A) → element (set xs i y) i ≡ Some x → y ≡ x
element_set_same [] i y x e = absurd cc
element_set_same (z ∷ xs) zero y x e = same_some y x e
element_set_same (z ∷ xs) (suc i) y x e = element_set_same xs i y x e

pub element_set_other : {A : Type 0} (xs : List A) (i j : ℕ) (y : A) → j ≢ i → element (set xs i y) j ≡ element xs j
element_set_other [] i j y ne = refl
element_set_other (z ∷ xs) zero zero y ne = absurd (ne refl)
element_set_other (z ∷ xs) zero (suc j) y ne = refl
element_set_other (z ∷ xs) (suc i) zero y ne = refl
element_set_other (z ∷ xs) (suc i) (suc j) y ne = element_set_other xs i j y (λ e. ne (ap suc e))

pub at_element : {A : Type 0} (xs : List A) (i : ℕ) (d : A) → i < length xs → element xs i ≡ Some (get_or xs i d)
at_element [] i d here = absurd (omega (arith, here))
at_element (x ∷ xs) zero d here = refl
at_element (x ∷ xs) (suc i) d here = at_element xs i d (omega (arith, here))

-- a number below the next one is below or the same
pub either : (r n : ℕ) → r < n + 1 → (r < n) ⊎ (r ≡ n)
either zero zero lt = inr refl
either zero (suc n) lt = inl (omega arith)
either (suc r) zero lt = absurd (omega (arith, lt))
either (suc r) (suc n) lt = elim (either r n (omega (arith, lt))) [ inl h ↦ inl (omega (arith, h)) | inr h ↦ inr (ap suc h) ]

pub same_or : (r n : ℕ) → (r ≡ n) ⊎ (r ≢ n)
same_or zero zero = inl refl
same_or zero (suc n) = inr (λ e. cc)
same_or (suc r) zero = inr (λ e. cc)
same_or (suc r) (suc n) = elim (same_or r n) [ inl h ↦ inl (ap suc h) | inr h ↦ inr (λ e. h (cc)) ]

-- an item at a place
pub record Item {A : Type 0} (xs : List A) (i : ℕ) : Type 0 where
  pub item : A
  pub there : element xs i ≡ Some item

pub item_at : {A : Type 0} (xs : List A) (i : ℕ) → i < length xs → Item xs i
item_at [] i here = absurd (omega (arith, here))
item_at (x ∷ xs) zero here = record { item = x; there = refl }
item_at (x ∷ xs) (suc i) here = let r = item_at xs i (omega (arith, here)) in record { item = r.item; there = r.there }
