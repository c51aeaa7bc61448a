-- Elements of lists.
use Rattle.std.proofs.Common.{◌≡◌, ◌≢◌, ℕ, zero, suc, ◌+◌, ◌<◌, List, [], ◌∷◌, ◌++◌, length, get_or, set, Option, Some, None, refl, sym, ap, ◌∙◌, inl, inr, ◌⊎◌, subst, arith, length-set}
use Rattle.mls_model.specs.Numbers.{element}
use Rattle.mls_hub.specs.Books.{OneMoved}

pub same_some : {A : Type 0} (x y : A) → ◌≡◌ {A = Option A} (Some x) (Some y) → x ≡ y
same_some x y e = cc

pub same_element : {A : Type 0} (xs : List A) (i : ℕ) (x y : A) → element xs i ≡ Some x → element xs i ≡ Some y → x ≡ y
same_element xs i x y p q = same_some x y (sym p ∙ q)

-- an element that is there stands within the list
pub within : {A : Type 0} (xs : List A) (i : ℕ) (x : A) → element xs i ≡ Some x → i < length xs
within [] i x e = absurd cc
within (y ∷ xs) zero x e = omega arith
within (y ∷ xs) (suc i) x e = let h = within xs i x e in omega (arith, h)

pub element_push : {A : Type 0} (xs : List A) (y x : A) (j : ℕ) → element (xs ++ y ∷ []) j ≡ Some x → (element xs j ≡ Some x) ⊎ ((j ≡ length xs) × (y ≡ x))
element_push [] y x zero e = inr (refl, same_some y x e)
element_push [] y x (suc j) e = absurd cc
element_push (z ∷ xs) y x zero e = inl e
element_push (z ∷ xs) y x (suc j) e =
    elim (element_push xs y x j e) [ inl h ↦ inl h | inr h ↦ inr (ap suc h.0, h.1) ]

pub element_set_same : {A : Type 0} (xs : List A) (i : ℕ) (y : A) → i < length xs → element (set xs i y) i ≡ Some y
element_set_same [] i y lt = absurd (omega (arith, lt))
element_set_same (z ∷ xs) zero y lt = refl
element_set_same (z ∷ xs) (suc i) y lt = element_set_same xs i y (omega (arith, lt))

pub element_set_other : {A : Type 0} (xs : List A) (i j : ℕ) (y : A) → j ≢ i → element (set xs i y) j ≡ element xs j
element_set_other [] i j y ne = refl
element_set_other (z ∷ xs) zero zero y ne = absurd (ne refl)
element_set_other (z ∷ xs) zero (suc j) y ne = refl
element_set_other (z ∷ xs) (suc i) zero y ne = refl
element_set_other (z ∷ xs) (suc i) (suc j) y ne = element_set_other xs i j y (λ e. ne (ap suc e))

pub at_element : {A : Type 0} (xs : List A) (i : ℕ) (d : A) → i < length xs → element xs i ≡ Some (get_or xs i d)
at_element [] i d here = absurd (omega (arith, here))
at_element (x ∷ xs) zero d here = refl
at_element (x ∷ xs) (suc i) d here = at_element xs i d (omega (arith, here))

-- the element that an index gives
pub given_at : {A : Type 0} (xs : List A) (i : ℕ) (x : A) → i < length xs → x ≡ get_or xs i x → element xs i ≡ Some x
given_at xs i x here is = at_element xs i x here ∙ ap Some (sym is)

pub same_or : (r n : ℕ) → (r ≡ n) ⊎ (r ≢ n)
same_or zero zero = inl refl
same_or zero (suc n) = inr (λ e. cc)
same_or (suc r) zero = inr (λ e. cc)
same_or (suc r) (suc n) = elim (same_or r n) [ inl h ↦ inl (ap suc h) | inr h ↦ inr (λ e. h (cc)) ]

pub one_set : {A : Type 0} (xs : List A) (i : ℕ) (y : A) → OneMoved i xs (set xs i y)
one_set xs i y = record { count = length-set xs i y; others = λ j ne. element_set_other xs i j y ne }

pub none_moved : {A : Type 0} (i : ℕ) (xs : List A) → OneMoved i xs xs
none_moved i xs = record { count = refl; others = λ j ne. refl }

pub more_moved : {A : Type 0} (i : ℕ) (old mid new : List A) → OneMoved i old mid → OneMoved i mid new → OneMoved i old new
more_moved i old mid new a b = record { count = b.count ∙ a.count; others = λ j ne. b.others j ne ∙ a.others j ne }

-- what holds of the element that moved, and of the others, holds of each
pub each_moved : {A : Type 0} (P : ℕ → A → Type 0) (i : ℕ) (old new : List A) (now : A) → OneMoved i old new → element new i ≡ Some now → P i now → ((j : ℕ) (x : A) → j ≢ i → element old j ≡ Some x → P j x)
    → (j : ℕ) (x : A) → element new j ≡ Some x → P j x
each_moved P i old new now moved is own others j x at = elim (same_or j i) [
  | inl e ↦ (
      let there : element new i ≡ Some x = ap (λ k. element new k) (sym e) ∙ at in
      let same : now ≡ x = same_element new i now x is there in
      let here : P i x = subst (λ y. P i y) same own in
      subst (λ k. P k x) (sym e) here)
  | inr ne ↦ others j x ne (sym (moved.others j ne) ∙ at)
]

-- there is an element at each place within a list
pub some_element : {A : Type 0} (xs : List A) (i : ℕ) → i < length xs → (x : A) × (element xs i ≡ Some x)
some_element [] i here = absurd (omega (arith, here))
some_element (x ∷ xs) zero here = (x, refl)
some_element (x ∷ xs) (suc i) here = some_element xs i (omega (arith, here))
