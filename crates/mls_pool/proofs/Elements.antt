-- Elements of lists.
use Rattle.std.proofs.Common.{◌≡◌, ◌≢◌, ℕ, zero, suc, ◌+◌, ◌<◌, List, [], ◌∷◌, ◌++◌, length, get_or, set, Option, Some, None, refl, sym, ap, ◌∙◌, inl, inr, ◌⊎◌, arith}
use Rattle.mls_model.specs.Numbers.{element}
use Rattle.mls_pool.specs.Pools.{TapeBook}
use Rattle.mls_pool.specs.Named.{keepers_of}

pub same_some : {A : Type 0} (x y : A) → ◌≡◌ {A = Option A} (Some x) (Some y) → x ≡ y
same_some x y e = cc

-- an element that is there stands within the list
pub within : {A : Type 0} (xs : List A) (i : ℕ) (x : A) → element xs i ≡ Some x → i < length xs
within [] i x e = absurd cc
within (y ∷ xs) zero x e = omega arith
within (y ∷ xs) (suc i) x e = let h = within xs i x e in omega (arith, h)

pub gets : {A : Type 0} (xs : List A) (i : ℕ) (x d : A) → element xs i ≡ Some x → get_or xs i d ≡ x
gets [] i x d e = absurd cc
gets (y ∷ xs) zero x d e = same_some y x e
gets (y ∷ xs) (suc i) x d e = gets xs i x d e

pub element_push : {A : Type 0} (xs : List A) (y x : A) (j : ℕ) → element (xs ++ y ∷ []) j ≡ Some x → (element xs j ≡ Some x) ⊎ ((j ≡ length xs) × (y ≡ x))
element_push [] y x zero e = inr (refl, same_some y x e)
element_push [] y x (suc j) e = absurd cc
element_push (z ∷ xs) y x zero e = inl e
element_push (z ∷ xs) y x (suc j) e =
    elim (element_push xs y x j e) [ inl h ↦ inl h | inr h ↦ inr (ap suc h.0, h.1) ]

pub element_set_same : {A : Type 0} (xs : List A) (i : ℕ) (y x : A) → element (set xs i y) i ≡ Some x → y ≡ x
element_set_same [] i y x e = absurd cc
element_set_same (z ∷ xs) zero y x e = same_some y x e
element_set_same (z ∷ xs) (suc i) y x e = element_set_same xs i y x e

pub element_set_other : {A : Type 0} (xs : List A) (i j : ℕ) (y : A) → j ≢ i → element (set xs i y) j ≡ element xs j
element_set_other [] i j y ne = refl
element_set_other (z ∷ xs) zero zero y ne = absurd (ne refl)
element_set_other (z ∷ xs) zero (suc j) y ne = refl
element_set_other (z ∷ xs) (suc i) zero y ne = refl
element_set_other (z ∷ xs) (suc i) (suc j) y ne = element_set_other xs i j y (λ e. ne (ap suc e))

-- a book that is taken from the end gives its keeper to the front
pub keepers_pop : {K : Type 0} (books : List (TapeBook K)) (book : TapeBook K) (keepers : List K) → keepers_of (books ++ book ∷ []) ++ keepers ≡ keepers_of books ++ book.keeper ∷ keepers
keepers_pop [] book keepers = refl
keepers_pop (b ∷ books) book keepers = ap (λ ks. b.keeper ∷ ks) (keepers_pop books book keepers)

either : (r n : ℕ) → r < n + 1 → (r < n) ⊎ (r ≡ n)
either zero zero lt = inr refl
either zero (suc n) lt = inl (omega arith)
either (suc r) zero lt = absurd (omega (arith, lt))
either (suc r) (suc n) lt = elim (either r n (omega (arith, lt))) [ inl h ↦ inl (omega (arith, h)) | inr h ↦ inr (ap suc h) ]

-- one more book shows no fault
pub clean_more : {K : Type 0} (books : List (TapeBook K)) (n : ℕ) (last : TapeBook K) → ((r : ℕ) (book : TapeBook K) → r < n → element books r ≡ Some book → book.fault ≡ None) → get_or books n last ≡ last → last.fault ≡ None
    → (r : ℕ) (book : TapeBook K) → r < n + 1 → element books r ≡ Some book → book.fault ≡ None
clean_more {K} books n last clean there none r book lt e = elim (either r n lt) [
  | inl h ↦ clean r book h e
  | inr h ↦ (let same : book ≡ last = sym (gets books n book last (ap (λ i. element books i) (sym h) ∙ e)) ∙ there in ap (λ (b : TapeBook K). b.fault) same ∙ none)
]

pub at_element : {A : Type 0} (xs : List A) (i : ℕ) (d : A) → i < length xs → element xs i ≡ Some (get_or xs i d)
at_element [] i d here = absurd (omega (arith, here))
at_element (x ∷ xs) zero d here = refl
at_element (x ∷ xs) (suc i) d here = at_element xs i d (omega (arith, here))
