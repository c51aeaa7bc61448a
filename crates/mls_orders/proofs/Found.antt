-- What a search in a list finds.
use Rattle.std.proofs.Common.{◌≡◌, ℕ, zero, suc, ◌<◌, Bool, true, false, not, ◌||◌, cond, List, [], ◌∷◌, ◌++◌, Some, refl, sym, ap, ◌∙◌, subst, ⊎_elim, arith}
use Rattle.std.specs.List.{list_any, list_all, find, AllByRecursion}
use Rattle.std.proofs.lemmas.Option.{same_Some}
use Rattle.std.proofs.lemmas.Bool.{cases_Bool, cases_eq, and_parts, or_cases, both_ways}
use Rattle.std.proofs.lemmas.List.Folds.{list_all-append}
use Rattle.mls_model.specs.Numbers.{below}

-- where some element passes, the first that does is found, and what holds of all holds of it
pub found : {X : Type 0} (test : X → Bool) (P : X → Type 0) (xs : List X) → AllByRecursion P xs → list_any test xs ≡ true → (x : X) × (find test xs ≡ Some x) × (test x ≡ true) × P x
found test P [] all h = absurd (both_ways false refl h)
found test P (x ∷ xs) all h = ⊎_elim
    (λ t. (x, ap (λ (b : Bool). cond b (Some x) (find test xs)) t, t, all.0))
    (λ f.
    let later : list_any test xs ≡ true = ⊎_elim (λ t. absurd (both_ways _ f t)) (λ t. t) (or_cases (test x) (list_any test xs) h) in
    let rest = found test P xs all.1 later in
    (rest.0, ap (λ (b : Bool). cond b (Some x) (find test xs)) f ∙ rest.1, rest.2, rest.3))
    (cases_Bool (test x))

-- what is found passes the test, and what holds of all holds of it
pub passes : {X : Type 0} (test : X → Bool) (P : X → Type 0) (xs : List X) (x : X) → AllByRecursion P xs → find test xs ≡ Some x → (test x ≡ true) × P x
passes test P [] x all h = absurd cc
passes {X} test P (y ∷ ys) x all h = ⊎_elim
    (λ t.
    let same : y ≡ x = same_Some y x (sym (ap (λ (b : Bool). cond b (Some y) (find test ys)) t) ∙ h) in
    (ap test (sym same) ∙ t, subst P same all.0))
    (λ f. passes test P ys x all.1 (sym (ap (λ (b : Bool). cond b (Some y) (find test ys)) f) ∙ h))
    (cases_Bool (test y))

-- of two tests of which the first fails or the second passes
pub or_second : (a b : Bool) → (not a || b) ≡ true → a ≡ true → b ≡ true
or_second true b h t = h
or_second false b h t = absurd (both_ways false refl t)

-- ---- the numbers below another

all_push : {X : Type 0} (P : X → Type 0) (xs : List X) (x : X) → AllByRecursion P xs → P x → AllByRecursion P (xs ++ x ∷ [])
all_push P [] x all last = (last, tt)
all_push P (y ∷ ys) x all last = (all.0, all_push P ys x all.1 last)

pub all_front : {X : Type 0} (P : X → Type 0) (xs : List X) (x : X) → AllByRecursion P (xs ++ x ∷ []) → AllByRecursion P xs
all_front P [] x all = tt
all_front P (y ∷ ys) x all = (all.0, all_front P ys x all.1)

all_weaker : {X : Type 0} (P Q : X → Type 0) → ((x : X) → P x → Q x) → (xs : List X) → AllByRecursion P xs → AllByRecursion Q xs
all_weaker P Q weaker [] all = tt
all_weaker P Q weaker (x ∷ xs) all = (weaker x all.0, all_weaker P Q weaker xs all.1)

pub are_below : (n : ℕ) → AllByRecursion (λ (k : ℕ). k < n) (below n)
are_below zero = tt
are_below (suc n) = all_push (λ (k : ℕ). k < suc n) (below n) n (all_weaker (λ (k : ℕ). k < n) (λ (k : ℕ). k < suc n) (λ k lt. omega (arith, lt)) (below n) (are_below n)) (omega arith)

pub at_below : (test : ℕ → Bool) (n k : ℕ) → list_all test (below n) ≡ true → k < n → test k ≡ true
at_below test zero k all lt = absurd (omega arith)
at_below test (suc n) k all lt =
    let parts = and_parts (list_all test (below n)) (list_all test (n ∷ [])) (sym (list_all-append test (below n) (n ∷ [])) ∙ all) in
    ⊎_elim
    (λ e. ap test e ∙ (and_parts (test n) true parts.1).0)
    (λ ne. at_below test n k parts.0 (omega (arith, ne)))
    (cases_eq k n)
