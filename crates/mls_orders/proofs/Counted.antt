-- Lists of numbers in which each number stands equally often are the same in another order.
use Rattle.std.proofs.Common.{◌≡◌, ◌≢◌, ℕ, zero, suc, ◌+◌, ◌≤◌, Bool, true, false, cond, eqb, ◌||◌, List, [], ◌∷◌, ◌++◌, IsPermutation, AllPairs, refl, sym, ap, ◌∙◌, subst, ⊎_elim, arith, eq-eqb, eqb-true}
use Rattle.std.specs.List.{list_any}
use Rattle.std.proofs.lemmas.Bool.{cases_Bool, or_parts, false_from_ne_true}
use Rattle.std.proofs.lemmas.List.Folds.{Any-from_list_any}
use Rattle.std.proofs.lemmas.List.Sorted.{IsPermutation-refl, IsPermutation-cons, IsPermutation-sym, IsPermutation-trans, IsPermutation-middle}
use Rattle.mls_model.specs.Numbers.{times}
use Rattle.mls_orders.proofs.Turns.{times-append}

own_time : (y : ℕ) (ys : List ℕ) → times y (y ∷ ys) ≡ suc (times y ys)
own_time y ys = ap (λ (b : Bool). cond b (suc (times y ys)) (times y ys)) (eq-eqb y y refl)

-- a number that stands somewhere, with what stands before and after it
split_at : (x : ℕ) (ys : List ℕ) → 1 ≤ times x ys → (us : List ℕ) × (vs : List ℕ) × (ys ≡ us ++ x ∷ vs)
split_at x [] h = absurd (omega (arith, h))
split_at x (y ∷ ys) h = ⊎_elim
    (λ t. ([], ys, ap (λ (n : ℕ). n ∷ ys) (eqb-true y x t)))
    (λ f.
    let later : 1 ≤ times x ys = subst (λ (b : Bool). 1 ≤ cond b (suc (times x ys)) (times x ys)) f h in
    let rest = split_at x ys later in
    (y ∷ rest.0, rest.1, ap (λ (ns : List ℕ). y ∷ ns) rest.2))
    (cases_Bool (eqb y x))

one_less : (b : Bool) (m n u v : ℕ) → cond b (suc m) m ≡ u + cond b (suc v) v → n ≡ u + v → m ≡ n
one_less true m n u v e k = omega (arith, e, k)
one_less false m n u v e k = e ∙ sym k

pub permuted_by_times : (xs ys : List ℕ) → ((n : ℕ) → times n xs ≡ times n ys) → IsPermutation xs ys
permuted_by_times [] [] same = IsPermutation-refl []
permuted_by_times [] (y ∷ ys) same = let e : zero ≡ suc (times y ys) = same y ∙ own_time y ys in absurd (omega (arith, e))
permuted_by_times (x ∷ xs) ys same =
    let some : 1 ≤ times x ys = let e : suc (times x xs) ≡ times x ys = sym (own_time x xs) ∙ same x in omega (arith, e) in
    let at = split_at x ys some in
    let rest : (n : ℕ) → times n xs ≡ times n (at.0 ++ at.1) = λ n. one_less (eqb x n) (times n xs) (times n (at.0 ++ at.1)) (times n at.0) (times n at.1) (same n ∙ ap (times n) at.2 ∙ times-append n at.0 (x ∷ at.1)) (times-append n at.0 at.1) in
    subst (IsPermutation (x ∷ xs)) (sym at.2)
    (IsPermutation-trans _ _ _ (IsPermutation-cons x xs (at.0 ++ at.1) (permuted_by_times xs (at.0 ++ at.1) rest)) (IsPermutation-sym _ _ (IsPermutation-middle at.0 x at.1)))

-- ---- no number twice

not_among_later : (x : ℕ) (xs : List ℕ) → AllPairs (λ (g h : ℕ). g ≢ h) (x ∷ xs) → list_any (λ g. eqb g x) xs ≡ true → ⊥
not_among_later x xs apart h =
    let found = Any-from_list_any (λ g. eqb g x) xs h in
    let other = apart 0 (suc (found.0)) found.1 (omega arith) (omega (arith, found.2)) in
    other (sym (eqb-true found.1 x found.4) ∙ sym found.3)

later_apart : (x : ℕ) (xs : List ℕ) → AllPairs (λ (g h : ℕ). g ≢ h) (x ∷ xs) → AllPairs (λ (g h : ℕ). g ≢ h) xs
later_apart x xs apart = λ i j d lt long. apart (suc i) (suc j) d (omega arith) (omega arith)

not_there : (n : ℕ) (xs : List ℕ) → list_any (λ g. eqb g n) xs ≡ false → times n xs ≡ 0
not_there n [] h = refl
not_there n (x ∷ xs) h =
    let parts = or_parts (eqb x n) (list_any (λ g. eqb g n) xs) h in
    ap (λ (b : Bool). cond b (suc (times n xs)) (times n xs)) parts.0 ∙ not_there n xs parts.1

first_time : (b c : Bool) (m : ℕ) → m ≡ cond c 1 0 → (b ≡ true → c ≡ false) → cond b (suc m) m ≡ cond (b || c) 1 0
first_time true c m e alone = ap suc (e ∙ ap (λ (d : Bool). cond d 1 0) (alone refl))
first_time false c m e alone = e

pub once : (n : ℕ) (xs : List ℕ) → AllPairs (λ (g h : ℕ). g ≢ h) xs → times n xs ≡ cond (list_any (λ g. eqb g n) xs) 1 0
once n [] apart = refl
once n (x ∷ xs) apart =
    first_time (eqb x n) (list_any (λ g. eqb g n) xs) (times n xs) (once n xs (later_apart x xs apart))
    (λ t. false_from_ne_true _ (λ some. not_among_later x xs apart (subst (λ (k : ℕ). list_any (λ g. eqb g k) xs ≡ true) (sym (eqb-true x n t)) some)))
