-- Lists by their places: a list made from the numbers below n, and a write.
use Rattle.std.proofs.Common.{◌≡◌, ℕ, zero, suc, ◌<◌, List, [], ◌∷◌, ◌++◌, length, map, sym, ap, ◌∙◌, inl, inr, arith, get_or}
use Rattle.std.specs.Prelude.{cond, ◌==◌}
use Rattle.std.proofs.Math.ListN.{set, get_or-append}
use Rattle.std.proofs.lemmas.Bool.{cases_Bool, cases_lt, cases_eq}
use Rattle.std.proofs.lemmas.List.{map-append, length-map, ext_get_or, get_or_push, get_or-set_same, get_or-set_other}
use Rattle.mls_model.specs.Numbers.{below}
use Rattle.mls_launch.proofs.Picking.{eq_same, eq_other, eq_true}
use Rattle.mls_text.proofs.Counted.{length-below}

pub length_made : {A : Type 0} (f : ℕ → A) (n : ℕ) → length (map f (below n)) ≡ n
length_made f n = length-map (below n) f ∙ length-below n

pub get_made : {A : Type 0} (f : ℕ → A) (n k : ℕ) (d : A) → k < n → get_or (map f (below n)) k d ≡ f k
get_made f zero k d h = absurd (omega arith)
get_made f (suc n) k d h =
    let parts : map f (below (suc n)) ≡ map f (below n) ++ f n ∷ [] = map-append f (below n) (n ∷ []) in
    elim (cases_lt k n) [
      | inl lt ↦
          let here : k < length (map f (below n)) = omega (arith, length_made f n) in
          ap (λ l. get_or l k d) parts ∙ get_or-append (map f (below n)) (f n ∷ []) d k here ∙ get_made f n k d lt
      | inr le ↦
          let is : n ≡ k = omega arith in
          ap (λ l. get_or l k d) parts ∙ get_or_push (map f (below n)) (f n) d k (length_made f n ∙ is) ∙ ap f is
    ]

pub is_made : {A : Type 0} (xs : List A) (f : ℕ → A) (n : ℕ) (d : A) → length xs ≡ n → ((k : ℕ) → k < n → get_or xs k d ≡ f k) → xs ≡ map f (below n)
is_made xs f n d long at = ext_get_or d xs (map f (below n)) (long ∙ sym (length_made f n))
    (λ k h. let here : k < n = omega (arith, long) in at k here ∙ sym (get_made f n k d here))

pub get_set : {A : Type 0} (xs : List A) (i k : ℕ) (v d : A) → k < length xs → get_or (set xs i v) k d ≡ cond (i == k) v (get_or xs k d)
get_set xs i k v d h = elim (cases_eq i k) [
  | inl e ↦
      let here : i < length xs = omega arith in
      ap (λ j. get_or (set xs i v) j d) (sym e) ∙ get_or-set_same xs i v d here ∙ sym (ap (λ b. cond b v (get_or xs k d)) (ap (λ j. i == j) (sym e) ∙ eq_same i))
  | inr ne ↦ get_or-set_other xs i k v d (λ e. ne (sym e)) ∙ sym (ap (λ b. cond b v (get_or xs k d)) (eq_other i k ne))
]

-- a write that is made of what stood there
pub get_change : {A : Type 0} (xs : List A) (i k : ℕ) (h : A → A) (d : A) → k < length xs → get_or (set xs i (h (get_or xs i d))) k d ≡ cond (i == k) (h (get_or xs k d)) (get_or xs k d)
get_change xs i k h d here = get_set xs i k (h (get_or xs i d)) d here ∙ elim (cases_Bool (i == k)) [
  | inl t ↦ ap (λ j. cond (i == k) (h (get_or xs j d)) (get_or xs k d)) (eq_true i k t)
  | inr f ↦ ap (λ b. cond b (h (get_or xs i d)) (get_or xs k d)) f ∙ sym (ap (λ b. cond b (h (get_or xs k d)) (get_or xs k d)) f)
]
