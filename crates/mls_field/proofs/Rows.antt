-- Rows of shifted values, and the samples A and B of rows.
use Rattle.std.proofs.Common.{◌≡◌, ℕ, zero, suc, ◌+◌, ◌*◌, ◌<◌, List, [], ◌∷◌, ◌++◌, length, map, get_or, Bool, ℤ, append_assoc, ap, ◌∙◌, refl, sym, inl, inr, arith}
use Rattle.std.specs.List.{AllByRecursion}
use Rattle.std.proofs.lemmas.List.{map-append, length-map, length-append, get_or_at, get_or_append_left}
use Rattle.std.proofs.lemmas.List.Concat.{flat_map-append}
use Rattle.std.proofs.lemmas.Bool.{cases_lt}
use Rattle.mls_model.specs.Numbers.{below}
use Rattle.mls_model.specs.Samples.{shifted, unshifted}
use Rattle.mls_model.specs.Statistics.{outputs}
use Rattle.mls_field.specs.ShiftedRows.{shifted_row, shifted_outputs}

pub length-below : (n : ℕ) → length (below n) ≡ n
length-below zero = refl
length-below (suc n) = omega (arith, length-append (below n) (n ∷ []), length-below n)

pub length-shifted_row : (signed : Bool) (n : ℕ) (sample : ℕ → ℕ → ℕ) (place : ℕ) → length (shifted_row signed n sample place) ≡ n
length-shifted_row signed n sample place = length-map (below n) (λ row. shifted signed (sample row place)) ∙ length-below n

pub entry_of : (f : ℕ → ℕ) (n i : ℕ) → i < n → get_or (map f (below n)) i 0 ≡ f i
entry_of f zero i h = absurd (omega arith)
entry_of f (suc n) i h =
    let size : length (map f (below n)) ≡ n = length-map (below n) f ∙ length-below n in
    ap (λ (xs : List ℕ). get_or xs i 0) (map-append f (below n) (n ∷ [])) ∙
    elim (cases_lt i n) [
      | inl low ↦ get_or_append_left (map f (below n)) (f n ∷ []) 0 i (omega arith) ∙ entry_of f n i low
      | inr high ↦ (let e : n ≡ i = omega arith in get_or_at (map f (below n)) (f n) [] 0 i (omega arith) ∙ ap f e)
    ]

pub entry-shifted_row : (signed : Bool) (n : ℕ) (sample : ℕ → ℕ → ℕ) (place i : ℕ) → i < n → get_or (shifted_row signed n sample place) i 0 ≡ shifted signed (sample i place)
entry-shifted_row signed n sample place i h = entry_of (λ row. shifted signed (sample row place)) n i h

pub same_entries : (f g : ℕ → ℕ) (n : ℕ) → ((i : ℕ) → i < n → f i ≡ g i) → map f (below n) ≡ map g (below n)
same_entries f g zero h = refl
same_entries f g (suc n) h =
    map-append f (below n) (n ∷ []) ∙
    (ap (λ (xs : List ℕ). xs ++ f n ∷ []) (same_entries f g n (λ i low. h i (omega arith))) ∙ (ap (λ (x : ℕ). map g (below n) ++ x ∷ []) (h n (omega arith)) ∙ sym (map-append g (below n) (n ∷ []))))

pub shifted_outputs_push : (rows : List (List ℕ)) (row : List ℕ) → shifted_outputs (rows ++ row ∷ []) ≡ shifted_outputs rows ++ get_or row 0 0 ∷ get_or row 1 0 ∷ []
shifted_outputs_push rows row = flat_map-append (λ (r : List ℕ). get_or r 0 0 ∷ get_or r 1 0 ∷ []) rows (row ∷ [])

-- the outputs of one more row whose samples A and B are given
pub outputs_more : (rows : List (List ℕ)) (row : List ℕ) (a b : ℕ) → get_or row 0 0 ≡ a → get_or row 1 0 ≡ b → (shifted_outputs rows ++ a ∷ []) ++ b ∷ [] ≡ shifted_outputs (rows ++ row ∷ [])
outputs_more rows row a b e f =
    append_assoc (shifted_outputs rows) (a ∷ []) (b ∷ []) ∙
    (ap (λ (x : ℕ). shifted_outputs rows ++ x ∷ b ∷ []) (sym e) ∙ (ap (λ (x : ℕ). shifted_outputs rows ++ get_or row 0 0 ∷ x ∷ []) (sym f) ∙ sym (shifted_outputs_push rows row)))

pub length-shifted_outputs : (rows : List (List ℕ)) → length (shifted_outputs rows) ≡ 2 * length rows
length-shifted_outputs [] = refl
length-shifted_outputs (row ∷ rows) = omega (arith, length-shifted_outputs rows)

pub all_push : (P : List ℕ → Type 0) (rows : List (List ℕ)) (row : List ℕ) → AllByRecursion P rows → P row → AllByRecursion P (rows ++ row ∷ [])
all_push P [] row all p = (p, tt)
all_push P (r ∷ rows) row all p = (all.0, all_push P rows row all.1 p)

-- the values of A and B are those of their shifted values
pub outputs_are : (signed : Bool) (n : ℕ) (rows : List (List ℕ)) → AllByRecursion (λ row. length row ≡ n + 2) rows → outputs (map (map (unshifted signed)) rows) ≡ map (unshifted signed) (shifted_outputs rows)
outputs_are signed n [] all = refl
outputs_are signed n ([] ∷ rows) all = absurd (omega (arith, all.0))
outputs_are signed n ((a ∷ []) ∷ rows) all = absurd (omega (arith, all.0))
outputs_are signed n ((a ∷ b ∷ rest) ∷ rows) all = ap (λ (vs : List ℤ). unshifted signed a ∷ unshifted signed b ∷ vs) (outputs_are signed n rows all.1)
