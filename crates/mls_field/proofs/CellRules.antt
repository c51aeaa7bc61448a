-- The numbers of a cell that may be those of n rows are valid sums of a checkpoint.
use Rattle.std.proofs.Common.{◌≡◌, ℕ, zero, suc, ◌+◌, ◌*◌, ◌<◌, ◌≤◌, List, [], ◌∷◌, ◌++◌, length, map, take, get_or, ap, ◌∙◌, refl, sym, subst, arith}
use Rattle.std.proofs.lemmas.List.{map-append, length-map}
use Rattle.std.proofs.lemmas.List.Concat.{flat_map-append}
use Rattle.mls_model.specs.Numbers.{below, joined}
use Rattle.mls_model.specs.Studies.{Sizes}
use Rattle.mls_ckpt.specs.Reading.{AllFrom}
use Rattle.mls_ckpt.specs.States.{after_one}
use Rattle.mls_ckpt.specs.CellParts.{IsColumn, IsCell, most_after}
use Rattle.mls_cov.specs.Rules.{KeepsRules}
use Rattle.mls_cov.proofs.Bounds.{products_small}
use Rattle.mls_cov.proofs.Squares.{twice_product}
use Rattle.mls_field.specs.ColumnSums.{sums_size}
use Rattle.mls_field.specs.PackedCells.{kept_cell, CellWithin}
use Rattle.mls_field.specs.Taken.{column_in, columns_in}
use Rattle.mls_field.proofs.Rows.{length-below}

-- ---- lists by place
all_push : {A : Type 0} (Is : ℕ → A → Type 0) (xs : List A) (i : ℕ) (y : A) → AllFrom Is after_one i xs → Is (i + length xs) y → AllFrom Is after_one i (xs ++ y ∷ [])
all_push Is [] i y all is = (subst (λ (m : ℕ). Is m y) (let e : i + 0 ≡ i = omega arith in e) is, tt)
all_push Is (x ∷ xs) i y all is = (all.0, all_push Is xs (i + 1) y all.1 (subst (λ (m : ℕ). Is m y) (let e : i + suc (length xs) ≡ i + 1 + length xs = omega arith in e) is))

pub all_below : {A : Type 0} (Is : ℕ → A → Type 0) (f : ℕ → A) (n : ℕ) → ((k : ℕ) → k < n → Is k (f k)) → AllFrom Is after_one 0 (map f (below n))
all_below Is f zero h = tt
all_below Is f (suc n) h =
    let size : 0 + length (map f (below n)) ≡ n = omega (arith, length-map (below n) f, length-below n) in
    subst (AllFrom Is after_one 0) (sym (map-append f (below n) (n ∷ [])))
    (all_push Is (map f (below n)) 0 (f n) (all_below Is f n (λ k low. h k (omega (arith, low)))) (subst (λ (m : ℕ). Is m (f n)) (sym size) (h n (omega arith))))

pub same_maps : {A : Type 0} (f g : ℕ → A) (n : ℕ) → ((i : ℕ) → i < n → f i ≡ g i) → map f (below n) ≡ map g (below n)
same_maps f g zero h = refl
same_maps f g (suc n) h =
    map-append f (below n) (n ∷ []) ∙
    (ap (λ xs. xs ++ f n ∷ []) (same_maps f g n (λ i low. h i (omega (arith, low)))) ∙ (ap (λ x. map g (below n) ++ x ∷ []) (h n (omega arith)) ∙ sym (map-append g (below n) (n ∷ []))))

falls : (xs : List ℕ) (most : ℕ) → get_or xs 0 0 ≤ most → ((i : ℕ) → get_or xs (i + 1) 0 ≤ get_or xs i 0) → AllFrom (λ m number. number ≤ m) most_after most xs
falls [] most first falling = tt
falls (x ∷ xs) most first falling = (first, falls xs x (falling 0) (λ i. subst (λ (m : ℕ). get_or (x ∷ xs) m 0 ≤ get_or xs i 0) (let e : suc i + 1 ≡ suc (i + 1) = omega arith in e) (falling (suc i))))

-- ---- the products
take_four : (n : ℕ) (xs : List ℕ) → n + 4 ≤ length xs → take (suc (suc (suc (suc n)))) xs ≡ take n xs ++ get_or xs n 0 ∷ get_or xs (suc n) 0 ∷ get_or xs (suc (suc n)) 0 ∷ get_or xs (suc (suc (suc n))) 0 ∷ []
take_four zero (a ∷ b ∷ c ∷ d ∷ xs) h = refl
take_four zero (a ∷ b ∷ c ∷ []) h = absurd (omega (arith, h))
take_four zero (a ∷ b ∷ []) h = absurd (omega (arith, h))
take_four zero (a ∷ []) h = absurd (omega (arith, h))
take_four zero [] h = absurd (omega (arith, h))
take_four (suc n) (x ∷ xs) h = ap (λ ys. x ∷ ys) (take_four n xs (omega (arith, h)))
take_four (suc n) [] h = absurd (omega (arith, h))

abbrev outputs_in : List ℕ → List ℕ → List ℕ
outputs_in sums rest = get_or sums 0 0 ∷ get_or sums 1 0 ∷ get_or sums 2 0 ∷ get_or sums 3 0 ∷ rest

pub front_columns : (p : ℕ) (sums : List ℕ) → 4 + 4 * p ≤ length sums → take (4 + 4 * p) sums ≡ outputs_in sums (joined (columns_in sums p))
front_columns zero sums h = take_four 0 sums (omega (arith, h))
front_columns (suc p) sums h =
    let at = 4 + 4 * p in
    let next : 4 + 4 * suc p ≡ suc (suc (suc (suc at))) = omega arith in
    let more : joined (columns_in sums (suc p)) ≡ joined (columns_in sums p) ++ column_in sums p =
    ap joined (map-append (column_in sums) (below p) (p ∷ [])) ∙ flat_map-append (λ (xs : List ℕ). xs) (columns_in sums p) (column_in sums p ∷ []) in
    let e1 : suc at ≡ at + 1 = omega arith in
    let e2 : suc (suc at) ≡ at + 2 = omega arith in
    let e3 : suc (suc (suc at)) ≡ at + 3 = omega arith in
    let four : take at sums ++ get_or sums at 0 ∷ get_or sums (suc at) 0 ∷ get_or sums (suc (suc at)) 0 ∷ get_or sums (suc (suc (suc at))) 0 ∷ [] ≡ take at sums ++ column_in sums p =
    λ i. take at sums ++ get_or sums at 0 ∷ get_or sums (e1 i) 0 ∷ get_or sums (e2 i) 0 ∷ get_or sums (e3 i) 0 ∷ [] in
    ap (λ m. take m sums) next ∙ (take_four at sums (omega (arith, h)) ∙ four ∙ (ap (λ xs. xs ++ column_in sums p) (front_columns p sums (omega (arith, h))) ∙ ap (outputs_in sums) (sym more)))

-- ---- the rules
both_spread : (n a b aa bb : ℕ) → a * a ≤ n * aa → b * b ≤ n * bb → (a + b) * (a + b) ≤ 2 * n * (aa + bb)
both_spread n a b aa bb f g = omega (arith, f, g, twice_product a b)

is_column : (p n k : ℕ) (sums : List ℕ) → n ≤ 65535 → k < p → KeepsRules n p sums → IsColumn n (record { a = get_or sums 0 0; b = get_or sums 1 0; aa = get_or sums 2 0; bb = get_or sums 3 0 }) (column_in sums k)
is_column p n k sums few k_in h =
    let c = h.columns k k_in in
    record {
      x = get_or sums (4 + 4 * k) 0;
      xx = get_or sums (4 + 4 * k + 1) 0;
      ax = get_or sums (4 + 4 * k + 2) 0;
      bx = get_or sums (4 + 4 * k + 3) 0;
      is = refl;
      first = c.sums_in.first;
      second = c.sums_in.second;
      spread = c.sums_in.spread;
      with_a = record { fits = omega (arith, products_small n _ _ _ _ _ few h.a c.sums_in c.with_a); none = c.with_a.none; within = c.with_a.within };
      with_b = record { fits = omega (arith, products_small n _ _ _ _ _ few h.b c.sums_in c.with_b); none = c.with_b.none; within = c.with_b.within };
    }

pub is_cell : (s : Sizes) (n : ℕ) (sums ends numbers : List ℕ) → n ≤ 65535 → length sums ≡ sums_size s.parameters → length numbers ≡ length s.thresholds → CellWithin s.parameters n sums ends numbers → IsCell s n (kept_cell s.parameters n sums ends numbers)
is_cell s n sums ends numbers few long long' h =
    let p = s.parameters in
    let rules = h.sums_in.products in
    let a = rules.a in
    let b = rules.b in
    record {
      rows = refl;
      powers = record {
        first = omega (arith, a.first, b.first);
        second = omega (arith, a.second, b.second);
        spread = both_spread n (get_or sums 0 0) (get_or sums 1 0) (get_or sums 2 0) (get_or sums 3 0) a.spread b.spread;
        third = h.sums_in.powers.third;
        fourth = h.sums_in.powers.fourth;
      };
      extrema = record {
        least_fits = h.ends_in.least_small;
        greatest_fits = h.ends_in.greatest_small;
        none_least = λ z. h.ends_in.rules.none_least (omega (arith, z));
        none_greatest = λ z. h.ends_in.rules.none_greatest (omega (arith, z));
        some = λ m. h.ends_in.rules.some (omega (arith, m));
      };
      thresholds = long';
      above = falls numbers (2 * n) (h.numbers_in.few 0) h.numbers_in.falling;
      totals = record { a = get_or sums 0 0; b = get_or sums 1 0; aa = get_or sums 2 0; bb = get_or sums 3 0 };
      columns = columns_in sums p;
      products = front_columns p sums (omega (arith, long));
      first = record { a = a.first; b = b.first; firsts = refl; aa = a.second; spread_a = a.spread; bb = b.second; spread_b = b.spread; seconds = refl };
      parameters = length-map (below p) (column_in sums) ∙ length-below p;
      each = all_below (λ i column. IsColumn n (record { a = get_or sums 0 0; b = get_or sums 1 0; aa = get_or sums 2 0; bb = get_or sums 3 0 }) column) (column_in sums) p (λ k k_in. is_column p n k sums few k_in rules);
    }
