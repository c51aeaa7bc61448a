-- Numbers that were copied into columns of 64 places.
use Rattle.std.proofs.Common.{◌≡◌, ℕ, zero, suc, ◌+◌, ◌-◌, ◌*◌, ◌<◌, ◌≤◌, List, length, slice_index, min, max, inl, inr, ap, ◌∙◌, sym, subst, arith}
use Rattle.mls_field.specs.Copied.{copied, Added, Changed, FourGrown, FourStay, HaveRoom}
use Rattle.std.proofs.lemmas.Bool.{cases_lt}
use Rattle.std.proofs.lemmas.List.{length-map}
use Rattle.mls_model.specs.Numbers.{below}
use Rattle.mls_field.specs.ColumnSums.{sums_size, of_column, column_at, sums_step}
use Rattle.mls_field.specs.OneCell.{Stepped}
use Rattle.mls_field.specs.OutputSteps.{ends_step}
use Rattle.mls_field.proofs.Rows.{length-below, entry_of}
use Rattle.mls_field.proofs.FourAtATime.{four}

-- what four additions, one in each column, make of the numbers at a place
pub four_grown : (column count k : ℕ) (s0 s1 s2 s3 s4 : List ℕ) (m0 m1 m2 m3 more : ℕ → ℕ) (a0 a1 a2 a3 : ℕ) → k < count → count ≤ 64 → a0 ≡ column * 64 → a1 ≡ column * 64 + 64 → a2 ≡ column * 64 + 128 → a3 ≡ column * 64 + 192 → Added a0 count s0 s1 m0 → Added a1 count s1 s2 m1 → Added a2 count s2 s3 m2 → Added a3 count s3 s4 m3 → m0 k ≡ more 0 → m1 k ≡ more 1 → m2 k ≡ more 2 → m3 k ≡ more 3 → FourGrown column k s0 s4 more
four_grown column count k s0 s1 s2 s3 s4 m0 m1 m2 m3 more a0 a1 a2 a3 k_in few e0 e1 e2 e3 x0 x1 x2 x3 i0 i1 i2 i3 =
    four (λ d. slice_index s4 ((column + d) * 64 + k) ≡ slice_index s0 ((column + d) * 64 + k) + more d)
    (let i = (column + 0) * 64 + k in let e : i ≡ a0 + k = omega (arith, e0) in
    omega (arith, x3.before i (omega (arith, e3, k_in, few)), x2.before i (omega (arith, e2, k_in, few)), x1.before i (omega (arith, e1, k_in, few)), ap (slice_index s1) e, x0.there k k_in, ap (slice_index s0) e, i0))
    (let i = (column + 1) * 64 + k in let e : i ≡ a1 + k = omega (arith, e1) in
    omega (arith, x3.before i (omega (arith, e3, k_in, few)), x2.before i (omega (arith, e2, k_in, few)), ap (slice_index s2) e, x1.there k k_in, ap (slice_index s1) e, x0.behind i (omega (arith, e0, k_in, few)), i1))
    (let i = (column + 2) * 64 + k in let e : i ≡ a2 + k = omega (arith, e2) in
    omega (arith, x3.before i (omega (arith, e3, k_in, few)), ap (slice_index s3) e, x2.there k k_in, ap (slice_index s2) e, x1.behind i (omega (arith, e1, k_in, few)), x0.behind i (omega (arith, e0, k_in, few)), i2))
    (let i = (column + 3) * 64 + k in let e : i ≡ a3 + k = omega (arith, e3) in
    omega (arith, ap (slice_index s4) e, x3.there k k_in, ap (slice_index s3) e, x2.behind i (omega (arith, e2, k_in, few)), x1.behind i (omega (arith, e1, k_in, few)), x0.behind i (omega (arith, e0, k_in, few)), i3))

-- the other numbers stay
pub four_stay : (column count : ℕ) (s0 s1 s2 s3 s4 : List ℕ) (m0 m1 m2 m3 : ℕ → ℕ) (a0 a1 a2 a3 : ℕ) → count ≤ 64 → a0 ≡ column * 64 → a1 ≡ column * 64 + 64 → a2 ≡ column * 64 + 128 → a3 ≡ column * 64 + 192 → Added a0 count s0 s1 m0 → Added a1 count s1 s2 m1 → Added a2 count s2 s3 m2 → Added a3 count s3 s4 m3 → FourStay column s0 s4
four_stay column count s0 s1 s2 s3 s4 m0 m1 m2 m3 a0 a1 a2 a3 few e0 e1 e2 e3 x0 x1 x2 x3 = record {
  before = λ i low. x3.before i (omega (arith, e3, low)) ∙ (x2.before i (omega (arith, e2, low)) ∙ (x1.before i (omega (arith, e1, low)) ∙ x0.before i (omega (arith, e0, low))));
  behind = λ i high. x3.behind i (omega (arith, e3, high, few)) ∙ (x2.behind i (omega (arith, e2, high, few)) ∙ (x1.behind i (omega (arith, e1, high, few)) ∙ x0.behind i (omega (arith, e0, high, few))));
}

-- there is room in the column whose turn it is, since the columns before it alone have grown
pub room_at : (column count : ℕ) (sums now : List ℕ) (most : ℕ → ℕ) → HaveRoom column count sums most → (d at : ℕ) → d < 4 → at ≡ (column + d) * 64 → ((i : ℕ) → at ≤ i → slice_index now i ≡ slice_index sums i) → (k : ℕ) → k < count → slice_index now (at + k) + most d < 18446744073709551616
room_at column count sums now most room d at d_in e same k k_in =
    subst (λ (n : ℕ). n + most d < 18446744073709551616) (sym (same (at + k) (omega arith) ∙ ap (slice_index sums) (let i : at + k ≡ (column + d) * 64 + k = omega (arith, e) in i))) (room d k d_in k_in)

-- the numbers of a cell
pub entry : (size place : ℕ) (columns : List ℕ) (c : ℕ) → c < size → slice_index (copied size columns place) c ≡ slice_index columns (c * 64 + place)
entry size place columns c h = entry_of (λ d. slice_index columns (d * 64 + place)) size c h

pub length-copied : (size place : ℕ) (columns : List ℕ) → length (copied size columns place) ≡ size
length-copied size place columns = length-map (below size) (λ c. slice_index columns (c * 64 + place)) ∙ length-below size

-- four sums more of a cell have the row
pub stepped_four : (p column i : ℕ) (old mid new row : List ℕ) (more : ℕ → ℕ) → column + 4 ≤ sums_size p → i < 64 → Stepped (sums_step p) column row (copied (sums_size p) old i) (copied (sums_size p) mid i) → ((j : ℕ) → column * 64 ≤ j → slice_index mid j ≡ slice_index old j) → FourGrown column i mid new more → FourStay column mid new → ((d : ℕ) → d < 4 → more d ≡ of_column (column_at p (column + d)) row) → Stepped (sums_step p) (column + 4) row (copied (sums_size p) old i) (copied (sums_size p) new i)
stepped_four p column i old mid new row more fits i_in done rest grown stay is =
    let size = sums_size p in
    record {
      each = λ c below. elim (cases_lt c column) [
        | inl low ↦ entry size i new c (omega (arith, fits, below)) ∙ (stay.before (c * 64 + i) (omega (arith, low, i_in)) ∙ (sym (entry size i mid c (omega (arith, fits, below))) ∙ done.each c low))
        | inr not ↦ (
            let d = c - column in
            let d_in : d < 4 = omega (arith, below, not) in
            let e : column + d ≡ c = omega (arith, not) in
            let inside : column + d < size = omega (arith, fits, d_in) in
            subst (λ (n : ℕ). slice_index (copied size new i) n ≡ sums_step p n row (slice_index (copied size old i) n)) e
            (entry size i new (column + d) inside ∙ (grown d d_in ∙ (ap (λ (n : ℕ). n + more d) (rest ((column + d) * 64 + i) (omega arith) ∙ sym (entry size i old (column + d) inside)) ∙ ap (λ (n : ℕ). slice_index (copied size old i) (column + d) + n) (is d d_in))))
            )
      ];
    }

-- the least and the greatest sample of a cell have the row
pub stepped_ends : (k a b count : ℕ) (old mid new samples row : List ℕ) → k < count → count ≤ 64 → Changed 0 count old mid (λ i n. min (min n (slice_index samples (a + i))) (slice_index samples (b + i))) → Changed 64 count mid new (λ i n. max (max n (slice_index samples (a + i))) (slice_index samples (b + i))) → slice_index row 0 ≡ slice_index samples (a + k) → slice_index row 1 ≡ slice_index samples (b + k) → Stepped ends_step 2 row (copied 2 old k) (copied 2 new k)
stepped_ends k a b count old mid new samples row k_in few least greatest first second = record { each = each }
  where
    each : (c : ℕ) → c < 2 → slice_index (copied 2 new k) c ≡ ends_step c row (slice_index (copied 2 old k) c)
    each zero low =
        greatest.before (0 * 64 + k) (omega (arith, k_in, few)) ∙ (least.there k k_in ∙
        (λ i. min (min (slice_index old (0 * 64 + k)) (sym first i)) (sym second i)))
    each (suc zero) low =
        greatest.there k k_in ∙ (λ i. max (max (least.behind (1 * 64 + k) (omega (arith, k_in, few)) i) (sym first i)) (sym second i))
    each (suc (suc c)) low = absurd (omega (arith, low))
