-- The sum of the counts of all bins.
use Rattle.std.proofs.Common.{◌≡◌, ◌≢◌, ℕ, zero, suc, ◌+◌, ◌<◌, ◌≤◌, List, length, map, take, get_or, inl, inr, ap, ◌∙◌, refl, subst, arith}
use Rattle.std.specs.Prelude.{sum}
use Rattle.std.proofs.lemmas.Bool.{cases_lt, eq-eqb, ne_eqb, cond-true, cond-false}
use Rattle.std.proofs.lemmas.List.{length-map}
use Rattle.std.proofs.lemmas.List.Sums.{get_or-le-sum_by}
use Rattle.mls_model.specs.Numbers.{below}
use Rattle.mls_field.proofs.Rows.{length-below, entry_of, same_entries}
use Rattle.mls_hist.specs.Bins.{bin_of, count_in, bins_of}
use Rattle.mls_hist.specs.Histograms.{count_at, counts_at}
use Rattle.mls_hist.proofs.Columns.{one}
use Rattle.std.specs.Int.{w32}
use Rattle.mls_ckpt.specs.Reading.{text, texts}
use Rattle.mls_field.specs.PutBytes.{Grown}
use Rattle.mls_hist.specs.HistPart.{counts_text}
use Rattle.mls_hist.proofs.Sums.{total, total-more, take_whole}

pub total-same : (f g : ℕ → ℕ) (n : ℕ) → ((i : ℕ) → i < n → f i ≡ g i) → total f n ≡ total g n
total-same f g n same = ap sum (same_entries f g n same)

pub total-zero : (f : ℕ → ℕ) (n : ℕ) → ((i : ℕ) → i < n → f i ≡ 0) → total f n ≡ 0
total-zero f zero none = refl
total-zero f (suc n) none =
    let last : f n ≡ 0 = none n (omega arith) in
    let others : total f n ≡ 0 = total-zero f n (λ i low. none i (omega (arith, low))) in
    total-more f n ∙ omega (arith, last, others)

pub in_total : (f : ℕ → ℕ) (n i : ℕ) → i < n → f i ≤ total f n
in_total f n i low =
    let long : length (map f (below n)) ≡ n = length-map (below n) f ∙ length-below n in
    let there : get_or (map f (below n)) i 0 ≡ f i = entry_of f n i low in
    let most : get_or (map f (below n)) i 0 ≤ total f n = get_or-le-sum_by (λ x. x) (map f (below n)) i 0 (omega (arith, long, low)) in
    omega (arith, there, most)

-- a sample is held by one bin
pub one-other : (bin x : ℕ) → bin_of x ≢ bin → one bin x ≡ 0
one-other bin x apart = cond-false _ _ _ (ne_eqb (bin_of x) bin apart)

pub one-own : (bin x : ℕ) → bin_of x ≡ bin → one bin x ≡ 1
one-own bin x is = cond-true _ _ _ (eq-eqb (bin_of x) bin is)

no_hit : (n x : ℕ) → n ≤ bin_of x → total (λ bin. one bin x) n ≡ 0
no_hit n x high = total-zero (λ bin. one bin x) n (λ i low. one-other i x (λ e. omega (arith, e, low, high)))

pub one_hit : (n x : ℕ) → bin_of x < n → total (λ bin. one bin x) n ≡ 1
one_hit zero x low = absurd (omega (arith, low))
one_hit (suc n) x low = total-more (λ bin. one bin x) n ∙ elim (cases_lt (bin_of x) n) [
  | inl before ↦ (
      let others : total (λ bin. one bin x) n ≡ 1 = one_hit n x before in
      let last : one n x ≡ 0 = one-other n x (λ e. omega (arith, e, before)) in
      omega (arith, others, last)
      )
  | inr after ↦ (
      let others : total (λ bin. one bin x) n ≡ 0 = no_hit n x after in
      let last : one n x ≡ 1 = one-own n x (omega (arith, low, after)) in
      omega (arith, others, last)
      )
]

pub total-two : (f g h k : ℕ → ℕ) (n : ℕ) → ((i : ℕ) → i < n → f i ≡ g i + h i + k i) → total f n ≡ total g n + total h n + total k n
total-two f g h k zero same = refl
total-two f g h k (suc n) same =
    let others : total f n ≡ total g n + total h n + total k n = total-two f g h k n (λ i low. same i (omega (arith, low))) in
    let last : f n ≡ g n + h n + k n = same n (omega arith) in
    let e1 = total-more f n in
    let e2 = total-more g n in
    let e3 = total-more h n in
    let e4 = total-more k n in
    omega (arith, others, last, e1, e2, e3, e4)

pub bin_low : (x : ℕ) → x ≤ 65535 → bin_of x < 64
bin_low x small = omega (arith, small)

-- two samples more
pub total_grows : (old new : ℕ → ℕ) (a b : ℕ) → a ≤ 65535 → b ≤ 65535 → ((bin : ℕ) → bin < 64 → new bin ≡ old bin + one bin a + one bin b) → total new 64 ≡ total old 64 + 2
total_grows old new a b small_a small_b more =
    let e = total-two new old (λ bin. one bin a) (λ bin. one bin b) 64 more in
    let f = one_hit 64 a (bin_low a small_a) in
    let g = one_hit 64 b (bin_low b small_b) in
    omega (arith, e, f, g)

-- the counts of a list are those of its bins
pub bins_are : (f : ℕ → ℕ) (xs : List ℕ) → ((bin : ℕ) → bin < 64 → f bin ≡ count_in bin xs) → map f (below 64) ≡ bins_of xs
unfolding bins_of
bins_are f xs same = same_entries f (λ bin. count_in bin xs) 64 same

pub counts_opened : (places : ℕ) (waiting bins samples : List ℕ) (plane place : ℕ) → counts_at places waiting bins samples plane place ≡ map (count_at places waiting bins samples plane place) (below 64)
unfolding counts_at
counts_opened places waiting bins samples plane place = refl

-- bytes that grew by all counts of a cell
pub counts_grown : (counts : List ℕ) (n : ℕ) (old new : List ℕ) → length counts ≤ n → Grown old new (texts (text w32) (take n counts)) → Grown old new (counts_text counts)
unfolding counts_text
counts_grown counts n old new all grown = subst (λ (xs : List ℕ). Grown old new (texts (text w32) xs)) (take_whole counts n all) grown
