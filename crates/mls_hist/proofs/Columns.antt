-- Samples of a place, one after the other.
use Rattle.std.proofs.Common.{◌≡◌, ℕ, suc, ◌+◌, ◌*◌, ◌<◌, ◌≤◌, cond, List, [], ◌∷◌, ◌++◌, length, get_or, ap, ◌∙◌, refl, arith}
use Rattle.std.proofs.lemmas.List.{map-append, length-map}
use Rattle.std.proofs.lemmas.List.Sums.{sum_by_push, count_by-le-length}
use Rattle.mls_model.specs.Numbers.{below}
use Rattle.mls_field.proofs.Rows.{length-below, same_entries}
use Rattle.mls_hist.specs.Bins.{is_in, count_in}
use Rattle.mls_hist.specs.Waiting.{column}

-- 1 where a bin holds a sample, else 0
abbrev pub one : ℕ → ℕ → ℕ
one bin x = cond (is_in bin x) 1 0

pub count-none : (bin : ℕ) → count_in bin [] ≡ 0
unfolding count_in
count-none bin = refl

pub count-more : (bin : ℕ) (xs : List ℕ) (x : ℕ) → count_in bin (xs ++ x ∷ []) ≡ count_in bin xs + one bin x
unfolding count_in
count-more bin xs x = sum_by_push (λ y. one bin y) xs x

pub count-few : (bin : ℕ) (xs : List ℕ) → count_in bin xs ≤ length xs
unfolding count_in
count-few bin xs = count_by-le-length (is_in bin) xs

pub column-none : (places : ℕ) (samples : List ℕ) (at : ℕ) → column places samples at 0 ≡ []
unfolding column
column-none places samples at = refl

pub column-more : (places : ℕ) (samples : List ℕ) (at n : ℕ) → column places samples at (suc n) ≡ column places samples at n ++ get_or samples (at + n * places) 0 ∷ []
unfolding column
column-more places samples at n = map-append (λ k. get_or samples (at + k * places) 0) (below n) (n ∷ [])

pub column-long : (places : ℕ) (samples : List ℕ) (at n : ℕ) → length (column places samples at n) ≡ n
unfolding column
column-long places samples at n = length-map (below n) (λ k. get_or samples (at + k * places) 0) ∙ length-below n

pub column-same : (places : ℕ) (xs ys : List ℕ) (at n : ℕ) → ((k : ℕ) → k < n → get_or xs (at + k * places) 0 ≡ get_or ys (at + k * places) 0) → column places xs at n ≡ column places ys at n
unfolding column
column-same places xs ys at n same = same_entries (λ k. get_or xs (at + k * places) 0) (λ k. get_or ys (at + k * places) 0) n same

-- a bin's count of one sample more, and of two
pub counted-more : (bin places : ℕ) (samples : List ℕ) (at n : ℕ) → count_in bin (column places samples at (n + 1)) ≡ count_in bin (column places samples at n) + one bin (get_or samples (at + n * places) 0)
counted-more bin places samples at n =
    ap (λ m. count_in bin (column places samples at m)) (let e : n + 1 ≡ suc n = omega arith in e) ∙ (ap (count_in bin) (column-more places samples at n) ∙ count-more bin (column places samples at n) (get_or samples (at + n * places) 0))

pub counted-two : (bin places : ℕ) (samples : List ℕ) (at n m : ℕ) → m ≡ n + 2 → count_in bin (column places samples at m) ≡ count_in bin (column places samples at n) + one bin (get_or samples (at + n * places) 0) + one bin (get_or samples (at + (n + 1) * places) 0)
counted-two bin places samples at n m e =
    let first = counted-more bin places samples at n in
    let second = counted-more bin places samples at (n + 1) in
    ap (λ k. count_in bin (column places samples at k)) (let f : m ≡ n + 1 + 1 = omega (arith, e) in f) ∙ omega (arith, first, second)

pub counted-few : (bin places : ℕ) (samples : List ℕ) (at n : ℕ) → count_in bin (column places samples at n) ≤ n
counted-few bin places samples at n = omega (arith, count-few bin (column places samples at n), column-long places samples at n)
