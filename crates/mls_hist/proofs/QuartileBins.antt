-- The bin of a quartile: what the counts of bins say of it, and that it is the sorted list's.
use Rattle.std.proofs.Common.{◌≡◌, ◌≢◌, ℕ, zero, suc, ◌+◌, ◌-◌, ◌*◌, ◌<◌, ◌≤◌, ◌==◌, Bool, true, false, not, ◌&&◌, cond, List, [], ◌∷◌, length, take, get_or, nat_lt, nat_le, set, inl, inr, ap, ◌∙◌, refl, sym, subst, arith, get_or-set_same, get_or-set_other}
use Rattle.std.specs.Prelude.{sum, sum_by, count_by, find, Option, Some, None}
use Rattle.std.specs.List.{position_or_len}
use Rattle.std.specs.List.Sorted.{IsPermutation}
use Rattle.std.specs.Option.{option_map}
use Rattle.std.proofs.lemmas.Bool.{cases_lt, cases_order}
use Rattle.std.proofs.lemmas.Bool.Decides.{nat_tests}
use Rattle.std.proofs.lemmas.Nat.{mul-le}
use Rattle.std.proofs.lemmas.List.Sums.{sum_by-cons, fails_before_first, passes_at_first, prefix_len-le-length, position_or_len_is, sum_by_more}
use Rattle.std.proofs.lemmas.List.Sorted.{sum_by-IsPermutation}
use Rattle.mls_model.specs.Numbers.{below}
use Rattle.mls_hist.specs.Bins.{bin_of, is_in, count_in, bins_of}
use Rattle.mls_hist.specs.Quartiles.{quartile_number, has_number, numbered, quartile, bracket, reaches, first_bin, bracket_in}
use Rattle.mls_hist.proofs.Sums.{length-below, get-below, take-map, total, total-more}

-- ---- sums over lists, by what is said of each element
sum-two : {A : Type 0} (f g h : A → ℕ) (xs : List A) → ((x : A) → f x ≡ g x + h x) → sum_by f xs ≡ sum_by g xs + sum_by h xs
sum-two f g h [] same = refl
sum-two f g h (x ∷ xs) same =
    let rest = sum-two f g h xs same in
    let here = same x in
    let e1 = sum_by-cons f x xs in
    let e2 = sum_by-cons g x xs in
    let e3 = sum_by-cons h x xs in
    omega (arith, rest, here, e1, e2, e3)

sum-none : {A : Type 0} (f : A → ℕ) (xs : List A) → ((x : A) → f x ≡ 0) → sum_by f xs ≡ 0
sum-none f [] none = refl
sum-none f (x ∷ xs) none =
    let rest = sum-none f xs none in
    let here = none x in
    let e = sum_by-cons f x xs in
    omega (arith, rest, here, e)

sum-less : {A : Type 0} (f g : A → ℕ) (xs : List A) → ((x : A) → f x ≤ g x) → sum_by f xs ≤ sum_by g xs
sum-less f g [] less = omega arith
sum-less f g (x ∷ xs) less =
    let rest = sum-less f g xs less in
    let here = less x in
    let e1 = sum_by-cons f x xs in
    let e2 = sum_by-cons g x xs in
    omega (arith, rest, here, e1, e2)

implies_less : (b c : Bool) → (b ≡ true → c ≡ true) → cond b 1 0 ≤ cond c 1 0
implies_less false c h = omega arith
implies_less true true h = omega arith
implies_less true false h = absurd (let clash : false ≡ true = h refl in cc)

pub count-implied : {A : Type 0} (p q : A → Bool) (xs : List A) → ((x : A) → p x ≡ true → q x ≡ true) → count_by p xs ≤ count_by q xs
count-implied p q xs implied = sum-less (λ x. cond (p x) 1 0) (λ x. cond (q x) 1 0) xs (λ x. implies_less (p x) (q x) (implied x))

-- ---- tests of numbers
lt_of : (x y : ℕ) → nat_lt x y ≡ true → x < y
lt_of x y h = grind (arith, nat_tests)

of_lt : (x y : ℕ) → x < y → nat_lt x y ≡ true
of_lt x y h = grind (arith, nat_tests)

le_of : (x y : ℕ) → nat_le x y ≡ true → x ≤ y
le_of x y h = grind (arith, nat_tests)

of_le : (x y : ℕ) → x ≤ y → nat_le x y ≡ true
of_le x y h = grind (arith, nat_tests)

not_le : (x y : ℕ) → nat_le x y ≡ false → y < x
not_le x y h = grind (arith, nat_tests)

one_more : (b n : ℕ) → cond (nat_lt b (suc n)) 1 0 ≡ cond (nat_lt b n) 1 0 + cond (b == n) 1 0
one_more b n = grind (arith, nat_tests)

abbrev one_or_none : Bool → ℕ
one_or_none b = cond b 1 0

none_below : (b : ℕ) → one_or_none (nat_lt b 0) ≡ 0
none_below b = grind (arith, nat_tests)

-- ---- the counts of the first bins
-- how many samples the first so many bins hold
abbrev pub held : List ℕ → ℕ → ℕ
held xs n = count_by (λ x. nat_lt (bin_of x) n) xs

count_opened : (bin : ℕ) (xs : List ℕ) → count_in bin xs ≡ count_by (is_in bin) xs
unfolding count_in
count_opened bin xs = refl

held-none : (xs : List ℕ) → held xs 0 ≡ 0
held-none xs = sum-none (λ x. cond (nat_lt (bin_of x) 0) 1 0) xs (λ x. none_below (bin_of x))

held_is : (xs : List ℕ) (n : ℕ) → total (λ bin. count_in bin xs) n ≡ held xs n
held_is xs zero = sym (held-none xs)
held_is xs (suc n) =
    let before = held_is xs n in
    let more = total-more (λ bin. count_in bin xs) n in
    let here = count_opened n xs in
    let two = sum-two (λ x. cond (nat_lt (bin_of x) (suc n)) 1 0) (λ x. cond (nat_lt (bin_of x) n) 1 0) (λ x. cond (is_in n x) 1 0) xs (λ x. one_more (bin_of x) n) in
    omega (arith, before, more, here, two)

-- the counts of the first bins add up to that
first_counts : (xs : List ℕ) (n : ℕ) → n ≤ 64 → sum (take n (bins_of xs)) ≡ held xs n
unfolding bins_of
first_counts xs n low = ap sum (take-map (λ bin. count_in bin xs) n 64 low) ∙ held_is xs n

all_counts : (xs : List ℕ) → sum (bins_of xs) ≡ held xs 64
unfolding bins_of
all_counts xs = held_is xs 64

-- ---- the sample with a number
abbrev pub smaller : List ℕ → ℕ → ℕ
smaller xs v = count_by (λ x. nat_lt x v) xs

abbrev pub at_most : List ℕ → ℕ → ℕ
at_most xs v = count_by (λ x. nat_le x v) xs

pub record HasNumber (xs : List ℕ) (k v : ℕ) : Type 0 where
  pub fewer : smaller xs v < k
  pub enough : k ≤ at_most xs v

both_true : (a b : Bool) → (a && b) ≡ true → (a ≡ true) × (b ≡ true)
both_true true b h = (refl, h)
both_true false b h = absurd (let clash : ⊥ = cc in clash)

true_both : (a b : Bool) → a ≡ true → b ≡ true → (a && b) ≡ true
true_both true b one other = other
true_both false b one other = absurd (let clash : ⊥ = cc in clash)

number_of_test : (xs : List ℕ) (k v : ℕ) → has_number xs k v ≡ true → HasNumber xs k v
number_of_test xs k v h =
    let parts = both_true (nat_lt (smaller xs v) k) (nat_le k (at_most xs v)) h in
    record { fewer = lt_of _ _ parts.0; enough = le_of _ _ parts.1 }

test_of_number : (xs : List ℕ) (k v : ℕ) → HasNumber xs k v → has_number xs k v ≡ true
test_of_number xs k v h = true_both _ _ (of_lt _ _ h.fewer) (of_le _ _ h.enough)

le_is_lt : (x n : ℕ) → cond (nat_lt x (suc n)) 1 0 ≡ cond (nat_le x n) 1 0 + 0
le_is_lt x n = grind (arith, nat_tests)

smaller-more : (xs : List ℕ) (n : ℕ) → smaller xs (suc n) ≡ at_most xs n
smaller-more xs n =
    let two = sum-two (λ x. cond (nat_lt x (suc n)) 1 0) (λ x. cond (nat_le x n) 1 0) (λ x. 0) xs (λ x. le_is_lt x n) in
    let none = sum-none (λ x. 0) xs (λ x. refl) in
    omega (arith, two, none)

-- some number has it
exists : (xs : List ℕ) (k m : ℕ) → 1 ≤ k → k ≤ at_most xs m → (v : ℕ) × HasNumber xs k v
exists xs k zero some enough =
    let none : smaller xs 0 ≡ 0 = sum-none (λ x. cond (nat_lt x 0) 1 0) xs none_below in
    (0, record { fewer = omega (arith, none, some); enough = enough })
exists xs k (suc m) some enough = elim (cases_lt (at_most xs m) k) [
  | inl less ↦ (suc m, record { fewer = omega (arith, less, smaller-more xs m); enough = enough })
  | inr more ↦ exists xs k m some more
]

-- where a list has no element that passes, a number that passes isn't among them
apart_counts : (p : ℕ → Bool) (v : ℕ) (xs : List ℕ) → p v ≡ true → find p xs ≡ None → at_most xs v ≤ smaller xs v
apart_counts p v [] is none = omega arith
apart_counts p v (x ∷ xs) is none = by_case (p x) refl (λ e. apart_counts p v xs is (sym (ap (λ c. cond c (Some x) (find p xs)) e) ∙ none))
  where
    by_case : (b : Bool) → p x ≡ b → (p x ≡ false → at_most xs v ≤ smaller xs v) → at_most (x ∷ xs) v ≤ smaller (x ∷ xs) v
    by_case true e rest = absurd (let found : find p (x ∷ xs) ≡ Some x = ap (λ c. cond c (Some x) (find p xs)) e in let clash : ⊥ = cc in clash)
    by_case false e rest =
        let others = rest e in
        let apart : x ≢ v = λ same. absurd (let f : p x ≡ true = ap p same ∙ is in let clash : ⊥ = cc in clash) in
        let here : one_or_none (nat_le x v) ≤ one_or_none (nat_lt x v) = grind (arith, nat_tests) in
        let e1 = sum_by-cons (λ y. one_or_none (nat_le y v)) x xs in
        let e2 = sum_by-cons (λ y. one_or_none (nat_lt y v)) x xs in
        omega (arith, others, here, e1, e2)

passes : (p : ℕ → Bool) (xs : List ℕ) (v : ℕ) → find p xs ≡ Some v → p v ≡ true
passes p [] v e = absurd (let clash : ⊥ = cc in clash)
passes p (x ∷ xs) v e = by_case (p x) refl (λ is. passes p xs v (sym (ap (λ c. cond c (Some x) (find p xs)) is) ∙ e))
  where
    same_some : (a b : ℕ) → ◌≡◌ {A = Option ℕ} (Some a) (Some b) → a ≡ b
    same_some a b e = cc

    by_case : (b : Bool) → p x ≡ b → (p x ≡ false → p v ≡ true) → p v ≡ true
    by_case true is rest = ap p (sym (same_some x v (sym (ap (λ c. cond c (Some x) (find p xs)) is) ∙ e))) ∙ is
    by_case false is rest = rest is

numbered_opened : (xs : List ℕ) (k : ℕ) → numbered xs k ≡ find (has_number xs k) xs
unfolding numbered
numbered_opened xs k = refl

-- the sample with a number is there, and has it
pub found : (xs : List ℕ) (k m : ℕ) → 1 ≤ k → k ≤ at_most xs m → (v : ℕ) × (numbered xs k ≡ Some v) × HasNumber xs k v
found xs k m some enough = by_case (find (has_number xs k) xs) refl
  where
    by_case : (r : Option ℕ) → find (has_number xs k) xs ≡ r → (v : ℕ) × (numbered xs k ≡ Some v) × HasNumber xs k v
    by_case None e =
        let one = exists xs k m some enough in
        absurd (omega (arith, apart_counts (has_number xs k) one.0 xs (test_of_number xs k one.0 one.1) e, one.1.fewer, one.1.enough))
    by_case (Some v) e = (v, numbered_opened xs k ∙ e, number_of_test xs k v (passes (has_number xs k) xs v e))

-- one number alone has it
one_number : (xs : List ℕ) (k v w : ℕ) → HasNumber xs k v → HasNumber xs k w → v < w → ⊥
one_number xs k v w is other less =
    let more = count-implied (λ x. nat_le x v) (λ x. nat_lt x w) xs (λ x h. of_lt x w (let e = le_of x v h in omega (arith, e, less))) in
    omega (arith, more, is.enough, other.fewer)

pub same_number : (xs : List ℕ) (k v w : ℕ) → HasNumber xs k v → HasNumber xs k w → v ≡ w
same_number xs k v w is other = elim (cases_order v w) [
  | inl same ↦ same
  | inr (inl less) ↦ absurd (one_number xs k v w is other less)
  | inr (inr more) ↦ absurd (one_number xs k w v other is more)
]

-- ---- its bin
bin_mono : (x v : ℕ) → x ≤ v → bin_of x ≤ bin_of v
bin_mono x v h = omega (arith, h)

bin_strict : (x v : ℕ) → bin_of x < bin_of v → x < v
bin_strict x v h = omega (arith, h)

bin_is : (xs : List ℕ) (k b v : ℕ) → HasNumber xs k v → held xs b < k → k ≤ held xs (b + 1) → bin_of v ≡ b
bin_is xs k b v is less enough = elim (cases_order (bin_of v) b) [
  | inl same ↦ same
  | inr (inl low) ↦ absurd (let e = count-implied (λ x. nat_le x v) (λ x. nat_lt (bin_of x) b) xs (λ x h. of_lt (bin_of x) b (let f = bin_mono x v (le_of x v h) in omega (arith, f, low))) in omega (arith, e, is.enough, less))
  | inr (inr high) ↦ absurd (let e = count-implied (λ x. nat_lt (bin_of x) (b + 1)) (λ x. nat_lt x v) xs (λ x h. of_lt x v (let f = lt_of (bin_of x) (b + 1) h in bin_strict x v (omega (arith, f, high)))) in omega (arith, e, is.fewer, enough))
]

-- the first bin that reaches a number
first_opened : (counts : List ℕ) (k : ℕ) → first_bin counts k ≡ position_or_len (reaches counts k) (below 63)
unfolding first_bin
first_opened counts k = refl

pub record IsReached (xs : List ℕ) (k b : ℕ) : Type 0 where
  pub low : b ≤ 63
  pub before : held xs b < k
  pub there : k ≤ held xs (b + 1)

reached : (xs : List ℕ) (k : ℕ) → 1 ≤ k → k ≤ held xs 64 → IsReached xs k (first_bin (bins_of xs) k)
reached xs k some enough = subst (IsReached xs k) (sym (first_opened (bins_of xs) k)) (at (position_or_len (reaches (bins_of xs) k) (below 63)) refl)
  where
    at : (b : ℕ) → b ≡ position_or_len (reaches (bins_of xs) k) (below 63) → IsReached xs k b
    at b e =
        let test = reaches (bins_of xs) k in
        let long : length (below 63) ≡ 63 = length-below 63 in
        let most : b ≤ 63 = (let f = prefix_len-le-length (λ x. not (test x)) (below 63) in omega (arith, f, long, e)) in
        let before : (i : ℕ) → i < b → held xs (i + 1) < k = λ i low.
        (let fails = fails_before_first test (below 63) i 0 (omega (arith, low, e)) in
        let is = ap test (sym (get-below 63 i 0 (omega (arith, low, most)))) ∙ fails in
        let sums = first_counts xs (i + 1) (omega (arith, low, most)) in
        omega (arith, not_le _ _ is, sums)) in
        record {
          low = most;
          before = elim (cases_lt 0 b) [
            | inl some_before ↦ (let h = before (b - 1) (omega (arith, some_before)) in subst (λ (m : ℕ). held xs m < k) (let f : b - 1 + 1 ≡ b = omega (arith, some_before) in f) h)
            | inr none ↦ subst (λ (m : ℕ). held xs m < k) (let f : 0 ≡ b = omega (arith, none) in f) (omega (arith, held-none xs, some))
          ];
          there = elim (cases_lt b 63) [
            | inl inside ↦ (
                let passed = passes_at_first test (below 63) 0 (omega (arith, inside, e, long)) in
                let is = ap test (ap (λ m. get_or (below 63) m 0) e ∙ refl) in
                let here : test b ≡ true = ap test (sym (get-below 63 b 0 inside)) ∙ (is ∙ passed) in
                let sums = first_counts xs (b + 1) (omega (arith, inside)) in
                omega (arith, le_of _ _ here, sums)
                )
            | inr last ↦ subst (λ (m : ℕ). k ≤ held xs m) (let f : 64 ≡ b + 1 = omega (arith, last, most) in f) enough
          ];
        }

-- ---- quartiles
number_bounds : (n j : ℕ) → 1 ≤ n → 1 ≤ j → j ≤ 3 → (1 ≤ quartile_number n j) × (quartile_number n j ≤ n)
number_bounds n j some least most =
    let low : n * 1 ≤ n * j = mul-le n 1 n j (omega arith) least in
    let high : n * j ≤ n * 3 = mul-le n j n 3 (omega arith) most in
    (omega (arith, low, some), omega (arith, high))

small_at_most : (x : ℕ) → nat_lt (bin_of x) 64 ≡ true → nat_le x 65535 ≡ true
small_at_most x h = of_le x 65535 (let e = lt_of (bin_of x) 64 h in omega (arith, e))

all_found : (xs : List ℕ) (k m : ℕ) → 1 ≤ k → k ≤ at_most xs m → k ≤ held xs 64 → option_map bin_of (numbered xs k) ≡ Some (first_bin (bins_of xs) k)
all_found xs k m some enough within =
    let v = found xs k m some enough in
    let is = reached xs k some within in
    ap (option_map bin_of) v.1 ∙ ap (λ b. Some b) (bin_is xs k (first_bin (bins_of xs) k) v.0 v.2 is.before is.there)

bracket_opened : (xs : List ℕ) (j : ℕ) → bracket xs j ≡ option_map bin_of (numbered xs (quartile_number (length xs) j))
unfolding bracket quartile
bracket_opened xs j = refl

in_opened : (counts : List ℕ) (j : ℕ) → bracket_in counts j ≡ cond (sum counts == 0) None (Some (first_bin counts (quartile_number (sum counts) j)))
unfolding bracket_in
in_opened counts j = refl

pub no_samples : (counts : List ℕ) (j : ℕ) → sum counts ≡ 0 → bracket_in counts j ≡ None
no_samples counts j none = in_opened counts j ∙ ap (λ b. cond b None (Some (first_bin counts (quartile_number (sum counts) j)))) (let e : (sum counts == 0) ≡ true = grind (arith, nat_tests) in e)

pub some_samples : (counts : List ℕ) (j : ℕ) → 1 ≤ sum counts → bracket_in counts j ≡ Some (first_bin counts (quartile_number (sum counts) j))
some_samples counts j some = in_opened counts j ∙ ap (λ b. cond b None (Some (first_bin counts (quartile_number (sum counts) j)))) (let e : (sum counts == 0) ≡ false = grind (arith, nat_tests) in e)

-- the bracket that the counts of all samples give holds the quartile
pub bracket_is : (xs : List ℕ) (j : ℕ) → sum (bins_of xs) ≡ length xs → 1 ≤ j → j ≤ 3 → bracket_in (bins_of xs) j ≡ bracket xs j
bracket_is [] j whole least most = no_samples (bins_of []) j whole ∙ sym (bracket_opened [] j ∙ ap (option_map bin_of) (numbered_opened [] (quartile_number 0 j)))
bracket_is (x ∷ xs) j whole least most =
    let ys = x ∷ xs in
    let k = quartile_number (length ys) j in
    let bounds = number_bounds (length ys) j (omega arith) least most in
    let within : k ≤ held ys 64 = omega (arith, bounds.1, whole, all_counts ys) in
    let enough : k ≤ at_most ys 65535 = omega (arith, within, count-implied (λ y. nat_lt (bin_of y) 64) (λ y. nat_le y 65535) ys small_at_most) in
    some_samples (bins_of ys) j (omega (arith, whole)) ∙ (ap (λ n. Some (first_bin (bins_of ys) (quartile_number n j))) whole ∙ sym (bracket_opened ys j ∙ all_found ys k 65535 bounds.0 enough within))

-- ---- the sorted list
take_few : (v k : ℕ) (ys : List ℕ) → ((i : ℕ) → k ≤ i → i < length ys → v ≤ get_or ys i 0) → smaller ys v ≤ k
take_few v k [] high = omega arith
take_few v zero (y ∷ ys) high =
    let here = high 0 (omega arith) (omega arith) in
    let others = take_few v 0 ys (λ i some low. high (suc i) (omega arith) (omega (arith, low))) in
    let none : one_or_none (nat_lt y v) ≡ 0 = grind (arith, nat_tests) in
    omega (arith, others, none, sum_by-cons (λ x. cond (nat_lt x v) 1 0) y ys)
take_few v (suc k) (y ∷ ys) high =
    let others = take_few v k ys (λ i some low. high (suc i) (omega (arith, some)) (omega (arith, low))) in
    let one : cond (nat_lt y v) 1 0 ≤ 1 = grind (arith, nat_tests) in
    omega (arith, others, one, sum_by-cons (λ x. cond (nat_lt x v) 1 0) y ys)

take_enough : (v k : ℕ) (ys : List ℕ) → k ≤ length ys → ((i : ℕ) → i < k → get_or ys i 0 ≤ v) → k ≤ at_most ys v
take_enough v zero ys long low = omega arith
take_enough v (suc k) [] long low = absurd (omega (arith, long))
take_enough v (suc k) (y ∷ ys) long low =
    let here = low 0 (omega arith) in
    let others = take_enough v k ys (omega (arith, long)) (λ i less. low (suc i) (omega (arith, less))) in
    let one : one_or_none (nat_le y v) ≡ 1 = grind (arith, nat_tests) in
    omega (arith, others, one, sum_by-cons (λ x. cond (nat_le x v) 1 0) y ys)

pub sorted_number : (xs sorted : List ℕ) (k : ℕ) → IsPermutation xs sorted → length sorted ≡ length xs → ((i j : ℕ) → i ≤ j → j < length sorted → get_or sorted i 0 ≤ get_or sorted j 0) → 1 ≤ k → k ≤ length xs → numbered xs k ≡ Some (get_or sorted (k - 1) 0)
sorted_number xs sorted k same long rises some few =
    let w = get_or sorted (k - 1) 0 in
    let less = take_few w (k - 1) sorted (λ i more low. rises (k - 1) i more low) in
    let enough = take_enough w k sorted (omega (arith, few, long)) (λ i low. rises i (k - 1) (omega (arith, low)) (omega (arith, few, long, some))) in
    let e1 = sum_by-IsPermutation (λ x. cond (nat_lt x w) 1 0) xs sorted same in
    let e2 = sum_by-IsPermutation (λ x. cond (nat_le x w) 1 0) xs sorted same in
    let is : HasNumber xs k w = record { fewer = omega (arith, less, e1, some); enough = omega (arith, enough, e2) } in
    let v = found xs k w some is.enough in
    v.1 ∙ ap (λ m. Some m) (same_number xs k v.0 w v.2 is)

-- ---- the walk over the counts
pub first_is : (counts : List ℕ) (number b : ℕ) → b ≤ 63 → ((i : ℕ) → i < b → reaches counts number i ≡ false) → (b < 63 → reaches counts number b ≡ true) → first_bin counts number ≡ b
first_is counts number b low fewer there =
    let long : length (below 63) ≡ 63 = length-below 63 in
    first_opened counts number ∙ position_or_len_is (reaches counts number) (below 63) b 0 (omega (arith, long, low))
    (λ i less. ap (reaches counts number) (get-below 63 i 0 (omega (arith, less, low))) ∙ fewer i less)
    (λ less. ap (reaches counts number) (get-below 63 b 0 (omega (arith, less, long))) ∙ there (omega (arith, less, long)))

pub reach_is : (counts : List ℕ) (number b before : ℕ) → before ≡ sum (take b counts) → b < length counts → number ≤ before + get_or counts b 0 → reaches counts number b ≡ true
reach_is counts number b before is low enough =
    let more = sum_by_more (λ x. x) counts b 0 low in
    of_le number (sum (take (b + 1) counts)) (omega (arith, more, is, enough))

pub copied_on : (counts bins : List ℕ) (start k : ℕ) → k < length counts → ((b : ℕ) → b < k → get_or counts b 0 ≡ get_or bins (start + b) 0) → (b : ℕ) → b < k + 1 → get_or (set counts k (get_or bins (start + k) 0)) b 0 ≡ get_or bins (start + b) 0
copied_on counts bins start k fits h b low = elim (cases_lt b k) [
  | inl less ↦ get_or-set_other counts k b (get_or bins (start + k) 0) 0 (λ e. omega (arith, e, less)) ∙ h b less
  | inr more ↦ (let e : k ≡ b = omega (arith, low, more) in subst (λ (m : ℕ). get_or (set counts k (get_or bins (start + k) 0)) m 0 ≡ get_or bins (start + m) 0) e (get_or-set_same counts k (get_or bins (start + k) 0) 0 fits))
]
